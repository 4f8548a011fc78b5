-- The names of a set, one after another.
use Rattle.std.proofs.Common.{◌≡◌, ℕ, suc, ◌+◌, ◌-◌, ◌<◌, ◌≤◌, List, ◌++◌, length, refl, ap, sym, ◌∙◌, append_assoc, append-nil, true, false, arith}
use Rattle.std.proofs.lemmas.Fmt.{length-decimal-le}
use Rattle.std.specs.Prelude.{codes, decimal}
use Rattle.larch_actions.specs.declared.thread_set.ThreadSet.{ThreadSet}
use Rattle.larch_actions.specs.Sets.{in_set}
use Rattle.trace_core.specs.Text.{members, members_from, names_text}

pub three_digits : (t : ℕ) → t < 256 → length (decimal t) ≤ 3
three_digits t low = length-decimal-le 3 t (omega arith) (omega arith) (omega arith)

-- the names of the threads of the set from t on
abbrev pub names_after : ThreadSet → ℕ → List ℕ
names_after s t = names_text (members_from s t (256 - t))

pub names_first : (s : ThreadSet) (old : List ℕ) → old ++ names_after s 0 ≡ old ++ names_text (members s)
unfolding members
names_first s old = refl

pub names_with : (s : ThreadSet) (t : ℕ) (old new all : List ℕ) → t < 256 → in_set s t ≡ true → new ≡ old ++ (codes " t" ++ decimal t) → old ++ names_after s t ≡ all → new ++ names_after s (t + 1) ≡ all
unfolding members_from
names_with s t old new all low is e h =
    let k = 256 - (t + 1) in
    let size : 256 - t ≡ suc k = omega arith in
    let step : names_after s t ≡ (codes " t" ++ decimal t) ++ names_text (members_from s (t + 1) k) = ap (λ n. names_text (members_from s t n)) size ∙ rw is refl in
    ap (λ l. l ++ names_after s (t + 1)) e ∙ append_assoc old (codes " t" ++ decimal t) (names_after s (t + 1)) ∙ ap (λ l. old ++ l) (sym step) ∙ h

pub names_without : (s : ThreadSet) (t : ℕ) (old all : List ℕ) → t < 256 → in_set s t ≡ false → old ++ names_after s t ≡ all → old ++ names_after s (t + 1) ≡ all
unfolding members_from
names_without s t old all low is h =
    let k = 256 - (t + 1) in
    let size : 256 - t ≡ suc k = omega arith in
    let step : names_after s t ≡ names_text (members_from s (t + 1) k) = ap (λ n. names_text (members_from s t n)) size ∙ rw is refl in
    ap (λ l. old ++ l) (sym step) ∙ h

pub names_last : (s : ThreadSet) (old all : List ℕ) → old ++ names_after s 256 ≡ all → old ≡ all
unfolding members_from
names_last s old all h = sym (append-nil old) ∙ h
