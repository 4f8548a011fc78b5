-- What the readers of a line give, by what their parts give.
use Rattle.std.proofs.Common.{◌≡◌, ℕ, ◌-◌, ◌<◌, ◌≤◌, List, [], ◌∷◌, length, drop, take, get_or, refl, ap, sym, subst, ◌∙◌, Ok, Err, Bool, true, arith}
use Rattle.std.proofs.Math.Seq.{take-length}
use Rattle.exact_text.specs.declared.stop.Stop.{Stop}
use Rattle.exact_text.specs.Reading.{number_at}
use Rattle.exact_text.proofs.Numbers.{number_at-found}
use Rattle.larch_actions.specs.declared.event.Layout.{Layout}
use Rattle.script_text.specs.declared.table.Numbers.{Numbers}
use Rattle.script_text.specs.declared.table.Operand.{Operand}
use Rattle.script_text.specs.NextLine.{any, number_is, this_number, some_number, stop_of, operand_at, operands_at}
use Rattle.script_text.specs.Table.{first_of, IsSmall, AreSmall}
use Rattle.script_text.proofs.LineCode.{some_number_code}
use Rattle.script_text.proofs.Operands.{take_two}

pub this_is : (may : ℕ → Bool) (stop k : ℕ) (bytes : List ℕ) → may k ≡ true → this_number may stop k bytes ≡ number_is stop k bytes
this_is may stop k bytes e = rw e refl

-- a number that is read by its digits is one of those that are tried
pub some_is : (may : ℕ → Bool) (bound stop n : ℕ) (bytes rest : List ℕ) → bound ≤ 256 → stop < 48 → number_at 0 bound stop bytes ≡ Ok (n, rest) → may n ≡ true
    → some_number may bound stop bytes ≡ Ok (n, rest)
some_is may bound stop n bytes rest few low e stands =
    let f = number_at-found 0 bound stop (omega (arith, few)) bytes rest n e in
    ap (some_number may bound stop) f.1 ∙ (some_number_code may bound stop few low).again n rest (f.0.1, stands)

-- all but the first, as a slice
abbrev pub later : List Operand → List Operand
later ks = take (length ks - 1) (drop 1 ks)

all_later : (k : Operand) (ks : List Operand) → later (k ∷ ks) ≡ ks
all_later k ks =
    let n : length (k ∷ ks) - 1 ≡ length ks = omega arith in
    ap (λ i. take i ks) n ∙ take-length ks

module _ (l : Layout) (may : ℕ → Bool) where
  pub one_more : (ks : List Operand) (none : Operand) (stop x : ℕ) (others : Numbers) (bytes rest last : List ℕ) → 1 ≤ length ks → length ks ≤ 3 → stop ≡ stop_of (later ks) → operand_at l may (get_or ks 0 none) stop bytes ≡ Ok (x, rest)
      → operands_at l any (later ks) rest ≡ Ok (first_of (later ks) others, last) → operands_at l may ks bytes ≡ Ok (first_of ks (record { first = x; second = others.first; third = others.second }), last)
  one_more [] none stop x others bytes rest last some few s a b = absurd (omega arith)
  one_more (k ∷ ks) none stop x others bytes rest last some few s a b =
      let all : later (k ∷ ks) ≡ ks = all_later k ks in
      let first : operand_at l may k (stop_of ks) bytes ≡ Ok (x, rest) = ap (λ i. operand_at l may k i bytes) (sym (s ∙ ap stop_of all)) ∙ a in
      let others_read : operands_at l any ks rest ≡ Ok (first_of ks others, last) =
      let P : List Operand → Type 0 = λ js. operands_at l any js rest ≡ Ok (first_of js others, last) in subst P all b
      in
      let same : first_of ks others ≡ take (length ks) (others.first ∷ others.second ∷ []) = take_two ks others.first others.second others.third (omega (arith, few)) in
      rw (first, others_read) (ap (λ ns. Ok (x ∷ ns, last)) same)

  pub one_fewer : (ks : List Operand) (none : Operand) (stop x : ℕ) (why : Stop) (bytes rest : List ℕ) → 1 ≤ length ks → stop ≡ stop_of (later ks) → operand_at l may (get_or ks 0 none) stop bytes ≡ Ok (x, rest)
      → operands_at l any (later ks) rest ≡ Err why → operands_at l may ks bytes ≡ Err why
  one_fewer [] none stop x why bytes rest some s a b = absurd (omega arith)
  one_fewer (k ∷ ks) none stop x why bytes rest some s a b =
      let all : later (k ∷ ks) ≡ ks = all_later k ks in
      let first : operand_at l may k (stop_of ks) bytes ≡ Ok (x, rest) = ap (λ i. operand_at l may k i bytes) (sym (s ∙ ap stop_of all)) ∙ a in
      let none_read : operands_at l any ks rest ≡ Err why = ap (λ js. operands_at l any js rest) (sym all) ∙ b in
      rw (first, none_read) refl

two_small : (ks : List Operand) (a b e : ℕ) → length ks ≤ 2 → AreSmall ks (a ∷ b ∷ e ∷ []) → AreSmall ks (a ∷ b ∷ [])
two_small [] a b e few h = tt
two_small (i ∷ []) a b e few h = (h.0, tt)
two_small (i ∷ j ∷ []) a b e few h = (h.0, (h.1.0, tt))
two_small (i ∷ j ∷ k ∷ ks) a b e few h = absurd (omega arith)

pub more_small : (ks : List Operand) (none : Operand) (x a b e : ℕ) → 1 ≤ length ks → length ks ≤ 3 → IsSmall (get_or ks 0 none) x → AreSmall (later ks) (a ∷ b ∷ e ∷ []) → AreSmall ks (x ∷ a ∷ b ∷ [])
more_small [] none x a b e some few s h = absurd (omega arith)
more_small (k ∷ ks) none x a b e some few s h = (s, two_small ks a b e (omega (arith, few)) (let P : List Operand → Type 0 = λ js. AreSmall js (a ∷ b ∷ e ∷ []) in subst P (all_later k ks) h))
