-- The places of numbers, written down by the numbers.
use Rattle.std.proofs.Common.{◌≡◌, ℕ, ◌+◌, ◌<◌, ◌≤◌, List, length, get_or, set, arith, sym, ap, subst, ◌∙◌, ⊎_elim}
use Rattle.std.proofs.lemmas.Bool.{cases_lt, cases_eq}
use Rattle.std.proofs.lemmas.List.{get_or-set_same, get_or-set_other}

-- the first so many have theirs
abbrev pub AreFilled : List ℕ → List ℕ → ℕ → Type 0
AreFilled vs ranks n = (k : ℕ) → k < n → (get_or ranks (get_or vs k 0) 0 < length vs) × (get_or vs (get_or ranks (get_or vs k 0) 0) 0 ≡ get_or vs k 0)

pub filled_more : (vs ranks : List ℕ) (n : ℕ) → n < length vs → get_or vs n 0 < length ranks → AreFilled vs ranks n → AreFilled vs (set ranks (get_or vs n 0) n) (n + 1)
filled_more vs ranks n within fits before k below =
    let w = get_or vs n 0 in
    let v = get_or vs k 0 in
    ⊎_elim
    (λ (same : v ≡ w).
    let at : get_or (set ranks w n) v 0 ≡ n = ap (λ x. get_or (set ranks w n) x 0) same ∙ get_or-set_same ranks w n 0 fits in
    (subst (λ x. x < length vs) (sym at) within, ap (λ x. get_or vs x 0) at ∙ sym same))
    (λ (apart : v ≡ w → ⊥).
    let at : get_or (set ranks w n) v 0 ≡ get_or ranks v 0 = get_or-set_other ranks w v n 0 apart in
    let near : k < n = ⊎_elim (λ (lt : k < n). lt) (λ (ge : n ≤ k). let e : k ≡ n = omega arith in absurd (apart (ap (λ x. get_or vs x 0) e))) (cases_lt k n) in
    let old = before k near in
    (subst (λ x. x < length vs) (sym at) old.0, ap (λ x. get_or vs x 0) at ∙ old.1))
    (cases_eq v w)
