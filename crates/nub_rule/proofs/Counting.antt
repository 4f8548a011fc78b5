-- How many different numbers below n there can be.
use Rattle.std.proofs.Common.{Bool, true, false, cond, ◌≡◌, ◌≢◌, ℕ, zero, suc, ◌+◌, ◌<◌, ◌≤◌, eqb, List, [], ◌∷◌, length, refl, sym, ap, ◌∙◌, subst, arith, eq-eqb, ne_eqb}
use mathlib.Core.Logic.{dite}
use native.Mathlib.Decide.{ℕ_discrete}
use Rattle.larch_actions.specs.Sets.{mem, without}
use Rattle.larch_actions.proofs.Sets.{mem-here, mem-else, mem-gone, mem-without}
use Rattle.nub_rule.specs.Items.{Distinct, Small}
use Rattle.nub_rule.proofs.Lines.{false_true, without-absent, distinct-without}

always : (b : Bool) → cond b true true ≡ true
always true = refl
always false = refl

pub length-without : (t : ℕ) (xs : List ℕ) → Distinct xs → length xs ≤ length (without t xs) + 1
length-without t [] d = omega arith
length-without t (x ∷ xs) d = dite (ℕ_discrete x t)
    (λ e. let a : without t xs ≡ xs = without-absent t xs (ap (λ (z : ℕ). mem z xs) (sym e) ∙ d.0) in
    let f : length (without t (x ∷ xs)) ≡ length xs = ap (λ b. length (cond b (without t xs) (x ∷ without t xs))) (eq-eqb x t e) ∙ ap (λ l. length l) a in omega arith)
    (λ ne. let h = length-without t xs d.1 in let f : length (without t (x ∷ xs)) ≡ length (x ∷ without t xs) = ap (λ b. length (cond b (without t xs) (x ∷ without t xs))) (ne_eqb x t ne) in omega arith)

-- there are not more different numbers below n than n
pigeons : (n : ℕ) (xs : List ℕ) → Distinct xs → ((t : ℕ) → mem t xs ≡ true → t < n) → length xs ≤ n
pigeons zero [] d low = omega arith
pigeons zero (x ∷ xs) d low = let h = low x (mem-here x x xs refl) in absurd (omega arith)
pigeons (suc n) xs d low = let long = length-without n xs d in
    let h = pigeons n (without n xs) (distinct-without n xs d) (λ t there.
    let ne : t ≢ n = λ e. false_true (sym (ap (λ (z : ℕ). mem z (without n xs)) e ∙ mem-gone n xs) ∙ there) in
    let up = low t (sym (mem-without t n xs ne) ∙ there) in omega arith) in omega arith

-- there is room for a thread that isn't there
pub room_to_push : (n k : ℕ) (xs : List ℕ) → Distinct xs → ((t : ℕ) → mem t xs ≡ true → t < n) → k < n → mem k xs ≡ false → length xs < n
room_to_push n k xs d low here out = let h = pigeons n (k ∷ xs) (out, d) (λ t there. dite (ℕ_discrete k t)
    (λ e. subst (λ (z : ℕ). z < n) e here)
    (λ ne. low t (sym (mem-else t k xs ne) ∙ there))) in omega arith

pub small_of : (n : ℕ) (xs : List ℕ) → ((t : ℕ) → mem t xs ≡ true → t < n) → Small n xs
small_of n [] h = tt
small_of n (x ∷ xs) h = (h x (mem-here x x xs refl), small_of n xs (λ t there. h t (ap (λ b. cond (eqb x t) true b) there ∙ always (eqb x t))))
