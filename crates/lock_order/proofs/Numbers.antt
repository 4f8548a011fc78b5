-- Tests of numbers.
use Rattle.std.proofs.Common.{◌≡◌, ◌≢◌, ℕ, Bool, true, false, ◌⊎◌, inl, inr, eqb, sym, ◌∙◌, eq-eqb, ne_eqb}
use mathlib.Core.Logic.{dite}
use native.Mathlib.Decide.{ℕ_discrete}

pub false_true : false ≡ true → ⊥
false_true e = cc

pub both_ways : {A : Type 0} (b : Bool) → b ≡ true → b ≡ false → A
both_ways b e f = absurd (false_true (sym f ∙ e))

-- two numbers are the same, and the test says so, or not
pub same_or : (a b : ℕ) → ((a ≡ b) × (eqb a b ≡ true)) ⊎ ((a ≢ b) × (eqb a b ≡ false))
same_or a b = dite (ℕ_discrete a b) (λ e. inl (e, eq-eqb a b e)) (λ ne. inr (ne, ne_eqb a b ne))

pub true_or : (b : Bool) → (b ≡ true) ⊎ (b ≡ false)
true_or true = inl (λ i. true)
true_or false = inr (λ i. false)
