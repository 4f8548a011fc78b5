-- What the answer of a test says.
use Rattle.std.proofs.Common.{◌≡◌, ◌↔◌, IsTrue, ◌⊎◌, inl, inr, ℕ, ◌<◌, ◌≤◌, Bool, true, false, sym, ◌∙◌, arith}

pub never : false ≡ true → ⊥
never e = cc

-- a test that fails says that its fact doesn't hold
pub fails : (b : Bool) (A : Type 0) → (IsTrue b ↔ A) → b ≡ false → A → ⊥
fails b A tells off a = never (sym off ∙ tells.1 a)

pub below : (m n : ℕ) → (m < n) ⊎ (n ≤ m)
below m n = grind arith

pub not_below : (b : Bool) (m n : ℕ) → (IsTrue b ↔ (m < n)) → b ≡ false → n ≤ m
not_below b m n tells off = elim (below m n) [ inl low ↦ absurd (fails b (m < n) tells off low) | inr past ↦ past ]
