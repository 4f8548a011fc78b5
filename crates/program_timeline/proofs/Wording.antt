-- What four words ask for.
use Rattle.std.proofs.Common.{◌≡◌, inl, inr, ℕ, List, [], ◌∷◌, ◌++◌, length, get_or, sym, arith, Option, Some, None}
use Rattle.std.specs.Prelude.{IfSome, IfNone}
use Rattle.trace_shapes.specs.declared.view.DrawnRange.{DrawnRange}
use Rattle.program_timeline.specs.Words.{AsksFor, AsksOrdered, IsPair, Wants, view_between}

-- four words of which two say the first bound and two the second ask for what lies between
abbrev IsUp : List ℕ → List ℕ → List ℕ → List ℕ → DrawnRange → Type 0
IsUp a b c d v = (k n : ℕ) × IsPair (a ∷ b ∷ []) (c ∷ d ∷ []) k n × (v ≡ view_between (Some k) (Some n))

pub up_asks : (a b c d : List ℕ) (v : DrawnRange) → IsUp a b c d v → AsksFor (a ∷ b ∷ c ∷ d ∷ []) v
up_asks a b c d v (k, n, p, e) = (Some k, Some n, record { spelt = inl (λ i. p.0 i ++ p.1 i); first = p.2; last = p.3 }, e)

pub down_asks : (a b c d : List ℕ) (v : DrawnRange) → IsUp c d a b v → AsksFor (a ∷ b ∷ c ∷ d ∷ []) v
down_asks a b c d v (k, n, p, e) = (Some k, Some n, record { spelt = inr (λ i. p.1 i ++ p.0 i); first = p.2; last = p.3 }, e)

pub down_some : (a b c d : List ℕ) (r : Option DrawnRange) → IfSome r (IsUp c d a b) → IfSome r (AsksFor (a ∷ b ∷ c ∷ d ∷ []))
down_some a b c d None h = tt
down_some a b c d (Some v) h = down_asks a b c d v h

-- a list of one item, one of two and one of four
pub one_item : {X : Type 0} (xs : List X) (a : X) → length xs ≡ 1 → a ≡ get_or xs 0 a → xs ≡ a ∷ []
one_item [] a e p = absurd (omega (arith, e))
one_item (x ∷ []) a e p = λ i. sym p i ∷ []
one_item (x ∷ y ∷ xs) a e p = absurd (omega (arith, e))

pub same_word : (a b : List ℕ) → a ∷ [] ≡ b ∷ [] → a ≡ b
same_word a b e = cc

pub two_items : {X : Type 0} (xs : List X) (a b : X) → length xs ≡ 2 → a ≡ get_or xs 0 a → b ≡ get_or xs 1 b → xs ≡ a ∷ b ∷ []
two_items [] a b e p q = absurd (omega (arith, e))
two_items (x ∷ []) a b e p q = absurd (omega (arith, e))
two_items (x ∷ y ∷ []) a b e p q = λ i. sym p i ∷ sym q i ∷ []
two_items (x ∷ y ∷ z ∷ xs) a b e p q = absurd (omega (arith, e))

pub four_items : {X : Type 0} (xs : List X) (a b c d : X) → length xs ≡ 4 → a ≡ get_or xs 0 a → b ≡ get_or xs 1 b → c ≡ get_or xs 2 c → d ≡ get_or xs 3 d → xs ≡ a ∷ b ∷ c ∷ d ∷ []
four_items [] a b c d e p q r s = absurd (omega (arith, e))
four_items (x ∷ []) a b c d e p q r s = absurd (omega (arith, e))
four_items (x ∷ y ∷ []) a b c d e p q r s = absurd (omega (arith, e))
four_items (x ∷ y ∷ z ∷ []) a b c d e p q r s = absurd (omega (arith, e))
four_items (x ∷ y ∷ z ∷ w ∷ []) a b c d e p q r s = λ i. sym p i ∷ sym q i ∷ sym r i ∷ sym s i ∷ []
four_items (x ∷ y ∷ z ∷ w ∷ v ∷ xs) a b c d e p q r s = absurd (omega (arith, e))

-- what is found, or not, after the first word is so of all of them
pub wants_some : (words : List (List ℕ)) (r : Option DrawnRange) → IfSome r (AsksOrdered words) → IfSome r (Wants words)
wants_some words None h = tt
wants_some words (Some v) h = inr h

pub wants_none : (words : List (List ℕ)) (r : Option DrawnRange) → ((v : DrawnRange) → AsksFor words v → ⊥) → IfNone r ((v : DrawnRange) → AsksOrdered words v → ⊥) → IfNone r ((v : DrawnRange) → Wants words v → ⊥)
wants_none words (Some v) never h = tt
wants_none words None never h = λ v w. elim w [
  | inl a ↦ never v a
  | inr b ↦ h v b
]
