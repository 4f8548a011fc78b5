-- The two laws of a use with one mutex, of one value at a time, and its opening.
use Rattle.std.proofs.Common.{◌≡◌, ℕ, List, [], ◌∷◌, slice_set, sym, subst}
use mathlib.Core.Option.{some}
use lib.ListN.{get_elem?}
use Rattle.nub_rule.specs.Ends.{firsts}
use Rattle.nub.specs.Guarded.{OneValue}
use Rattle.nub.proofs.Guards.{one_after, one_begins}

module _ {V H : Type 0} (guard : V → List H → Type 0) where
  -- what a holder knows of the value and of its own share follows from the guard
  pub one_fits : (knows : V → H → Type 0)
      → ((x : V) (shares : List H) (t : ℕ) (s : H) → get_elem? shares t ≡ some s → guard x shares → knows x s)
      → (values : List V) (shares : List H) → OneValue guard values shares → (m : ℕ) (x : V) → get_elem? values m ≡ some x
      → (t : ℕ) (s : H) → get_elem? shares t ≡ some s → knows x s
  one_fits knows follows values shares h m x at t s there = follows x shares t s there (h.each m x at)

  -- a change of the value and of a share keeps the guard
  pub one_kept : (moves : V → V → H → H → Type 0)
      → ((x y : V) (shares : List H) (t : ℕ) (s r : H) → get_elem? shares t ≡ some s → moves x y s r → guard x shares
      → guard y (slice_set shares t r))
      → (values : List V) (shares : List H) → OneValue guard values shares → (m : ℕ) (x y : V) → get_elem? values m ≡ some x
      → (t : ℕ) (s r : H) → get_elem? shares t ≡ some s → moves x y s r → OneValue guard (slice_set values m y) (slice_set shares t r)
  one_kept moves keeps values shares h m x y at t s r there may =
      one_after guard values shares (slice_set shares t r) m x y h at (keeps x y shares t s r there may)

  -- the guard holds of the value and the first shares of k threads
  pub one_opens : (begin : ℕ → H) (k : ℕ) (x : V) → guard x (firsts begin k)
      → (values : List V) (n : ℕ) → values ≡ x ∷ [] → n ≡ k → OneValue guard values (firsts begin n)
  one_opens begin k x ok values n is many =
      subst (λ i. OneValue guard values (firsts begin i)) (sym many) (one_begins guard values (firsts begin k) x is ok)
