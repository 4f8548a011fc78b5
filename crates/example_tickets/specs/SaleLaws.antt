-- The laws of the sale as a use of the package: a thread that takes the tickets finds what it knows
-- of them, and a sale keeps the account.
use Rattle.std.specs.Prelude.{◌≡◌, ◌≢◌, ℕ, List, slice_set}
use Rattle.std.proofs.Common.{arith, ap, ◌∙◌, ⊎_elim}
use mathlib.Core.Option.{some}
use lib.ListN.{get_elem?}
use Rattle.firefly_threads.specs.Laws.{at_set, one_after, own_part, part_set}
use Rattle.example_tickets.specs.declared.uses.Sold.{Sold}
use Rattle.example_tickets.specs.Sales.{AreSold, IsPart, IsSale, IsSold}

pub fits_part : (w : ℕ) (values : List ℕ) (shares : List Sold) → AreSold w values shares → (m x : ℕ) → get_elem? values m ≡ some x
    → (t : ℕ) (s : Sold) → get_elem? shares t ≡ some s → IsPart w x s
fits_part w values shares h m x at t s there = let a = own_part (λ (r : Sold). r.count) shares t s there in let b = (h.each m x at).all in
    record { few = omega arith }

pub after_sale : (w : ℕ) (values : List ℕ) (shares : List Sold) → AreSold w values shares → (m x y : ℕ) → get_elem? values m ≡ some x
    → (t : ℕ) (s r : Sold) → get_elem? shares t ≡ some s → IsSale x y s r
    → AreSold w (slice_set values m y) (slice_set shares t r)
after_sale w values shares h m x y at t s r there ok = one_after (IsSold w) values shares (slice_set shares t r) m x y h at (λ was.
    let sum = part_set (λ (u : Sold). u.count) shares t s r there in
    let before = was.all in
    let falls = ok.falls in
    let alike = ok.alike in
    record {
      all = omega arith;
      seen = λ u q f recorded. ⊎_elim
          (λ (o : (u ≡ t) × (r ≡ q)). ok.recorded (ap (λ (v : Sold). v.none_left) o.1 ∙ recorded))
          (λ (o : (u ≢ t) × (get_elem? shares u ≡ some q)). let none = was.seen u q o.1 recorded in omega arith)
          (at_set shares t u r q f);
    })
