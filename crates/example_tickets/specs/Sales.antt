-- The tickets that are left, and what each thread has sold.
use Rattle.std.specs.Prelude.{◌≡◌, ℕ, ◌+◌, ◌≤◌, true, false, List, Some}
use mathlib.Core.Option.{some}
use lib.ListN.{get_elem?}
use Rattle.firefly_threads.specs.Known.{Known}
use Rattle.firefly_threads.specs.Guarded.{OneValue}
use Rattle.firefly_threads.specs.Totals.{total}
use Rattle.example_tickets.specs.declared.uses.Sold.{Sold}

-- the share of a thread that has sold nothing yet
abbrev pub none_sold : Sold
none_sold = record { count = 0; none_left = false }

-- how many tickets the shares have sold
abbrev pub sold_by : List Sold → ℕ
sold_by shares = total (λ s. s.count) shares

-- each ticket is left or was sold once, and if a thread has seen that none is left, none is
pub record IsSold (tickets left : ℕ) (shares : List Sold) : Type 0 where
  pub all : left + sold_by shares ≡ tickets
  pub seen : (t : ℕ) (s : Sold) → get_elem? shares t ≡ some s → s.none_left ≡ true → left ≡ 0

-- this holds of the value of the one mutex
abbrev pub AreSold : ℕ → List ℕ → List Sold → Type 0
AreSold tickets values shares = OneValue (IsSold tickets) values shares

-- what a holder knows of the tickets left and of its own share
pub record IsPart (tickets left : ℕ) (s : Sold) : Type 0 where
  pub few : left + s.count ≤ tickets

-- what is taken from the tickets left is added to the share
pub record IsSale (left now : ℕ) (s r : Sold) : Type 0 where
  pub falls : now ≤ left
  pub alike : left + s.count ≡ now + r.count
  pub recorded : r.none_left ≡ true → now ≡ 0

-- the share says that this many were sold, and that its thread has seen that none is left
pub record HasSold (sold : ℕ) (s : Sold) : Type 0 where
  pub count : s.count ≡ sold
  pub seen : s.none_left ≡ true

-- the thread n has sold as many tickets as the list says at n
pub record IsSaid (tickets : ℕ) (said : List ℕ) (n : ℕ) (t : Known ℕ Sold ℕ) : Type 0 where
  pub world : t.world ≡ Some tickets
  pub sold : ℕ
  pub is_said : get_elem? said n ≡ some sold
  pub share : Sold
  pub is_share : t.share ≡ Some share
  pub has : HasSold sold share
