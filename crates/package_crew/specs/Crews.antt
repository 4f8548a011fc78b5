-- Threads that were handed to a closure and came back.
use Rattle.std.specs.Prelude.{◌≡◌, ℕ, List}
use mathlib.Core.Option.{some}
use lib.ListN.{get_elem?}

-- this was handed over at n, and what the closure left at n goes with it
pub record CameBack {T X : Type 0} (gave : T → X → Type 0) (threads : List T) (results : List X) (n : ℕ) : Type 0 where
  pub was : T
  pub is_was : get_elem? threads n ≡ some was
  pub left : X
  pub is_left : get_elem? results n ≡ some left
  pub goes : gave was left
