-- A thread that holds one mutex.
use Rattle.std.specs.Prelude.{◌≡◌, ◌≢◌, ℕ, ◌<◌, Some, None}
use mathlib.Core.Option.{some}
use lib.ListN.{get_elem?}
use Rattle.nub_rule.specs.Known.{Known, Shape, Holds}
use Rattle.nub.specs.Rest.{AtRest}

-- the thread n of the package is between two calls, holds the mutex m and no other, got the value x
-- with it, and has this share
pub record IsHolding {T H W : Type 0} (p : Shape W) (n m : ℕ) (s : H) (x : T) (t : Known T H W) : Type 0 where
  pub number : t.number ≡ n
  pub rest : AtRest p t
  pub world : t.world ≡ Some p.world
  pub holds : Holds t m x
  pub lacks : (k : ℕ) → k ≢ m → k < 64 → get_elem? t.held k ≡ some None
  pub lacks_named : (k : ℕ) → k ≢ m → k < p.layout.mutexes → get_elem? t.held k ≡ some None
  pub none : (k : ℕ) (y : T) → k ≢ m → ¬ (get_elem? t.held k ≡ some (Some y))
  pub share : t.share ≡ Some s
