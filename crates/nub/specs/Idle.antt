-- A thread between two calls.
use Rattle.std.specs.Prelude.{◌≡◌, ℕ, ◌<◌, Some, None}
use mathlib.Core.Option.{some}
use lib.ListN.{get_elem?}
use Rattle.nub_rule.specs.Known.{Known, Shape}
use Rattle.nub.specs.Rest.{AtRest}

-- the thread n of the package is between two calls, holds no mutex, and has this share
pub record IsIdle {T H W : Type 0} (p : Shape W) (n : ℕ) (s : H) (t : Known T H W) : Type 0 where
  pub number : t.number ≡ n
  pub rest : AtRest p t
  pub world : t.world ≡ Some p.world
  pub lacks : (m : ℕ) → m < 64 → get_elem? t.held m ≡ some None
  pub lacks_named : (m : ℕ) → m < p.layout.mutexes → get_elem? t.held m ≡ some None
  pub none : (m : ℕ) (x : T) → ¬ (get_elem? t.held m ≡ some (Some x))
  pub share : t.share ≡ Some s
