-- Plans, and the layout of the package of a plan.
use Rattle.std.specs.Prelude.{◌≡◌, ℕ, ◌+◌, ◌≤◌, Some}
use Rattle.larch_actions.specs.declared.event.Layout.{Layout}
use Rattle.larch_actions.specs.declared.event.Version.TheVariants.{One}
use Rattle.indexer.specs.declared.plan.Plan.{Plan}

-- 1 to 8 workers of each kind, and a stop within its limit
pub record IsPlan (p : Plan) : Type 0 where
  pub walkers : (1 ≤ p.walkers) × (p.walkers ≤ 8)
  pub parsers : (1 ≤ p.parsers) × (p.parsers ≤ 8)
  pub mergers : (1 ≤ p.mergers) × (p.mergers ≤ 8)
  pub stop : (n : ℕ) → p.stop_after ≡ Some n → n ≤ 1000000000

-- the caller and the workers; the directories in work and two buffers, with their conditions
abbrev pub layout_of : Plan → Layout
layout_of p = record { version = One; threads = 1 + p.walkers + p.parsers + p.mergers; mutexes = 3; conditions = 5; semaphores = 0 }
