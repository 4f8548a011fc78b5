-- How a job that gives Stop stops the workers.
use Rattle.std.specs.Prelude.{◌≡◌, ◌⊎◌, ℕ, zero, suc, eqb, if◌then◌else◌, List, [], ◌∷◌, ◌++◌}
use Rattle.std.specs.List.{AllByRecursion}
use Rattle.larch_actions.specs.declared.event.Event.{Event}
use Rattle.nub_rule.specs.Known.{Shape}
use Rattle.nub_rule.specs.Plays.{alert_event}
use Rattle.job_pool.specs.declared.batch.Batch.{Batch}
use Rattle.job_pool.specs.declared.item.Item.{Item}
use Rattle.job_pool.specs.declared.job.Work.{Work}
use Rattle.job_pool.specs.Slots.{HasStop, MayBeWorked}
use Rattle.job_pool.specs.Working.{HasWorked, Worker}

-- the thread n alerts each of the first threads but itself
abbrev pub alerts_by : ℕ → ℕ → List Event
alerts_by n zero = []
alerts_by n (suc t) = alerts_by n t ++ (if eqb t n then [] else alert_event n t ∷ [])

-- no job of the batch gave Stop
abbrev pub IsUnstopped : {J : Type 0} → Item (Batch J) → Type 0
IsUnstopped i = HasStop i.batch.slots.items → ⊥

-- no batch has a job that gave Stop
-- or the last one alone has, and the thread's last events are its alerts of all others
abbrev pub ReportsStop : {J : Type 0} → ℕ → ℕ → List (Item (Batch J)) → List Event → Type 0
ReportsStop {J} n threads items mine =
    AllByRecursion IsUnstopped items
    ⊎ ((before : List (Item (Batch J))) × (last : Item (Batch J)) × (es : List Event) × AllByRecursion IsUnstopped before
    × (items ≡ before ++ last ∷ []) × (mine ≡ es ++ alerts_by n threads))

-- the thread n has worked on these batches, and reported a Stop
pub record HasEndedWork {J : Type 0} (state : J → List ℕ) (gives : J → Work) (next : J → List ℕ) (p : Shape (Unit {0})) (n : ℕ)
    (items : List (Item (Batch J))) (t : Worker (Batch J)) : Type 0 where
  pub worked : HasWorked (MayBeWorked state gives next) p n items t
  pub stop : ReportsStop n p.layout.threads items t.mine
