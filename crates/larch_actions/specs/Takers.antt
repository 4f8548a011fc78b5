-- Who takes a mutex in a list of events, and who gives it back.
use Rattle.std.specs.Prelude.{Bool, false, ℕ, eqb, List, filter, map}
use Rattle.larch_actions.specs.declared.event.Event.{Event}
use Rattle.larch_actions.specs.declared.event.Action.{Action}
use Rattle.larch_actions.specs.declared.event.Action.TheVariants.{Acquire, Release, Enqueue, Resume, AlertEnqueue, AlertReturn, AlertRaise}

-- the action gives the mutex m back
abbrev pub gives : ℕ → Action → Bool
gives m (Release x) = eqb x.0 m
gives m (Enqueue x c) = eqb x.0 m
gives m (AlertEnqueue x c) = eqb x.0 m
gives m _ = false

-- and takes it
abbrev pub takes : ℕ → Action → Bool
takes m (Acquire x) = eqb x.0 m
takes m (Resume x c) = eqb x.0 m
takes m (AlertReturn x c) = eqb x.0 m
takes m (AlertRaise x c) = eqb x.0 m
takes m _ = false

-- the threads that gave the mutex m back, and those that took it, in order
abbrev pub givers : ℕ → List Event → List ℕ
givers m log = map (λ e. e.thread.0) (filter (λ e. gives m e.action) log)

abbrev pub takers : ℕ → List Event → List ℕ
takers m log = map (λ e. e.thread.0) (filter (λ e. takes m e.action) log)
