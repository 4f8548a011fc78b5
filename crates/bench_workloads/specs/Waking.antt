-- Waits that an alert has ended.
use Rattle.std.specs.Prelude.{ℕ, Bool, true, false, List}
use Rattle.std.specs.List.{count_by}
use Rattle.larch_actions.specs.declared.event.Action.{Action}
use Rattle.larch_actions.specs.declared.event.Action.TheVariants.{AlertRaise}
use Rattle.larch_actions.specs.declared.event.Event.{Event}

-- an alert has ended a wait
abbrev pub is_raise : Action → Bool
is_raise (AlertRaise m c) = true
is_raise _ = false

-- how many waits an alert has ended
abbrev pub raises : List Event → ℕ
raises es = count_by (λ e. is_raise e.action) es
