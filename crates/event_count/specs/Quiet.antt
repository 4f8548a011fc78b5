-- The Signal or Broadcast of a condition in which no thread waits.
use Rattle.std.specs.Prelude.{Bool, true, false, ℕ, []}
use Rattle.larch_actions.specs.declared.event.Action.{Action}
use Rattle.nub_rule.specs.Plays.{broadcast_action, signal_action}

-- a Broadcast of the condition c, or a Signal of it, that leaves no thread in it
abbrev pub quiet_action : Bool → ℕ → Action
quiet_action true c = broadcast_action c []
quiet_action false c = signal_action c []
