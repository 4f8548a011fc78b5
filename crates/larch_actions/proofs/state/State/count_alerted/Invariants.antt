use Rattle.std.proofs.Common.{◌≡◌, ◌≤◌}
use Rattle.larch_actions.specs.State.{spec_of, count_below}
use Rattle.larch_actions.proofs.state.State.count_alerted.Given as goal

abbrev pub invariant-loop-t : goal.invariant-loop-t
invariant-loop-t l = record { counted : l.count ≡ count_below ((spec_of l.self).alerts) l.t; few : l.count ≤ l.t }
