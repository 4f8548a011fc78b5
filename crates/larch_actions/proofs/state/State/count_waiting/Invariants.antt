use Rattle.std.proofs.Common.{◌≡◌, ◌≤◌}
use Rattle.larch_actions.specs.State.{spec_of, count_below, is_begun}
use Rattle.larch_actions.proofs.state.State.count_waiting.Given as goal

abbrev pub invariant-loop-t : goal.invariant-loop-t
invariant-loop-t l = record { counted : l.count ≡ count_below (λ t. is_begun ((spec_of l.self).pending t)) l.t; few : l.count ≤ l.t }
