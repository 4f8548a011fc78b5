use Rattle.std.proofs.Common.{◌≡◌, ◌≤◌}
use Rattle.larch_actions.specs.State.{spec_of, count_below, is_held}
use Rattle.larch_actions.proofs.state.State.count_held.Given as goal

abbrev pub invariant-loop-m : goal.invariant-loop-m
invariant-loop-m l = record { counted : l.count ≡ count_below (λ m. is_held ((spec_of l.self).holder m)) l.m; few : l.count ≤ l.m }
