use Rattle.std.proofs.Common.{◌≡◌, drop}
use Rattle.std.specs.List.{list_any}
use Rattle.index_find.specs.Asked.{is_not_step}
use Rattle.index_find.proofs.query.Query.negates.Given as goal

abbrev pub invariant-loop-step : goal.invariant-loop-step
invariant-loop-step l = list_any is_not_step (drop l.step-index l.step-items) ≡ list_any is_not_step l.step-items
