use Rattle.std.proofs.Common.{◌≡◌, drop}
use Rattle.larch_actions.specs.Rows.{words}
use Rattle.trace_core.specs.Lines.{rows_at, action_at}
use Rattle.trace_core.proofs.action.action.Given as goal

abbrev pub invariant-loop-word : goal.invariant-loop-word
invariant-loop-word l = rows_at l.layout (drop l.word-index words) l.bytes ≡ action_at l.layout l.bytes
