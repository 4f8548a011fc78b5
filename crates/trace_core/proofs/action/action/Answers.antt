use Rattle.std.proofs.Common.{◌≡◌, sym, ◌∙◌, ap, drop, arith}
use Rattle.larch_actions.specs.Rows.{words}
use Rattle.trace_core.specs.Lines.{rows_at}
use Rattle.trace_core.proofs.RowWays.{none_here, more_here, found_here}
use Rattle.trace_core.proofs.action.action.Goals as goal

pub returns-in-Err-More : goal.returns-in-Err-More
returns-in-Err-More c =
    sym c.loop-word.invariant ∙ more_here c.args.layout.now words c.loop-word.word-index _ c.args.bytes.now (omega arith) (rw c.in-Err-More.field-0-is at c.in-Err-More.ensures)

pub returns-in-Ok : goal.returns-in-Ok
returns-in-Ok c =
    sym c.loop-word.invariant ∙ found_here c.args.layout.now words c.loop-word.word-index _ c.args.bytes.now (c.in-Ok.read.0, c.in-Ok.read.1.now) (omega arith) c.in-Ok.ensures

pub loop-word-preserved : goal.loop-word-preserved
loop-word-preserved c =
    sym (none_here c.args.layout.now words c.loop-word.word-index _ c.args.bytes.now (omega arith) (rw c.in-Err-Dead.field-0-is at c.in-Err-Dead.ensures)) ∙ c.loop-word.invariant

pub returns : goal.returns
returns c =
    let end : c.loop-word.word-index ≡ 16 = omega arith in
    sym c.loop-word.invariant ∙ ap (λ n. rows_at c.args.layout.now (drop n words) c.args.bytes.now) end
