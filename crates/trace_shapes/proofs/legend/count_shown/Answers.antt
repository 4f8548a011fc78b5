use Rattle.std.proofs.Common.{sym, ◌∙◌, arith}
use Rattle.trace_board.specs.History.{entry_of}
use Rattle.trace_shapes.specs.Legend.{is_shown}
use Rattle.trace_shapes.proofs.Counted.{counted_one, counted_none}
use Rattle.trace_shapes.proofs.legend.count_shown.Goals.{then-is_shown, else-is_shown}
use Rattle.trace_shapes.proofs.legend.count_shown.Goals as goal

pub loop-place-preserved : goal.loop-place-preserved
loop-place-preserved c =
    let shown = is_shown (entry_of c.args.shown.now) in
    let i = c.loop-place.invariant in
    elim c.if-is_shown.branch [
      | then-is_shown w ↦ record {
        count = w.count-is ∙ counted_one shown c.loop-place.place c.loop-place.count i.count (sym c.is_shown.ensures ∙ w.if-is_shown.true);
        few = omega (arith, w.count-is, i.few);
      }
      | else-is_shown w ↦ record {
        count = w.count-is ∙ counted_none shown c.loop-place.place c.loop-place.count i.count (sym c.is_shown.ensures ∙ w.if-is_shown.false);
        few = omega (arith, w.count-is, i.few);
      }
    ]
