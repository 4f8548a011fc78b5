use Rattle.std.proofs.Common.{ℕ, Bool, sym, ◌∙◌, arith}
use Rattle.trace_board.specs.Tracked.{tracked_of}
use Rattle.trace_shapes.proofs.Counted.{counted_one, counted_none}
use Rattle.trace_picture.specs.Plan.{is_idle}
use Rattle.trace_picture.proofs.plan.count_idle.Goals.{then-is_idle, else-is_idle}
use Rattle.trace_picture.proofs.plan.count_idle.Goals as goal

pub loop-t-preserved : goal.loop-t-preserved
loop-t-preserved c =
    let there : ℕ → Bool = is_idle c.args.layout.now.version c.args.plan.now (tracked_of c.args.board.now) in
    let i = c.loop-t.invariant in
    elim c.if-is_idle.branch [
      | then-is_idle w ↦ record {
        count = w.count-is ∙ counted_one there c.loop-t.t c.loop-t.count i.count (sym c.is_idle.ensures ∙ w.if-is_idle.true);
        few = omega (arith, w.count-is, i.few);
      }
      | else-is_idle w ↦ record {
        count = w.count-is ∙ counted_none there c.loop-t.t c.loop-t.count i.count (sym c.is_idle.ensures ∙ w.if-is_idle.false);
        few = omega (arith, w.count-is, i.few);
      }
    ]
