use Rattle.std.proofs.Common.{ℕ, Bool, sym, ◌∙◌, arith}
use Rattle.std.specs.Prelude.{is_some}
use Rattle.trace_board.specs.Causes.{cause_of}
use Rattle.trace_board.specs.Tracked.{came}
use Rattle.trace_shapes.proofs.Counted.{counted_one, counted_none}
use Rattle.trace_picture.proofs.shown.count_let_go.Goals.{then-is_let_go, else-is_let_go}
use Rattle.trace_picture.proofs.shown.count_let_go.Goals as goal

pub loop-t-preserved : goal.loop-t-preserved
loop-t-preserved c =
    let there : ℕ → Bool = λ t. is_some (came (cause_of c.args.board.now.stands t)) in
    let i = c.loop-t.invariant in
    elim c.if-is_let_go.branch [
      | then-is_let_go w ↦ record {
        count = w.count-is ∙ counted_one there c.loop-t.t c.loop-t.count i.count (sym c.is_let_go.ensures ∙ w.if-is_let_go.true);
        few = omega (arith, w.count-is, i.few);
      }
      | else-is_let_go w ↦ record {
        count = w.count-is ∙ counted_none there c.loop-t.t c.loop-t.count i.count (sym c.is_let_go.ensures ∙ w.if-is_let_go.false);
        few = omega (arith, w.count-is, i.few);
      }
    ]
