use Rattle.std.proofs.Common.{ℕ, List, ◌+◌, ◌++◌, take, ap, sym, ◌∙◌, append-nil, arith}
use Rattle.trace_board.specs.Causes.{cause_of}
use Rattle.trace_board.specs.History.{entry_of}
use Rattle.trace_board.specs.Tracked.{came}
use Rattle.trace_shapes.specs.Shapes.{each_below}
use Rattle.trace_picture.specs.Bands.{wait_if}
use Rattle.trace_shapes.proofs.Added.{each_more, each_none, added_more}
use Rattle.trace_picture.proofs.bands.add_waits.Goals as goal

pub loop-t-init : goal.loop-t-init
loop-t-init c =
    let f : ℕ → List ℕ = (λ t. wait_if c.args.reach.now (came (cause_of c.args.board.now.stands t)) (entry_of c.args.board.now.waits t)) in
    let old = take c.args.at c.args.buf.now in
    record { text = sym (ap (λ l. old ++ l) (each_none f) ∙ append-nil old); near = omega arith }

pub loop-t-preserved : goal.loop-t-preserved
loop-t-preserved c =
    let f : ℕ → List ℕ = (λ t. wait_if c.args.reach.now (came (cause_of c.args.board.now.stands t)) (entry_of c.args.board.now.waits t)) in
    let old = take c.args.at c.args.buf.now in
    record {
      text = added_more old (take c.loop-t.last c.loop-t.buf) _ (each_below f c.loop-t.t) (f c.loop-t.t) (each_below f (c.loop-t.t + 1)) c.loop-t.invariant.text (c.add_wait_if-last.ensures.text ∙ (λ i. take c.loop-t.last c.loop-t.buf ++ wait_if c.args.reach.now (c.waker-by.ensures i) (c.at.ensures i))) (sym (each_more f c.loop-t.t));
      near = omega (arith, c.loop-t.invariant.near, c.add_wait_if-last.ensures.near);
    }
