use Rattle.std.proofs.Common.{ℕ, List, ◌+◌, ◌++◌, take, ap, sym, ◌∙◌, append-nil, arith}
use Rattle.trace_board.specs.Tracked.{tracked_of}
use Rattle.trace_shapes.specs.Shapes.{each_below}
use Rattle.trace_picture.specs.Lives.{row_if}
use Rattle.trace_shapes.proofs.Added.{each_more, each_none, added_more}
use Rattle.trace_picture.proofs.lives.add_rows.Goals as goal

pub loop-t-init : goal.loop-t-init
loop-t-init c =
    let f : ℕ → List ℕ = row_if c.args.layout.now.version c.args.band.now (tracked_of c.args.board.now) in
    let old = take c.args.at c.args.buf.now in
    record { text = sym (ap (λ l. old ++ l) (each_none f) ∙ append-nil old); near = omega arith }

pub loop-t-preserved : goal.loop-t-preserved
loop-t-preserved c =
    let f : ℕ → List ℕ = row_if c.args.layout.now.version c.args.band.now (tracked_of c.args.board.now) in
    let old = take c.args.at c.args.buf.now in
    record {
      text = added_more old (take c.loop-t.last c.loop-t.buf) _ (each_below f c.loop-t.t) (f c.loop-t.t) (each_below f (c.loop-t.t + 1)) c.loop-t.invariant.text c.add_row_if-last.ensures.text (sym (each_more f c.loop-t.t));
      near = omega (arith, c.loop-t.invariant.near, c.add_row_if-last.ensures.near);
    }
