use Rattle.std.proofs.Common.{ℕ, List, ◌+◌, ◌++◌, take, ap, sym, ◌∙◌, append-nil, arith}
use Rattle.trace_board.specs.History.{entry_of}
use Rattle.trace_board.specs.Tracked.{tracked_of}
use Rattle.trace_shapes.specs.Shapes.{each_below}
use Rattle.trace_picture.specs.Bands.{taken_if}
use Rattle.trace_shapes.proofs.Added.{each_more, each_none, added_more}
use Rattle.trace_picture.proofs.bands.add_takings.Goals as goal

pub loop-s-init : goal.loop-s-init
loop-s-init c =
    let f : ℕ → List ℕ = (λ s. taken_if c.args.reach.now (tracked_of c.args.board.now) s (entry_of c.args.board.now.taken s)) in
    let old = take c.args.at c.args.buf.now in
    record { text = sym (ap (λ l. old ++ l) (each_none f) ∙ append-nil old); near = omega arith }

pub loop-s-preserved : goal.loop-s-preserved
loop-s-preserved c =
    let f : ℕ → List ℕ = (λ s. taken_if c.args.reach.now (tracked_of c.args.board.now) s (entry_of c.args.board.now.taken s)) in
    let old = take c.args.at c.args.buf.now in
    record {
      text = added_more old (take c.loop-s.last c.loop-s.buf) _ (each_below f c.loop-s.s) (f c.loop-s.s) (each_below f (c.loop-s.s + 1)) c.loop-s.invariant.text c.add_taken_if-last.ensures.text (sym (each_more f c.loop-s.s));
      near = omega (arith, c.loop-s.invariant.near, c.add_taken_if-last.ensures.near);
    }
