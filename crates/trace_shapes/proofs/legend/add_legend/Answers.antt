use Rattle.std.proofs.Common.{ℕ, List, ◌+◌, ◌++◌, take, ap, sym, ◌∙◌, append-nil, arith}
use Rattle.trace_board.specs.History.{entry_of}
use Rattle.trace_shapes.specs.Shapes.{each_below}
use Rattle.trace_shapes.specs.Legend.{entry_if}
use Rattle.trace_shapes.proofs.Added.{each_more, each_none, added_more}
use Rattle.trace_shapes.proofs.legend.add_legend.Goals as goal

pub loop-place-init : goal.loop-place-init
loop-place-init c =
    let f : ℕ → List ℕ = entry_if (entry_of c.args.shown.now) in
    let old = take c.args.at c.args.buf.now in
    record { text = sym (ap (λ l. old ++ l) (each_none f) ∙ append-nil old); near = omega arith }

pub loop-place-preserved : goal.loop-place-preserved
loop-place-preserved c =
    let f : ℕ → List ℕ = entry_if (entry_of c.args.shown.now) in
    let old = take c.args.at c.args.buf.now in
    record {
      text = added_more old (take c.loop-place.last c.loop-place.buf) _ (each_below f c.loop-place.place) (f c.loop-place.place) (each_below f (c.loop-place.place + 1)) c.loop-place.invariant.text c.add_entry_if-last.ensures.text (sym (each_more f c.loop-place.place));
      near = omega (arith, c.loop-place.invariant.near, c.add_entry_if-last.ensures.near);
    }
