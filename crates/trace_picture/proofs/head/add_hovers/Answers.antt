use Rattle.std.proofs.Common.{ℕ, List, ◌+◌, ◌++◌, take, ap, sym, ◌∙◌, append-nil, arith}
use Rattle.trace_shapes.specs.Shapes.{each_below}
use Rattle.trace_picture.specs.Picture.{hover_text}
use Rattle.trace_shapes.proofs.Added.{each_more, each_none, added_more}
use Rattle.trace_picture.proofs.head.add_hovers.Goals as goal

pub loop-m-init : goal.loop-m-init
loop-m-init c =
    let f : ℕ → List ℕ = hover_text in
    let old = take c.args.at c.args.buf.now in
    record { text = sym (ap (λ l. old ++ l) (each_none f) ∙ append-nil old); near = omega arith }

pub loop-m-preserved : goal.loop-m-preserved
loop-m-preserved c =
    let f : ℕ → List ℕ = hover_text in
    let old = take c.args.at c.args.buf.now in
    record {
      text = added_more old (take c.loop-m.last c.loop-m.buf) _ (each_below f c.loop-m.m) (f c.loop-m.m) (each_below f (c.loop-m.m + 1)) c.loop-m.invariant.text c.add_hover-last.ensures.text (sym (each_more f c.loop-m.m));
      near = omega (arith, c.loop-m.invariant.near, c.add_hover-last.ensures.near);
    }
