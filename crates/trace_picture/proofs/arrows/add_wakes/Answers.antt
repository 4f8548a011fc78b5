use Rattle.std.proofs.Common.{ℕ, List, ◌+◌, ◌++◌, take, ap, sym, ◌∙◌, append-nil, arith}
use Rattle.trace_board.specs.Causes.{cause_of}
use Rattle.trace_shapes.specs.Shapes.{each_below}
use Rattle.trace_shapes.specs.Arrows.{wake_if}
use Rattle.trace_shapes.proofs.Added.{each_more, each_none, added_more}
use Rattle.trace_picture.specs.Bands.{wake_at}
use Rattle.trace_picture.proofs.arrows.add_wakes.Goals as goal

pub loop-i-init : goal.loop-i-init
loop-i-init c =
    let f : ℕ → List ℕ = wake_at c.args.freeing.now (cause_of c.args.stands.now) in
    let old = take c.args.at c.args.buf.now in
    record { text = sym (ap (λ l. old ++ l) (each_none f) ∙ append-nil old); near = omega arith }

pub loop-i-preserved : goal.loop-i-preserved
loop-i-preserved c =
    let f : ℕ → List ℕ = wake_at c.args.freeing.now (cause_of c.args.stands.now) in
    let old = take c.args.at c.args.buf.now in
    let before = take c.loop-i.last c.loop-i.buf in
    let freeing = c.args.freeing.now in
    let cause = cause_of c.args.stands.now in
    record {
      text = added_more old before _ (each_below f c.loop-i.i) (f c.loop-i.i) (each_below f (c.loop-i.i + 1)) c.loop-i.invariant.text (c.add_wake_if-last.ensures.text ∙ ap (λ x. before ++ wake_if freeing c.thread_at-u.result x) c.at.ensures ∙ ap (λ u. before ++ wake_if freeing u (cause u)) c.thread_at-u.ensures.thread) (sym (each_more f c.loop-i.i));
      near = omega (arith, c.loop-i.invariant.near, c.add_wake_if-last.ensures.near);
    }
