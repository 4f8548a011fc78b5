use Rattle.std.proofs.Common.{ℕ, List, ◌+◌, take, sym, append-nil, arith}
use Rattle.std.specs.List.{flat_map}
use Rattle.lock_order.specs.declared.answer.Edge.{Edge}
use Rattle.trace_picture.specs.Rings.{ring_text}
use Rattle.trace_shapes.proofs.Added.{added_more}
use Rattle.trace_picture.proofs.Ringing.{texts_more}
use Rattle.trace_picture.proofs.rings.add_rings.Goals as goal

pub loop-k-init : goal.loop-k-init
loop-k-init c = record { text = sym (append-nil (take c.args.at c.args.buf.now)); near = omega arith }

pub loop-k-preserved : goal.loop-k-preserved
loop-k-preserved c =
    let f : Edge → List ℕ = ring_text in
    let ns = c.args.cycle.now in
    let old = take c.args.at c.args.buf.now in
    record {
      text = added_more old (take c.loop-k.last c.loop-k.buf) _ (flat_map f (take c.loop-k.k ns)) (f c.at-edge.result) (flat_map f (take (c.loop-k.k + 1) ns)) c.loop-k.invariant.text c.add_ring-last.ensures.text (texts_more f ns c.loop-k.k c.at-edge.result (omega (arith, c.len-k-end.ensures.count)) c.at-edge.ensures);
      near = omega (arith, c.loop-k.invariant.near, c.add_ring-last.ensures.near);
    }
