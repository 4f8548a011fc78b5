use Rattle.std.proofs.Common.{◌+◌, take, get_or, sym, append-nil, arith}
use Rattle.trace_picture.specs.Verdicts.{spelled, sentences}
use Rattle.trace_shapes.proofs.Added.{added_more}
use Rattle.trace_picture.proofs.Ringing.{texts_at}
use Rattle.trace_picture.proofs.verdicts.add_sentences.Goals as goal

pub loop-byte-init : goal.loop-byte-init
loop-byte-init c = record { text = sym (append-nil (take c.args.at c.args.buf.now)); near = omega arith }

pub loop-byte-preserved : goal.loop-byte-preserved
loop-byte-preserved c =
    let lines = c.args.lines.now in
    let k = c.loop-byte.byte-index in
    let old = take c.args.at c.args.buf.now in
    record {
      text = added_more old (take c.loop-byte.last c.loop-byte.buf) _ (sentences (take k lines)) (spelled (get_or lines k 0)) (sentences (take (k + 1) lines)) c.loop-byte.invariant.text c.add_spelled-last.ensures.text (texts_at spelled lines k 0 c.loop-byte-test.true);
      near = omega (arith, c.loop-byte.invariant.near, c.add_spelled-last.ensures.near);
    }
