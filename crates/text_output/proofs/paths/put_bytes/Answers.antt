use Rattle.std.proofs.Common.{arith}
use Rattle.text_output.specs.Paths.{escaped_byte}
use Rattle.text_output.proofs.Pieces.{puts_failed, sends_more, fails_more}
use Rattle.text_output.proofs.paths.put_bytes.Goals as goal

pub returns-in_err-put_escaped_byte-clause-text : goal.returns-in_err-put_escaped_byte-clause-text
returns-in_err-put_escaped_byte-clause-text g c =
    puts_failed c.from_residual.result (g.O.Sink.held c.args.out.now) _ c.args.held.now.items _ _ c.from_residual.ensures.0
    (fails_more escaped_byte c.args.path.now c.loop-byte.byte-index 0 c.loop-byte-test.true _ _ _ _ _ c.loop-byte.invariant.sent c.in_err-put_escaped_byte.ensures.text)

pub loop-byte-preserved : goal.loop-byte-preserved
loop-byte-preserved g c = record {
  sent = sends_more escaped_byte c.args.path.now c.loop-byte.byte-index 0 c.loop-byte-test.true _ _ _ _ _ c.loop-byte.invariant.sent _ c.in_ok-put_escaped_byte.ensures.text;
  later = omega (arith, c.in_ok-put_escaped_byte.ensures.cause.later);
}
