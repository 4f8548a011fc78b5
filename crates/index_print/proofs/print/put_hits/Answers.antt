use Rattle.std.proofs.Common.{◌<◌, [], length, arith}
use Rattle.word_index.specs.Index.{row_at}
use Rattle.index_print.specs.Text.{hit_after}
use Rattle.text_output.proofs.Pieces.{puts_failed, sends_more, fails_more}
use Rattle.index_print.proofs.print.put_hits.Goals as goal

pub returns-in_err-put_hit-clause-text : goal.returns-in_err-put_hit-clause-text
returns-in_err-put_hit-clause-text g c =
    let here : c.loop-number.number < length (row_at c.args.piece.now c.args.at).hits = omega (arith, c.hits-number-end.ensures, c.loop-number-test.true) in
    puts_failed c.from_residual.result (g.O.Sink.held c.args.out.now) _ c.args.held.now.items _ _ c.from_residual.ensures.0
    (fails_more hit_after (row_at c.args.piece.now c.args.at).hits c.loop-number.number (record { path = []; count = 0; line = 0 }) here _ _ _ _ _ c.loop-number.invariant.sent c.in_err-put_hit.ensures.text)

pub loop-number-preserved : goal.loop-number-preserved
loop-number-preserved g c =
    let here : c.loop-number.number < length (row_at c.args.piece.now c.args.at).hits = omega (arith, c.hits-number-end.ensures, c.loop-number-test.true) in
    record {
      sent = sends_more hit_after (row_at c.args.piece.now c.args.at).hits c.loop-number.number (record { path = []; count = 0; line = 0 }) here _ _ _ _ _ c.loop-number.invariant.sent _ c.in_ok-put_hit.ensures.text;
      later = omega (arith, c.in_ok-put_hit.ensures.cause.later);
    }
