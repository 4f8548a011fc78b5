use Rattle.std.proofs.Common.{◌<◌, [], length, arith}
use Rattle.index_print.specs.Text.{skipped_line}
use Rattle.text_output.proofs.Pieces.{puts_failed, sends_more, fails_more}
use Rattle.index_print.proofs.print.put_all_skipped.Goals as goal

pub returns-in_err-put_skipped-clause-text : goal.returns-in_err-put_skipped-clause-text
returns-in_err-put_skipped-clause-text g c =
    let here : c.loop-at.at < length c.args.piece.now.skipped = omega (arith, c.skipped_files-at-end.ensures, c.loop-at-test.true) in
    puts_failed c.from_residual.result (g.O.Sink.held c.args.out.now) _ c.args.held.now.items _ _ c.from_residual.ensures.0
    (fails_more skipped_line c.args.piece.now.skipped c.loop-at.at [] here _ _ _ _ _ c.loop-at.invariant.sent (rw c.skipped_path.ensures at c.in_err-put_skipped.ensures.text))

pub loop-at-preserved : goal.loop-at-preserved
loop-at-preserved g c =
    let here : c.loop-at.at < length c.args.piece.now.skipped = omega (arith, c.skipped_files-at-end.ensures, c.loop-at-test.true) in
    record {
      sent = sends_more skipped_line c.args.piece.now.skipped c.loop-at.at [] here _ _ _ _ _ c.loop-at.invariant.sent _ (rw c.skipped_path.ensures at c.in_ok-put_skipped.ensures.text);
      later = omega (arith, c.in_ok-put_skipped.ensures.cause.later);
    }
