use Rattle.std.proofs.Common.{◌<◌, [], length, arith}
use Rattle.index_print.specs.Text.{row_text}
use Rattle.text_output.proofs.Pieces.{puts_failed, sends_more, fails_more}
use Rattle.index_print.proofs.print.put_rows.Goals as goal

pub returns-in_err-put_row-clause-text : goal.returns-in_err-put_row-clause-text
returns-in_err-put_row-clause-text g c =
    let here : c.loop-at.at < length c.args.piece.now.rows = omega (arith, c.rows-at-end.ensures, c.loop-at-test.true) in
    puts_failed c.from_residual.result (g.O.Sink.held c.args.out.now) _ c.args.held.now.items _ _ c.from_residual.ensures.0
    (fails_more row_text c.args.piece.now.rows c.loop-at.at (record { word = []; hits = [] }) here _ _ _ _ _ c.loop-at.invariant.sent c.in_err-put_row.ensures.text)

pub loop-at-preserved : goal.loop-at-preserved
loop-at-preserved g c =
    let here : c.loop-at.at < length c.args.piece.now.rows = omega (arith, c.rows-at-end.ensures, c.loop-at-test.true) in
    record {
      sent = sends_more row_text c.args.piece.now.rows c.loop-at.at (record { word = []; hits = [] }) here _ _ _ _ _ c.loop-at.invariant.sent _ c.in_ok-put_row.ensures.text;
      later = omega (arith, c.in_ok-put_row.ensures.cause.later);
    }
