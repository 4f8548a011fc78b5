use Rattle.std.proofs.Common.{[], arith}
use Rattle.std.specs.List.{flat_map}
use Rattle.index_print.specs.Text.{row_text, skipped_line, index_text}
use Rattle.text_output.proofs.Prefixes.{sends_then, fails_then, fails_first}
use Rattle.text_output.proofs.Pieces.{on_err_if, on_err_then, on_ok_then, flushed_prefix, flushed_whole, cause_on, cause_then}
use Rattle.index_print.proofs.print.print_index.Goals as goal

pub returns-in_err-put_all_skipped-clause-err : goal.returns-in_err-put_all_skipped-clause-err
returns-in_err-put_all_skipped-clause-err g c =
    let piece = c.args.piece.now in
    let rows = rw c.new-held.ensures at c.in_ok-put_rows.ensures.text in
    on_err_if c.from_residual-in_err-put_all_skipped.result
    (fails_then (g.O.Sink.held c.args.out.now) _ _ [] _ (flat_map row_text piece.rows) (flat_map skipped_line piece.skipped) rows c.in_err-put_all_skipped.ensures.text)

pub returns-clause-err : goal.returns-clause-err
returns-clause-err g c =
    let piece = c.args.piece.now in
    let rows = rw c.new-held.ensures at c.in_ok-put_rows.ensures.text in
    let all = sends_then (g.O.Sink.held c.args.out.now) _ _ [] _ _ (flat_map row_text piece.rows) (flat_map skipped_line piece.skipped) rows c.in_ok-put_all_skipped.ensures.text in
    on_err_then c.flush.result c.flush.ensures.err (flushed_prefix (g.O.Sink.held c.args.out.now) _ _ _ (index_text piece) all)

pub returns-in_err-put_rows-clause-err : goal.returns-in_err-put_rows-clause-err
returns-in_err-put_rows-clause-err g c =
    let piece = c.args.piece.now in
    on_err_if c.from_residual.result
    (fails_first (g.O.Sink.held c.args.out.now) _ [] (flat_map row_text piece.rows) (flat_map skipped_line piece.skipped) (rw c.new-held.ensures at c.in_err-put_rows.ensures.text))

pub returns-in_err-put_rows-clause-cause : goal.returns-in_err-put_rows-clause-cause
returns-in_err-put_rows-clause-cause g c = cause_on c.from_residual.result (omega arith) c.in_err-put_rows.ensures.cause

pub returns-in_err-put_all_skipped-clause-cause : goal.returns-in_err-put_all_skipped-clause-cause
returns-in_err-put_all_skipped-clause-cause g c = cause_on c.from_residual-in_err-put_all_skipped.result c.in_ok-put_rows.ensures.cause.later c.in_err-put_all_skipped.ensures.cause

pub returns-clause-cause : goal.returns-clause-cause
returns-clause-cause g c = cause_then c.flush.result c.in_ok-put_rows.ensures.cause.later (cause_then c.flush.result c.in_ok-put_all_skipped.ensures.cause.later c.flush.ensures.cause)

pub returns-clause-ok : goal.returns-clause-ok
returns-clause-ok g c =
    let piece = c.args.piece.now in
    let rows = rw c.new-held.ensures at c.in_ok-put_rows.ensures.text in
    let all = sends_then (g.O.Sink.held c.args.out.now) _ _ [] _ _ (flat_map row_text piece.rows) (flat_map skipped_line piece.skipped) rows c.in_ok-put_all_skipped.ensures.text in
    on_ok_then c.flush.result c.flush.ensures.ok (flushed_whole (g.O.Sink.held c.args.out.now) _ _ _ (index_text piece) all)
