use Rattle.std.proofs.Common.{arith}
use Rattle.text_output.proofs.Pieces.{on_err_if, on_err_then, on_ok_then, flushed_prefix, flushed_whole, cause_on, cause_then}
use Rattle.command_find.specs.Lines.{lines_of}
use Rattle.command_find.proofs.lines.write_paths.Goals as goal

pub returns-in_err-put_paths-clause-err : goal.returns-in_err-put_paths-clause-err
returns-in_err-put_paths-clause-err g c = on_err_if c.from_residual.result (rw c.new-held.ensures at c.in_err-put_paths.ensures.text)

pub returns-in_err-put_paths-clause-cause : goal.returns-in_err-put_paths-clause-cause
returns-in_err-put_paths-clause-cause g c = cause_on c.from_residual.result (omega arith) c.in_err-put_paths.ensures.cause

pub returns-clause-err : goal.returns-clause-err
returns-clause-err g c =
    let all = rw c.new-held.ensures at c.in_ok-put_paths.ensures.text in
    on_err_then c.flush.result c.flush.ensures.err (flushed_prefix (g.O.Sink.held c.args.out.now) _ _ _ (lines_of c.args.paths.now) all)

pub returns-clause-ok : goal.returns-clause-ok
returns-clause-ok g c =
    let all = rw c.new-held.ensures at c.in_ok-put_paths.ensures.text in
    on_ok_then c.flush.result c.flush.ensures.ok (flushed_whole (g.O.Sink.held c.args.out.now) _ _ _ (lines_of c.args.paths.now) all)

pub returns-clause-cause : goal.returns-clause-cause
returns-clause-cause g c = cause_then c.flush.result c.in_ok-put_paths.ensures.cause.later c.flush.ensures.cause
