use Rattle.std.proofs.Common.{[], ◌++◌, arith}
use Rattle.text_output.specs.Paths.{escaped}
use Rattle.text_output.proofs.Prefixes.{sends_then, fails_then, fails_first}
use Rattle.text_output.proofs.Pieces.{on_err_if, on_err_then, on_ok_then, flushed_prefix, flushed_whole, cause_on, cause_then}
use Rattle.text_output.proofs.paths.print_path.Goals as goal

pub returns-in_err-put-clause-err : goal.returns-in_err-put-clause-err
returns-in_err-put-clause-err g c =
    let before = c.args.before.now in let path = escaped c.args.path.now in
    let failed = rw c.new-held.ensures at c.in_err-put.ensures.text in
    on_err_if c.from_residual.result
    (fails_first (g.O.Sink.held c.args.out.now) _ [] (before ++ path) c.args.after.now (fails_first (g.O.Sink.held c.args.out.now) _ [] before path failed))

pub returns-in_err-put_path-clause-err : goal.returns-in_err-put_path-clause-err
returns-in_err-put_path-clause-err g c =
    let before = c.args.before.now in let path = escaped c.args.path.now in
    let first = rw c.new-held.ensures at c.in_ok-put.ensures.text in
    on_err_if c.from_residual-in_err-put_path.result
    (fails_first (g.O.Sink.held c.args.out.now) _ [] (before ++ path) c.args.after.now
    (fails_then (g.O.Sink.held c.args.out.now) _ _ [] _ before path first c.in_err-put_path.ensures.text))

pub returns-in_err-put-2-clause-err : goal.returns-in_err-put-2-clause-err
returns-in_err-put-2-clause-err g c =
    let before = c.args.before.now in let path = escaped c.args.path.now in
    let first = rw c.new-held.ensures at c.in_ok-put.ensures.text in
    let both = sends_then (g.O.Sink.held c.args.out.now) _ _ [] _ _ before path first c.in_ok-put_path.ensures.text in
    on_err_if c.from_residual-in_err-put-2.result
    (fails_then (g.O.Sink.held c.args.out.now) _ _ [] _ (before ++ path) c.args.after.now both c.in_err-put-2.ensures.text)

pub returns-clause-err : goal.returns-clause-err
returns-clause-err g c =
    let before = c.args.before.now in let path = escaped c.args.path.now in let after = c.args.after.now in
    let first = rw c.new-held.ensures at c.in_ok-put.ensures.text in
    let both = sends_then (g.O.Sink.held c.args.out.now) _ _ [] _ _ before path first c.in_ok-put_path.ensures.text in
    let all = sends_then (g.O.Sink.held c.args.out.now) _ _ [] _ _ (before ++ path) after both c.in_ok-put-2.ensures.text in
    on_err_then c.flush.result c.flush.ensures.err (flushed_prefix (g.O.Sink.held c.args.out.now) _ _ _ ((before ++ path) ++ after) all)

pub returns-in_err-put-clause-cause : goal.returns-in_err-put-clause-cause
returns-in_err-put-clause-cause g c = cause_on c.from_residual.result (omega arith) c.in_err-put.ensures.cause

pub returns-in_err-put_path-clause-cause : goal.returns-in_err-put_path-clause-cause
returns-in_err-put_path-clause-cause g c = cause_on c.from_residual-in_err-put_path.result c.in_ok-put.ensures.cause.later c.in_err-put_path.ensures.cause

pub returns-in_err-put-2-clause-cause : goal.returns-in_err-put-2-clause-cause
returns-in_err-put-2-clause-cause g c =
    let first = c.in_ok-put.ensures.cause.later in let second = c.in_ok-put_path.ensures.cause.later in
    cause_on c.from_residual-in_err-put-2.result (omega arith) c.in_err-put-2.ensures.cause

pub returns-clause-cause : goal.returns-clause-cause
returns-clause-cause g c =
    cause_then c.flush.result c.in_ok-put.ensures.cause.later
    (cause_then c.flush.result c.in_ok-put_path.ensures.cause.later (cause_then c.flush.result c.in_ok-put-2.ensures.cause.later c.flush.ensures.cause))

pub returns-clause-ok : goal.returns-clause-ok
returns-clause-ok g c =
    let before = c.args.before.now in let path = escaped c.args.path.now in let after = c.args.after.now in
    let first = rw c.new-held.ensures at c.in_ok-put.ensures.text in
    let both = sends_then (g.O.Sink.held c.args.out.now) _ _ [] _ _ before path first c.in_ok-put_path.ensures.text in
    let all = sends_then (g.O.Sink.held c.args.out.now) _ _ [] _ _ (before ++ path) after both c.in_ok-put-2.ensures.text in
    on_ok_then c.flush.result c.flush.ensures.ok (flushed_whole (g.O.Sink.held c.args.out.now) _ _ _ ((before ++ path) ++ after) all)
