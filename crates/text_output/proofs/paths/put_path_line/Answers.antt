use Rattle.std.proofs.Common.{arith}
use Rattle.text_output.specs.Paths.{newline, escaped}
use Rattle.text_output.proofs.Pieces.{puts_then, puts_failed, prefix_of_two, cause_on, cause_then}
use Rattle.text_output.proofs.paths.put_path_line.Goals as goal

pub returns-clause-text : goal.returns-clause-text
returns-clause-text g c =
    puts_then c.put.result (g.O.Sink.held c.args.out.now) _ _ c.args.held.now.items _ _ _ _ c.in_ok-put_path.ensures.text c.put.ensures.text

pub returns-in_err-put_path-clause-cause : goal.returns-in_err-put_path-clause-cause
returns-in_err-put_path-clause-cause g c = cause_on c.from_residual.result (omega arith) c.in_err-put_path.ensures.cause

pub returns-clause-cause : goal.returns-clause-cause
returns-clause-cause g c = cause_then c.put.result c.in_ok-put_path.ensures.cause.later c.put.ensures.cause

pub returns-in_err-put_path-clause-text : goal.returns-in_err-put_path-clause-text
returns-in_err-put_path-clause-text g c =
    let reported = g.O.Sink.held c.args.out.now in
    let held = c.args.held.now.items in
    puts_failed c.from_residual.result reported _ held _ _ c.from_residual.ensures.0 (prefix_of_two reported _ held (escaped c.args.path.now) newline c.in_err-put_path.ensures.text)
