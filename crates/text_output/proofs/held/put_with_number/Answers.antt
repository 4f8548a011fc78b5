use Rattle.std.proofs.Common.{arith}
use Rattle.std.specs.Prelude.{decimal}
use Rattle.text_output.proofs.Pieces.{puts_then, puts_failed, prefix_of_two, cause_on, cause_then}
use Rattle.text_output.proofs.held.put_with_number.Goals as goal

pub returns-clause-text : goal.returns-clause-text
returns-clause-text g c =
    puts_then c.put_number.result (g.O.Sink.held c.args.out.now) _ _ c.args.held.now.items _ _ _ _ c.in_ok-put.ensures.text c.put_number.ensures.text

pub returns-in_err-put-clause-cause : goal.returns-in_err-put-clause-cause
returns-in_err-put-clause-cause g c = cause_on c.from_residual.result (omega arith) c.in_err-put.ensures.cause

pub returns-clause-cause : goal.returns-clause-cause
returns-clause-cause g c = cause_then c.put_number.result c.in_ok-put.ensures.cause.later c.put_number.ensures.cause

pub returns-in_err-put-clause-text : goal.returns-in_err-put-clause-text
returns-in_err-put-clause-text g c =
    let reported = g.O.Sink.held c.args.out.now in
    let held = c.args.held.now.items in
    puts_failed c.from_residual.result reported _ held _ _ c.from_residual.ensures.0 (prefix_of_two reported _ held c.args.piece.now (decimal c.args.number) c.in_err-put.ensures.text)
