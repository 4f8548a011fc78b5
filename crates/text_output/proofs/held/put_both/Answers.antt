use Rattle.std.proofs.Common.{arith}
use Rattle.text_output.proofs.Prefixes.{prefix_of_more}
use Rattle.text_output.proofs.Pieces.{puts_after, puts_failed, cause_on, cause_then}
use Rattle.text_output.proofs.held.put_both.Goals as goal

pub returns-then-piece-len-clause-text : goal.returns-then-piece-len-clause-text
returns-then-piece-len-clause-text g c =
    puts_after c.put_all.result (g.O.Sink.held c.args.out.now) _ _ c.args.held.now.items c.args.piece.now _ c.in_ok-flush.ensures.empty c.in_ok-flush.ensures.ok c.put_all.ensures.ok c.put_all.ensures.err

pub returns-in_err-flush-clause-cause : goal.returns-in_err-flush-clause-cause
returns-in_err-flush-clause-cause g c = cause_on c.from_residual.result (omega arith) c.in_err-flush.ensures.cause

pub returns-then-piece-len-clause-cause : goal.returns-then-piece-len-clause-cause
returns-then-piece-len-clause-cause g c = cause_then c.put_all.result c.in_ok-flush.ensures.cause.later c.put_all.ensures.cause

pub returns-in_err-flush-clause-text : goal.returns-in_err-flush-clause-text
returns-in_err-flush-clause-text g c =
    let reported = g.O.Sink.held c.args.out.now in
    let held = c.args.held.now.items in
    puts_failed c.from_residual.result reported _ held _ c.args.piece.now c.from_residual.ensures.0 (prefix_of_more reported _ held c.args.piece.now c.in_err-flush.ensures.err)
