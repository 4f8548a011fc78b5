use Rattle.std.proofs.Common.{◌++◌, append_assoc, codes, decimal}
use Rattle.text_output.proofs.Pieces.{puts_then, puts_failed, prefix_of_two}
use Rattle.index_print.proofs.print.put_word.Goals as goal

pub returns-in_err-put-clause-text : goal.returns-in_err-put-clause-text
returns-in_err-put-clause-text g c =
    rw (← c.word.ensures) (puts_failed c.from_residual.result (g.O.Sink.held c.args.out.now) _ c.args.held.now.items _ _ c.from_residual.ensures.0
    (rw (append_assoc c.word.result.now (codes " ") (decimal _)) (prefix_of_two (g.O.Sink.held c.args.out.now) _ c.args.held.now.items c.word.result.now _ c.in_err-put.ensures.text)))

pub returns-clause-text : goal.returns-clause-text
returns-clause-text g c =
    rw (← c.word.ensures, ← c.hits.ensures) (rw (append_assoc c.word.result.now (codes " ") (decimal c.hits.result))
    (puts_then c.put_with_number.result (g.O.Sink.held c.args.out.now) _ _ c.args.held.now.items _ _ c.word.result.now _ c.in_ok-put.ensures.text c.put_with_number.ensures.text))
