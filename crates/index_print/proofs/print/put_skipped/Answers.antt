use Rattle.std.proofs.Common.{codes, append_assoc}
use Rattle.text_output.specs.Paths.{newline, escaped}
use Rattle.text_output.proofs.Pieces.{puts_then, puts_failed, prefix_of_two}
use Rattle.index_print.proofs.print.put_skipped.Goals as goal

pub returns-in_err-put-clause-text : goal.returns-in_err-put-clause-text
returns-in_err-put-clause-text g c =
    puts_failed c.from_residual.result (g.O.Sink.held c.args.out.now) _ c.args.held.now.items _ _ c.from_residual.ensures.0
    (rw (append_assoc (codes "skipped: ") (escaped c.args.path.now) newline) (prefix_of_two (g.O.Sink.held c.args.out.now) _ c.args.held.now.items (codes "skipped: ") _ c.in_err-put.ensures.text))

pub returns-clause-text : goal.returns-clause-text
returns-clause-text g c =
    rw (append_assoc (codes "skipped: ") (escaped c.args.path.now) newline)
    (puts_then c.put_path_line.result (g.O.Sink.held c.args.out.now) _ _ c.args.held.now.items _ _ (codes "skipped: ") _ c.in_ok-put.ensures.text c.put_path_line.ensures.text)
