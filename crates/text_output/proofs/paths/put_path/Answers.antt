use Rattle.std.proofs.Common.{◌∙◌, sym}
use Rattle.text_output.proofs.Pieces.{escaped_plain}
use Rattle.text_output.proofs.paths.put_path.Goals as goal

pub returns-then-is_plain-clause-text : goal.returns-then-is_plain-clause-text
returns-then-is_plain-clause-text g c = rw (escaped_plain c.args.path.now (sym c.is_plain.ensures ∙ c.if-is_plain.true)) c.put.ensures.text
