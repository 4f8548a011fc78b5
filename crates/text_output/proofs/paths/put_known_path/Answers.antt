use Rattle.text_output.proofs.Pieces.{escaped_plain}
use Rattle.text_output.proofs.paths.put_known_path.Goals as goal

pub returns-then-is_known_plain-clause-text : goal.returns-then-is_known_plain-clause-text
returns-then-is_known_plain-clause-text g c = rw (escaped_plain c.args.path.now (c.requires.known c.if-is_known_plain.true)) c.put.ensures.text
