use Rattle.trace_picture.proofs.Lines as lines
use Rattle.trace_picture.proofs.laws.holds_are_reported.Goals as goal

pub returns : goal.returns
returns c = lines.holds_are_reported
