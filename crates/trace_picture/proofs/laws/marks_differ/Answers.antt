use Rattle.trace_picture.proofs.Seeing as seeing
use Rattle.trace_picture.proofs.laws.marks_differ.Goals as goal

pub returns : goal.returns
returns c = seeing.marks_differ
