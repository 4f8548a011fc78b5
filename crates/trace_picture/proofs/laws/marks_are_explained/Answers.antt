use Rattle.trace_picture.proofs.Explained as explained
use Rattle.trace_picture.proofs.laws.marks_are_explained.Goals as goal

pub returns : goal.returns
returns c = explained.marks_are_explained
