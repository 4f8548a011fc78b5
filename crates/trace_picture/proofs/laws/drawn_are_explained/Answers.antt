use Rattle.trace_picture.proofs.Explained as explained
use Rattle.trace_picture.proofs.laws.drawn_are_explained.Goals as goal

pub returns : goal.returns
returns c = explained.drawn_are_explained
