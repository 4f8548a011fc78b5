use Rattle.trace_picture.proofs.Seeing as seeing
use Rattle.trace_picture.proofs.laws.events_are_marked.Goals as goal

pub returns : goal.returns
returns c = seeing.events_are_marked
