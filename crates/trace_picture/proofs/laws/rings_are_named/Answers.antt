use Rattle.trace_picture.proofs.Seeing as seeing
use Rattle.trace_picture.proofs.laws.rings_are_named.Goals as goal

pub returns : goal.returns
returns c = seeing.rings_are_named
