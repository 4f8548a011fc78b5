use Rattle.walker.proofs.found.name_below.Goals as goal

pub unreachable-requires : goal.unreachable-requires
unreachable-requires c = (rw c.in-None.is at c.below.ensures) c.requires.0 c.requires.1
