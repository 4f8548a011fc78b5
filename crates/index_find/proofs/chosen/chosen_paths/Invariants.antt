use Rattle.index_find.specs.Marks.{AreChosen}
use Rattle.index_find.proofs.chosen.chosen_paths.Given as goal

abbrev pub invariant-loop-place : goal.invariant-loop-place
invariant-loop-place l = AreChosen l.marks l.index.paths l.place l.texts.items
