use Rattle.std.proofs.Common.{length, take}
use Rattle.index_find.proofs.Placed.{ArePlaced}
use Rattle.index_find.proofs.stack.marks_of.Given as goal

abbrev pub invariant-loop-place : goal.invariant-loop-place
invariant-loop-place l = ArePlaced (length l.index.paths) l.marks (take l.place-index l.place-items)
