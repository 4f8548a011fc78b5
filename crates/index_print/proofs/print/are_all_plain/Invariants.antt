use Rattle.std.proofs.Common.{take}
use Rattle.index_print.specs.Plain.{ArePlain}
use Rattle.index_print.proofs.print.are_all_plain.Given as goal

abbrev pub invariant-loop-at : goal.invariant-loop-at
invariant-loop-at l = record {
  seen : ArePlain (take l.at l.piece.paths);
}
