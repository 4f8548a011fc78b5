use Rattle.std.proofs.Common.{drop, take, []}
use Rattle.std.specs.Vec.{vec_len}
use Rattle.index_find.specs.Postfix.{built}
use Rattle.index_find.specs.Marks.{AreStacked, Suffice}
use Rattle.index_find.proofs.stack.marks_of_query.Given as goal

abbrev pub invariant-loop-step : goal.invariant-loop-step
invariant-loop-step l = record {
  enough : Suffice (drop l.step-index l.step-items) (vec_len l.stack);
  stacked : AreStacked l.index (built (take l.step-index l.step-items) []) l.stack.items;
}
