use Rattle.std.proofs.Common.{◌≡◌, ◌+◌, ◌*◌, ◌≤◌, ◌++◌, take}
use Rattle.trace_board.specs.History.{entry_of}
use Rattle.trace_shapes.specs.Shapes.{each_below}
use Rattle.trace_explain.specs.Facts.{held_by}
use Rattle.trace_explain.proofs.facts.add_each_held.Given as goal

abbrev pub invariant-loop-m : goal.invariant-loop-m
invariant-loop-m l = record {
  text : take l.last l.buf ≡ take l.at l.initial.buf ++ each_below (λ m. held_by l.t m (entry_of l.held m)) l.m;
  near : l.last ≤ l.at + 40 * l.m;
}
