use Rattle.std.proofs.Common.{◌≡◌, ◌+◌, ◌*◌, ◌≤◌, ◌++◌, take}
use Rattle.trace_board.specs.Causes.{cause_of}
use Rattle.trace_shapes.specs.Shapes.{each_below}
use Rattle.trace_explain.specs.Facts.{stander}
use Rattle.trace_explain.proofs.facts.add_each_stander.Given as goal

abbrev pub invariant-loop-t : goal.invariant-loop-t
invariant-loop-t l = record {
  text : take l.last l.buf ≡ take l.at l.initial.buf ++ each_below (λ t. stander l.c t (cause_of l.stands t)) l.t;
  near : l.last ≤ l.at + 40 * l.t;
}
