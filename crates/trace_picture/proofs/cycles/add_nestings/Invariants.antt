use Rattle.std.proofs.Common.{◌≡◌, ◌+◌, ◌*◌, ◌≤◌, ◌++◌, take}
use Rattle.std.specs.List.{flat_map}
use Rattle.trace_picture.specs.Rings.{nesting_text}
use Rattle.trace_picture.proofs.cycles.add_nestings.Given as goal

abbrev pub invariant-loop-k : goal.invariant-loop-k
invariant-loop-k l = record {
  text : take l.last l.buf ≡ take l.at l.initial.buf ++ flat_map nesting_text (take l.k l.cycle);
  near : l.last ≤ l.at + 160 * l.k;
}
