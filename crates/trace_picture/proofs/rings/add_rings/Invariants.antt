use Rattle.std.proofs.Common.{◌≡◌, ◌+◌, ◌*◌, ◌≤◌, ◌++◌, take}
use Rattle.std.specs.List.{flat_map}
use Rattle.trace_picture.specs.Rings.{ring_text}
use Rattle.trace_picture.proofs.rings.add_rings.Given as goal

abbrev pub invariant-loop-k : goal.invariant-loop-k
invariant-loop-k l = record {
  text : take l.last l.buf ≡ take l.at l.initial.buf ++ flat_map ring_text (take l.k l.cycle);
  near : l.last ≤ l.at + 80 * l.k;
}
