use Rattle.std.proofs.Common.{◌≡◌, ◌+◌, ◌*◌, ◌≤◌, ◌++◌, take}
use Rattle.trace_shapes.specs.Shapes.{each_below}
use Rattle.trace_picture.specs.Picture.{hover_text}
use Rattle.trace_picture.proofs.head.add_hovers.Given as goal

abbrev pub invariant-loop-m : goal.invariant-loop-m
invariant-loop-m l = record {
  text : take l.last l.buf ≡ take l.at l.initial.buf ++ each_below hover_text l.m;
  near : l.last ≤ l.at + 130 * l.m;
}
