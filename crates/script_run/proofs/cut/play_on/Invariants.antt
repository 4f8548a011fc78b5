use Rattle.std.proofs.Common.{◌≡◌, ◌<◌, ◌-◌, length, map, take, drop}
use Rattle.script_run.specs.Slots.{AreRegions, IsRegion, slot_number}
use Rattle.script_run.proofs.cut.play_on.Given as goal

abbrev pub decreases-loop-width : goal.decreases-loop-width
decreases-loop-width g l = length l.slots - l.at

abbrev pub invariant-loop-width : goal.invariant-loop-width
invariant-loop-width g l = record {
  low : l.at < length l.slots;
  first : AreRegions l.pkg l.lines (take l.at l.slots);
  rest : IsRegion l.pkg l.lines (drop l.at l.slots);
  numbers : map slot_number l.slots ≡ map slot_number l.initial.slots;
}
