use Rattle.std.proofs.Common.{◌≡◌, ◌+◌, ◌-◌, ◌*◌, ◌≤◌, length}
use Rattle.std.specs.List.{AllByRecursion, flat_map}
use Rattle.std.specs.Io.KnownBytes.{Consumes}
use Rattle.exact_text.specs.Intake.{rest_of, room_of}
use Rattle.command_jobs.specs.JobLines.{IsLawful, line_text}
use Rattle.command_jobs.proofs.job_read.read_jobs.Given as goal

abbrev pub invariant-loop-line : goal.invariant-loop-line
invariant-loop-line g l = record {
  lawful : AllByRecursion IsLawful l.lines.items;
  few : length l.lines.items ≤ 100000;
  counted : l.intake.lines ≡ length l.lines.items;
  room : 18446744073709551614 ≤ room_of l.intake + 65536 * length l.lines.items;
  consumed : Consumes (g.I.Source.left l.fn.input) (rest_of l.intake (g.I.Source.left l.input)) (flat_map line_text l.lines.items);
  unfailed : g.I.Source.faults l.input ≡ g.I.Source.faults l.fn.input;
}

abbrev pub decreases-loop-line : goal.decreases-loop-line
decreases-loop-line g l = 100000 - length l.lines.items
