use Rattle.std.proofs.Common.{◌≡◌, take}
use Rattle.script_run.specs.Regions.{forking}
use Rattle.script_run.proofs.regions.forks_of.Given as goal

abbrev pub invariant-loop-line : goal.invariant-loop-line
invariant-loop-line l = l.forks.items ≡ forking (take l.line-index l.lines)
