use Rattle.std.proofs.Common.{◌≡◌, take}
use Rattle.script_text.specs.Runs.{total}
use Rattle.script_search.proofs.plan.sum.Given as goal

abbrev pub invariant-loop-line : goal.invariant-loop-line
invariant-loop-line l = l.sum ≡ total (take l.line-index l.lines) l.mutex
