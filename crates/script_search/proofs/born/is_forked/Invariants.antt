use Rattle.std.proofs.Common.{◌≡◌, take}
use Rattle.script_text.specs.Operations.{none_forked, forked_after}
use Rattle.script_search.proofs.born.is_forked.Given as goal

abbrev pub invariant-loop-line : goal.invariant-loop-line
invariant-loop-line l = l.forked ≡ forked_after none_forked (take l.line-index l.lines) l.t
