use Rattle.std.proofs.Common.{◌≡◌, ◌++◌, map, take, drop, get_or}
use Rattle.index_table.proofs.paths.renumber.Given as goal

abbrev pub invariant-loop-number : goal.invariant-loop-number
invariant-loop-number l = l.numbers ≡ map (λ n. get_or l.ranks n 0) (take l.number-index l.initial.numbers) ++ drop l.number-index l.initial.numbers
