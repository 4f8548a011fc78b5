use Rattle.std.proofs.Common.{◌≡◌, ◌++◌, map, take, drop}
use Rattle.word_index.specs.Words.{lower}
use Rattle.word_index.proofs.strings.make_lower.Given as goal

abbrev pub invariant-loop-b : goal.invariant-loop-b
invariant-loop-b l = l.text ≡ map lower (take l.b-index l.initial.text) ++ drop l.b-index l.initial.text
