use Rattle.std.proofs.Common.{length, ◌-◌, ◌≡◌, ◌+◌, ◌≤◌, drop, false}
use Rattle.word_index.specs.Words.{runs}
use Rattle.word_index.proofs.words.next_run.Given as goal

abbrev pub invariant-loop-at : goal.invariant-loop-at
invariant-loop-at l = (l.from ≤ l.at) × (l.at ≤ length l.bytes) × (l.line ≤ l.at + 1) × (runs false l.fn.line (drop l.from l.bytes) ≡ runs false l.line (drop l.at l.bytes))

abbrev pub decreases-loop-at : goal.decreases-loop-at
decreases-loop-at l = length l.bytes - l.at
