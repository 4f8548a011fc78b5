use Rattle.std.proofs.Common.{◌≡◌, reverse}
use Rattle.std.specs.Vec.{vec_len}
use Rattle.index_find.specs.Taking.{ended}
use Rattle.index_find.proofs.tokens.end_term.Given as goal

abbrev pub invariant-loop-steps : goal.invariant-loop-steps
invariant-loop-steps l = ended (reverse l.pending.items) l.steps.items ≡ ended (reverse l.initial.pending.items) l.initial.steps.items

abbrev pub decreases-loop-steps : goal.decreases-loop-steps
decreases-loop-steps l = vec_len l.pending
