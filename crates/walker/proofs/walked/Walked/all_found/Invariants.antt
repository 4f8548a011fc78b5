use Rattle.std.proofs.Common.{ℕ, ◌<◌, [], Contains, get_or}
use Rattle.walker.proofs.walked.Walked.all_found.Given as goal

abbrev pub invariant-loop-at : goal.invariant-loop-at
invariant-loop-at l = (k : ℕ) → k < l.at → Contains l.self.files (get_or l.piece.paths k [])
