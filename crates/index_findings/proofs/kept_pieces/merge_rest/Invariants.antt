use Rattle.std.proofs.Common.{vec_len}
use Rattle.index_findings.specs.Pieces.{AreMergedFrom}
use Rattle.index_findings.proofs.kept_pieces.merge_rest.Given as goal

abbrev pub invariant-loop : goal.invariant-loop
invariant-loop l = AreMergedFrom l.fn.kept.items l.kept.items

abbrev pub decreases-loop : goal.decreases-loop
decreases-loop l = vec_len l.kept
