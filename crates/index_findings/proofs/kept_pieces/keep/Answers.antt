use Rattle.std.proofs.Common.{[], ◌∷◌, ◌++◌, sym}
use Rattle.index_findings.proofs.PieceLaws.{merged_on, merged_same}
use Rattle.index_findings.proofs.kept_pieces.keep.Goals as goal

pub loop-init : goal.loop-init
loop-init c = merged_same (c.args.kept.now.items ++ c.args.piece ∷ []) c.push.new.self.items (sym c.in_ok-push.ensures.items)

pub loop-preserved : goal.loop-preserved
loop-preserved c = merged_on (c.args.kept.now.items ++ c.args.piece ∷ []) c.loop.kept.items c.merge_last.new.kept.items c.loop.invariant c.merge_last.ensures.merged

pub returns-clause-kept : goal.returns-clause-kept
returns-clause-kept c = merged_on (c.args.kept.now.items ++ c.args.piece ∷ []) c.loop.kept.items c.merge_last.new.kept.items c.loop.invariant c.merge_last.ensures.merged

pub merge_last-requires : goal.merge_last-requires
merge_last-requires c = c.loop.invariant.apart c.requires
