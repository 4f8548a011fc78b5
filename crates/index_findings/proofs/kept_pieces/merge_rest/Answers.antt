use Rattle.index_findings.proofs.PieceLaws.{merged_on}
use Rattle.index_findings.proofs.kept_pieces.merge_rest.Goals as goal

pub loop-preserved : goal.loop-preserved
loop-preserved c = merged_on c.args.kept.now.items c.loop.kept.items c.merge_last.new.kept.items c.loop.invariant c.merge_last.ensures.merged

pub returns : goal.returns
returns c = merged_on c.args.kept.now.items c.loop.kept.items c.merge_last.new.kept.items c.loop.invariant c.merge_last.ensures.merged

pub merge_last-requires : goal.merge_last-requires
merge_last-requires c = c.loop.invariant.apart c.requires
