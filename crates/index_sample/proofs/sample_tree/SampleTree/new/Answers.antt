use Rattle.index_sample.proofs.ReportedLemmas.{reported_sample}
use Rattle.index_sample.proofs.sample_tree.SampleTree.new.Goals as goal

pub returns-clause-tree : goal.returns-clause-tree
returns-clause-tree c = reported_sample c.args.seed c.args.files c.requires
