use Rattle.std.proofs.Common.{◌∙◌}
use Rattle.std.specs.List.{each_same}
use Rattle.index_sample.proofs.sample_tree.SampleTree.fork.Goals as goal

pub invariant_of-result : goal.invariant_of-result
invariant_of-result c = record {
  whole = each_same c.args.self.now.lines.items c.in_ok-clone.field-0.items c.in_ok-clone.ensures.cases.0 ∙ c.args.self.now.whole;
  few = c.args.self.now.few;
}
