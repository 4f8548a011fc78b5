use Rattle.std.proofs.Common.{◌≡◌, ◌∙◌, subst, arith}
use Rattle.firefly_outside.specs.Seen.{tree_of}
use Rattle.firefly_outside.specs.Samples.{HasSamples, dir_count}
use Rattle.firefly_outside.proofs.SampleLemmas.{root_added}
use Rattle.firefly_outside.proofs.samples.sample_tree.Goals as goal

pub loop-file-init : goal.loop-file-init
loop-file-init c = record {
  tree = root_added c.args.seed (tree_of c.new-tree.result) (tree_of c.add_dir.new.self) c.new-tree.ensures.bare c.in_ok-add_dir.ensures.ok;
  calls = c.in_ok-add_dir.ensures.others.calls ∙ c.new-tree.ensures.calls;
  weak = c.in_ok-add_dir.ensures.others.weak ∙ c.new-tree.ensures.weak;
  faults = c.in_ok-add_dir.ensures.others.faults ∙ c.new-tree.ensures.faults;
}

pub returns-clause-tree : goal.returns-clause-tree
returns-clause-tree c =
    let last : c.loop-file.file ≡ c.args.files = omega (arith, c.loop-file-test.false, c.loop-file.auto.file-end) in
    subst (λ n. HasSamples c.args.seed (dir_count n) n (tree_of c.loop-file.tree)) last c.loop-file.invariant.tree
