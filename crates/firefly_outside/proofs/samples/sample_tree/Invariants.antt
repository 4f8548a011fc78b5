use Rattle.std.proofs.Common.{◌≡◌, []}
use Rattle.firefly_outside.specs.Samples.{HasSamples, dir_count}
use Rattle.firefly_outside.specs.Seen.{tree_of, weak_of, calls_of, faults_of, no_calls}
use Rattle.firefly_outside.proofs.samples.sample_tree.Given as goal

abbrev pub invariant-loop-file : goal.invariant-loop-file
invariant-loop-file l = record {
  tree : HasSamples l.seed (dir_count l.file) l.file (tree_of l.tree);
  calls : calls_of l.tree ≡ no_calls;
  weak : weak_of l.tree ≡ [];
  faults : faults_of l.tree ≡ 0;
}
