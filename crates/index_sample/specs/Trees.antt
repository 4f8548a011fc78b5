-- Copies of the sample tree.
use Rattle.std.specs.Prelude.{◌≡◌, ℕ, List, Option, Some, All, length}
use Rattle.firefly_outside.specs.Samples.{IsSampleTree}
use Rattle.firefly_outside.specs.Trees.{Contents}
use Rattle.index_sample.specs.Shown.{tree_of}
use Rattle.index_sample.specs.declared.sample_tree.SampleTree.{SampleTree}

-- this tree is there
pub record HoldsTree (t : Contents) (place : Option SampleTree) : Type 0 where
  pub tree : SampleTree
  pub is : place ≡ Some tree
  pub reported : tree_of tree ≡ t

-- five of them: for two walkers, two parsers and the closing walk
pub record AreSamples (seed files : ℕ) (trees : List (Option SampleTree)) : Type 0 where
  pub tree : Contents
  pub is_sample : IsSampleTree seed files tree
  pub many : length trees ≡ 5
  pub each : All (HoldsTree tree) trees
