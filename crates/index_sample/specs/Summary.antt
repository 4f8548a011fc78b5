-- The sums of the index of the sample tree.
use Rattle.std.specs.Prelude.{ℕ}
use Rattle.firefly_outside.specs.Trees.{Contents}
use Rattle.firefly_outside.specs.Samples.{IsSampleTree, sample_root}
use Rattle.word_index.specs.Index.{Index}
use Rattle.walker.specs.TreeIndex.{IsTreeIndex}
use Rattle.index_sample.specs.Sums.{Sums}
use Rattle.index_sample.specs.declared.summary.SampleSums.{SampleSums}

-- these are the sums of the index of the sample tree
pub record IsSummary (seed files : ℕ) (sums : SampleSums) : Type 0 where
  pub tree : Contents
  pub is_sample : IsSampleTree seed files tree
  pub index : Index
  pub is_index : IsTreeIndex tree sample_root index
  pub counted : Sums files index sums
