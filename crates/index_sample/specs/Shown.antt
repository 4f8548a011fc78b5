-- What a sample tree shows: the tree and the calls made.
use Rattle.std.specs.Prelude.{◌≡◌, ℕ, ◌++◌, ◌∷◌, [], ◌≤◌}
use Rattle.firefly_outside.specs.Causes.{Rose}
use Rattle.firefly_outside.specs.Trees.{Path, Contents, Calls}
use Rattle.firefly_outside.specs.declared.tree.TreeError.{TreeError}
use Rattle.firefly_outside.specs.declared.tree.TreeError.TheVariants.{Memory, Failed}
use Rattle.index_sample.specs.Reported.{sample_reported}
use Rattle.index_sample.specs.declared.sample_tree.SampleTree.{SampleTree}

abbrev pub tree_of : SampleTree → Contents
tree_of s = sample_reported s.seed s.files

abbrev pub calls_of : SampleTree → Calls
calls_of s = record { listed = s.listed.items; files_read = s.files_read.items; failed = s.failed.items }

abbrev pub faults_of : SampleTree → ℕ
faults_of s = s.faults

-- the call fails at the path and is noted, or there is no memory and it isn't
pub record Fails (old new : SampleTree) (path : Path) (answer : TreeError) : Type 0 where
  pub tree : tree_of new ≡ tree_of old
  pub noted : answer ≡ Failed → calls_of new ≡ record (calls_of old) { failed = (calls_of old).failed ++ path ∷ [] }
  pub rose : answer ≡ Failed → (faults_of old ≤ faults_of new) × Rose (faults_of old) (faults_of new)
  pub free : answer ≡ Memory → (calls_of new ≡ calls_of old) × (faults_of new ≡ faults_of old)
