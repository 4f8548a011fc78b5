-- What a tree in memory is seen as: the tree, the calls made and the paths that are to fail.
use Rattle.std.specs.Prelude.{◌≡◌, ℕ, List, [], ◌++◌, ◌∷◌, ◌≤◌}
use Rattle.firefly_outside.specs.Causes.{Rose}
use Rattle.firefly_outside.specs.declared.tree.TreeError.{TreeError}
use Rattle.firefly_outside.specs.declared.tree.TreeError.TheVariants.{Memory, Failed}
use Rattle.firefly_outside.specs.Trees.{Path, Contents, Calls}
use Rattle.firefly_outside.specs.MemTrees.{reported_by}
use Rattle.firefly_outside.specs.declared.mem_tree.MemTree.{MemTree}

abbrev pub tree_of : MemTree → Contents
tree_of m = reported_by m.places

-- the paths that are to fail
abbrev pub weak_of : MemTree → List Path
weak_of m = m.weak.items

abbrev pub calls_of : MemTree → Calls
calls_of m = record { listed = m.listed.items; files_read = m.files_read.items; failed = m.failed.items }

abbrev pub no_calls : Calls
no_calls = record { listed = []; files_read = []; failed = [] }

abbrev pub faults_of : MemTree → ℕ
faults_of m = m.faults

-- all but the tree is as before
pub record IsEqualBut (old new : MemTree) : Type 0 where
  pub calls : calls_of new ≡ calls_of old
  pub weak : weak_of new ≡ weak_of old
  pub faults : faults_of new ≡ faults_of old

-- the call fails at the path and is noted, or memory wants and nothing is
pub record Fails (old new : MemTree) (path : Path) (answer : TreeError) : Type 0 where
  pub tree : tree_of new ≡ tree_of old
  pub weak : weak_of new ≡ weak_of old
  pub noted : answer ≡ Failed → calls_of new ≡ record (calls_of old) { failed = (calls_of old).failed ++ path ∷ [] }
  pub rose : answer ≡ Failed → (faults_of old ≤ faults_of new) × Rose (faults_of old) (faults_of new)
  pub free : answer ≡ Memory → IsEqualBut old new
