-- Copies of a tree in memory.
use Rattle.std.specs.Prelude.{◌≡◌, Option, Some}
use Rattle.firefly_outside.specs.Seen.{tree_of}
use Rattle.firefly_outside.specs.Trees.{Contents}
use Rattle.firefly_outside.specs.declared.mem_tree.MemTree.{MemTree}

-- the place has a tree, and it is this one
pub record HoldsTree (t : Contents) (place : Option MemTree) : Type 0 where
  pub tree : MemTree
  pub is : place ≡ Some tree
  pub reported : tree_of tree ≡ t
