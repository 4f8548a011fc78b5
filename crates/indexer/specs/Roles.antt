-- The roles of the workers.
use Rattle.std.specs.Prelude.{Option, Some, None}
use Rattle.firefly_outside.specs.declared.tree.Kind.{Kind}
use Rattle.firefly_outside.specs.declared.tree.Kind.TheVariants.{File, Dir}
use Rattle.indexer.specs.declared.job.Role.{Role}
use Rattle.indexer.specs.declared.job.Role.TheVariants.{Walker, Parser, Merger}

-- a worker that lists directories on a tree is a walker, one that reads files on a tree is a
-- parser, and one without a tree is a merger
abbrev pub role_of : {S : Type 0} → Kind → Option S → Role S
role_of Dir (Some s) = Walker s
role_of File (Some s) = Parser s
role_of kind None = Merger

-- the tree of a worker
abbrev pub tree_of : {S : Type 0} → Role S → Option S
tree_of (Walker s) = Some s
tree_of (Parser s) = Some s
tree_of Merger = None
