-- The children of one kind.
use Rattle.std.specs.Prelude.{Bool, true, false, List, [], ◌∷◌, if◌then◌else◌}
use Rattle.firefly_outside.specs.Trees.{Path, child}
use Rattle.firefly_outside.specs.declared.tree.Entry.{Entry}
use Rattle.firefly_outside.specs.declared.tree.Kind.{Kind}
use Rattle.firefly_outside.specs.declared.tree.Kind.TheVariants.{File, Dir}

abbrev pub same_kind : Kind → Kind → Bool
same_kind File File = true
same_kind File Dir = false
same_kind Dir File = false
same_kind Dir Dir = true

-- the path of the entry, if it is of the kind
abbrev pub path_as : Path → Kind → Entry → List Path
path_as dir kind e = (if same_kind e.kind kind then child dir e.name ∷ [] else [])
