-- What a tree in memory is seen as.
use Rattle.std.specs.Prelude.{◌≡◌, ◌≢◌, List, Some, None, Contains}
use Rattle.std.specs.Option.{option_map}
use Rattle.std.specs.Cmp.Lexicographic.{pointwise}
use Rattle.std.specs.Bool.{nat_eq}
use Rattle.std.specs.HashMap.{HashMap, get}
use Rattle.firefly_outside.specs.Trees.{Path, Node, Directory, Bytes, Contents, AreEntries, child}
use Rattle.firefly_outside.specs.declared.tree.Entry.{Entry}
use Rattle.firefly_outside.specs.declared.place.Place.{Place}
use Rattle.firefly_outside.specs.declared.place.Place.TheVariants.{Dir, File}

-- a place as the tree's node
abbrev pub node_of : Place → Node
node_of (Dir entries) = Directory entries.items
node_of (File bytes) = Bytes bytes.items

-- the tree that the places make
abbrev pub reported_by : {S : Type 0} → HashMap Path Place S → Contents
reported_by places q = option_map node_of (get (pointwise nat_eq) places q)

-- each directory's entries are lawful, and the tree has something at each child's path
pub record IsWhole (t : Contents) : Type 0 where
  pub entries : (dir : Path) (es : List Entry) → t dir ≡ Some (Directory es) → AreEntries es
  pub children : (dir : Path) (es : List Entry) (e : Entry) → t dir ≡ Some (Directory es) → Contains es e → t (child dir e.name) ≢ None
