-- What lies under a root, and how much of it.
use Rattle.std.specs.Prelude.{◌≡◌, ◌≢◌, ℕ, ◌≤◌, List, length, Some, Contains, AllPairs}
use Rattle.firefly_outside.specs.Trees.{Path, Contents, Directory, Bytes, child}
use Rattle.firefly_outside.specs.declared.tree.Entry.{Entry}
use Rattle.firefly_outside.specs.declared.tree.Kind.{Kind}
use Rattle.firefly_outside.specs.declared.tree.Kind.TheVariants.{File, Dir}

-- reached from the root by entries, as what the last entry says; the root itself is reached as a directory
pub data IsUnder (t : Contents) (root : Path) : Kind → Path → Type 0 where
  at_root : (kind : Kind) (path : Path) → kind ≡ Dir → path ≡ root → IsUnder t root kind path
  by_entry : (kind : Kind) (path : Path) (dir : Path) (es : List Entry) (e : Entry) → IsUnder t root Dir dir → t dir ≡ Some (Directory es)
      → Contains es e → kind ≡ e.kind → path ≡ child dir e.name → IsUnder t root kind path

-- the tree has at the path what an entry of this kind says
abbrev pub IsThere : Contents → Kind → Path → Type 0
IsThere t File path = (bytes : List ℕ) × (t path ≡ Some (Bytes bytes))
IsThere t Dir path = (es : List Entry) × (t path ≡ Some (Directory es))

-- at least so many paths are reached as this kind
pub record AreMany (t : Contents) (root : Path) (kind : Kind) (many : ℕ) : Type 0 where
  pub paths : List Path
  pub under : (path : Path) → Contains paths path → IsUnder t root kind path
  pub distinct : AllPairs (λ p q. p ≢ q) paths
  pub enough : many ≤ length paths
