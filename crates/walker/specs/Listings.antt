-- The listing of one directory.
use Rattle.std.specs.Prelude.{◌≡◌, ◌≢◌, false, List, [], ◌∷◌, ◌++◌, map, Contains, AllPairs, ◌↔◌, ◌⊎◌, Some, Result, Ok, Err, IsSorted}
use Rattle.std.specs.Cmp.Lexicographic.{slice_cmp}
use Rattle.std.specs.Ordering.{nat_cmp}
use Rattle.firefly_outside.specs.Trees.{Path, Contents, Directory, Calls, child, IsChild, IsFault}
use Rattle.firefly_outside.specs.declared.tree.Entry.{Entry}
use Rattle.firefly_outside.specs.declared.tree.Kind.TheVariants.{File, Dir}
use Rattle.firefly_outside.specs.declared.tree.TreeError.{TreeError}
use Rattle.firefly_outside.specs.declared.tree.TreeError.TheVariants.{Memory, Failed}
use Rattle.walker.specs.Walk.{Walk, IsNamed, marked}
use Rattle.walker.specs.declared.listing.Listing.{Listing}

-- the paths of children of a directory, each list in the order of bytes and no path twice
pub record IsListingOf (dir : Path) (l : Listing) : Type 0 where
  pub dirs : IsSorted (slice_cmp nat_cmp) l.dirs.items
  pub files : IsSorted (slice_cmp nat_cmp) l.files.items
  pub children : (p : Path) → Contains (l.dirs.items ++ l.files.items) p → (name : Path) × IsChild dir name p
  pub distinct : AllPairs (λ p q. p ≢ q) (l.dirs.items ++ l.files.items)

-- the listing has the children that the tree has in that directory
pub record IsReportedBy (t : Contents) (dir : Path) (l : Listing) : Type 0 where
  pub entries : List Entry
  pub here : t dir ≡ Some (Directory entries)
  pub dirs : (p : Path) → Contains l.dirs.items p ↔ IsNamed dir entries Dir p
  pub files : (p : Path) → Contains l.files.items p ↔ IsNamed dir entries File p

-- the calls with one more listing
abbrev pub with_listed : Calls → Path → Calls
with_listed c dir = record c { listed = c.listed ++ dir ∷ [] }

-- what listing a directory once answers
abbrev pub ListsDir : List Path → Path → Calls → Calls → Result Listing TreeError → Contents → Type 0
ListsDir weak dir old new (Ok l) t = IsReportedBy t dir l × (new ≡ with_listed old dir)
ListsDir weak dir old new (Err Memory) t = (new ≡ old) ⊎ (new ≡ with_listed old dir)
ListsDir weak dir old new (Err Failed) t = IsFault weak dir ((es : List Entry) × (t dir ≡ Some (Directory es))) old new

-- the directory was listed: its children were found
pub record Notes (old new : Walk) (dir : Path) (l : Listing) : Type 0 where
  pub root : new.root ≡ old.root
  pub dirs : new.dirs ≡ marked dir old.dirs ++ map (λ p. (p, false)) l.dirs.items
  pub files : map (child old.root) new.files ≡ map (child old.root) old.files ++ l.files.items
