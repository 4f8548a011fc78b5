-- The directories and files that a walk has found.
use Rattle.std.specs.Prelude.{◌≡◌, ◌≢◌, Bool, true, false, ◌||◌, List, [], ◌∷◌, map, Contains, AllPairs, ◌⊎◌, ◌↔◌, Some}
use Rattle.std.specs.Cmp.Lexicographic.{pointwise}
use Rattle.std.specs.Bool.{nat_eq}
use Rattle.std.specs.String.{string_bytes}
use Rattle.std.specs.declared.string.String.{String}
use Rattle.indexmap.specs.IndexMap.{IndexMap}
use Rattle.walker.specs.Found.{names_in}
use Rattle.firefly_outside.specs.Trees.{Path, Contents, Directory, child, IsChild}
use Rattle.firefly_outside.specs.declared.tree.Entry.{Entry}
use Rattle.firefly_outside.specs.declared.tree.Kind.{Kind}
use Rattle.firefly_outside.specs.declared.tree.Kind.TheVariants.{File, Dir}

-- the root, the directories found with whether each was listed, and the files found, by their paths below the root
pub record Walk : Type 0 where
  pub root : Path
  pub dirs : List (Path × Bool)
  pub files : List Path

-- paths with whether each was listed, as a map holds them
abbrev pub pairs_of : {A : Type 0} → List (String A × Bool) → List (Path × Bool)
pairs_of es = map (λ e. (string_bytes e.0, e.1)) es

-- the walk that a root's path, a map of directories and the whole paths of files are
abbrev pub walk_at : {A S : Type 0} → Path → IndexMap (String A) Bool S → List Path → Walk
walk_at root dirs files = record { root = root; dirs = pairs_of dirs.entries; files = names_in root files }

-- the walk that a root, a map of directories and the whole paths of files are
abbrev pub walk_of : {A S : Type 0} → String A → IndexMap (String A) Bool S → List Path → Walk
walk_of root dirs files = walk_at (string_bytes root) dirs files

-- the directories found
abbrev pub dirs_of : Walk → List Path
dirs_of w = map (λ d. d.0) w.dirs

-- the whole paths of the files found
abbrev pub files_of : Walk → List Path
files_of w = map (child w.root) w.files

abbrev pub IsListed : Walk → Path → Type 0
IsListed w dir = Contains w.dirs (dir, true)

-- found and not listed
abbrev pub IsUnlisted : Walk → Path → Type 0
IsUnlisted w dir = Contains w.dirs (dir, false)

-- the path is that of a child of a directory that was listed
pub record HasListedParent (w : Walk) (path : Path) : Type 0 where
  pub dir : Path
  pub name : Path
  pub under : IsChild dir name path
  pub listed : IsListed w dir

-- what every walk keeps: the root is found, no path is found twice, and each other path found was listed by its parent
pub record IsSound (w : Walk) : Type 0 where
  pub root : Contains (dirs_of w) w.root
  pub dirs : AllPairs (λ p q. p ≢ q) (dirs_of w)
  pub files : AllPairs (λ p q. p ≢ q) w.files
  pub dir_parents : (p : Path) → Contains (dirs_of w) p → (p ≡ w.root) ⊎ HasListedParent w p
  pub file_parents : (p : Path) → Contains w.files p → HasListedParent w (child w.root p)
  pub below : (p : Path) → Contains (dirs_of w) p → (p ≡ w.root) ⊎ ((q : Path) × (p ≡ child w.root q))

-- a walk that has found the root alone
abbrev pub new_walk : Path → Walk
new_walk root = record { root = root; dirs = (root, false) ∷ []; files = [] }

-- the directories, with this one listed
abbrev pub marked : Path → List (Path × Bool) → List (Path × Bool)
marked dir dirs = map (λ d. (d.0, d.1 || pointwise nat_eq dir d.0)) dirs

-- the path is that of an entry of this kind
pub record IsNamed (dir : Path) (es : List Entry) (kind : Kind) (path : Path) : Type 0 where
  pub entry : Entry
  pub among : Contains es entry
  pub called : entry.kind ≡ kind
  pub is : path ≡ child dir entry.name

-- the tree's entry of this kind in a directory that was listed
pub record IsSeen (t : Contents) (w : Walk) (kind : Kind) (path : Path) : Type 0 where
  pub dir : Path
  pub entries : List Entry
  pub listed : IsListed w dir
  pub here : t dir ≡ Some (Directory entries)
  pub named : IsNamed dir entries kind path

-- the listings of the walk are those of the tree
pub record IsWalkOf (w : Walk) (t : Contents) : Type 0 where
  pub listed : (dir : Path) → IsListed w dir → (es : List Entry) × (t dir ≡ Some (Directory es))
  pub dirs : (p : Path) → Contains (dirs_of w) p ↔ ((p ≡ w.root) ⊎ IsSeen t w Dir p)
  pub files : (p : Path) → Contains (files_of w) p ↔ IsSeen t w File p
