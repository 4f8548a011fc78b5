-- Trees of files, and what a call on one reports.
use Rattle.std.specs.Prelude.{◌≡◌, ◌≢◌, ℕ, ◌<◌, ◌≤◌, Bool, true, List, [], ◌∷◌, ◌++◌, length, Option, Some, None, Result, Ok, Err, ◌⊎◌, ◌↔◌, Contains, All, AllPairs, nat_lt, if◌then◌else◌}
use Rattle.firefly_outside.specs.Causes.{Rose}
use Rattle.firefly_outside.specs.declared.tree.Entry.{Entry}
use Rattle.firefly_outside.specs.declared.tree.Kind.{Kind}
use Rattle.firefly_outside.specs.declared.tree.FileBytes.{FileBytes}
use Rattle.firefly_outside.specs.declared.tree.TreeError.{TreeError}
use Rattle.firefly_outside.specs.declared.tree.TreeError.TheVariants.{Memory, Failed}

abbrev pub Path : Type 0
Path = List ℕ

-- what a tree has at a path: the entries of a directory or the bytes of a file
pub data Node : Type 0 where
  Directory : List Entry → Node
  Bytes : List ℕ → Node

-- a tree as it is shown: what is at each path
abbrev pub Contents : Type 0
Contents = Path → Option Node

-- a directory with one more entry, last; a file stays as it is
abbrev pub with_last : Node → Entry → Node
with_last (Directory entries) e = Directory (entries ++ e ∷ [])
with_last (Bytes bytes) e = Bytes bytes

-- the byte between a directory's path and a name
abbrev pub slash : ℕ
slash = 47

-- the path of a directory's child
abbrev pub child : Path → Path → Path
child dir name = dir ++ slash ∷ name

-- a name isn't empty and has no slash
pub record IsName (name : List ℕ) : Type 0 where
  pub some : 0 < length name
  pub plain : All (λ b. b ≢ slash) name

-- the entries of one listing: lawful names, no two the same
pub record AreEntries (es : List Entry) : Type 0 where
  pub names : All (λ e. IsName e.name) es
  pub distinct : AllPairs (λ e f. e.name ≢ f.name) es

-- the tree has a directory at the path, and es are its entries in some order
pub record IsListing (t : Contents) (dir : Path) (es : List Entry) : Type 0 where
  pub entries : List Entry
  pub here : t dir ≡ Some (Directory entries)
  pub same : (e : Entry) → Contains es e ↔ Contains entries e

-- the most bytes of a file that is shown
abbrev pub most_bytes : ℕ
most_bytes = 4194304

-- a file of too many bytes is long
abbrev pub is_long : List ℕ → Bool
is_long bs = nat_lt most_bytes (length bs)

-- what a file of these bytes shows: none of them where it is long
pub record IsShown (bs : List ℕ) (file : FileBytes) : Type 0 where
  pub long : file.long ≡ is_long bs
  pub bytes : file.bytes.items ≡ (if is_long bs then [] else bs)

-- the tree has a file at the path, and shows it so
pub record IsFile (t : Contents) (path : Path) (file : FileBytes) : Type 0 where
  pub bytes : List ℕ
  pub here : t path ≡ Some (Bytes bytes)
  pub shown : IsShown bytes file

-- the paths listed, read and failed, in order of the calls
pub record Calls : Type 0 where
  pub listed : List Path
  pub files_read : List Path
  pub failed : List Path

-- a call failed at a path that may fail, or isn't what was asked for
pub record IsFault (weak : List Path) (path : Path) (IsThere : Type 0) (old new : Calls) : Type 0 where
  pub noted : new ≡ record old { failed = old.failed ++ path ∷ [] }
  pub may : Contains weak path ⊎ ¬ IsThere

-- what a listing answers, with the calls before and after it
abbrev pub Lists : {V : Type 0} → (V → List Entry) → List Path → Path → Calls → Calls → Result V TreeError → Contents → Type 0
Lists items weak dir old new (Ok v) t = IsListing t dir (items v) × (new ≡ record old { listed = old.listed ++ dir ∷ [] })
Lists items weak dir old new (Err Memory) t = new ≡ old
Lists items weak dir old new (Err Failed) t = IsFault weak dir ((es : List Entry) × (t dir ≡ Some (Directory es))) old new

-- what a read answers, with the calls before and after it
abbrev pub Reads : List Path → Path → Calls → Calls → Result FileBytes TreeError → Contents → Type 0
Reads weak path old new (Ok file) t = IsFile t path file × (new ≡ record old { files_read = old.files_read ++ path ∷ [] })
Reads weak path old new (Err Memory) t = new ≡ old
Reads weak path old new (Err Failed) t = IsFault weak path ((bs : List ℕ) × (t path ≡ Some (Bytes bs))) old new

-- a file that is long shows no bytes, and no file shows too many
pub record IsWithin (file : FileBytes) : Type 0 where
  pub none : file.long ≡ true → file.bytes.items ≡ []
  pub most : length file.bytes.items ≤ most_bytes

-- the count rises in a call that fails, and stands in every other
abbrev pub Counts : {T : Type 0} → ℕ → ℕ → Result T TreeError → Type 0
Counts before now (Ok _) = now ≡ before
Counts before now (Err Memory) = now ≡ before
Counts before now (Err Failed) = (before ≤ now) × Rose before now

-- the path is that of a name in this directory
pub record IsChild (dir name path : Path) : Type 0 where
  pub lawful : IsName name
  pub is : path ≡ child dir name

-- the path's parent is a directory of the tree
pub record HasParent (t : Contents) (path : Path) : Type 0 where
  pub dir : Path
  pub name : Path
  pub under : IsChild dir name path
  pub entries : List Entry
  pub here : t dir ≡ Some (Directory entries)

-- in the new tree the directory before the path's last slash, if there is one, names it last; all else is as in the old
pub record Names (old new : Contents) (path : Path) (kind : Kind) : Type 0 where
  pub named : (dir name : Path) (es : List Entry) → path ≡ child dir name → All (λ b. b ≢ slash) name → old dir ≡ Some (Directory es)
      → new dir ≡ Some (Directory (es ++ record { name = name; kind = kind } ∷ []))
  pub others : (q : Path) → ((name : Path) (es : List Entry) → path ≡ child q name → All (λ b. b ≢ slash) name
      → old q ≢ Some (Directory es)) → new q ≡ old q

-- nothing is in the tree
abbrev pub IsBare : Contents → Type 0
IsBare t = (q : Path) → t q ≡ None

-- a directory without entries, or a file
abbrev pub IsLeaf : Node → Type 0
IsLeaf (Directory entries) = entries ≡ []
IsLeaf (Bytes bytes) = Unit {0}

-- the new tree has this node at the path, and its parent names it last; all else is as in the old
pub record Adds (old new : Contents) (path : Path) (kind : Kind) (node : Node) : Type 0 where
  pub added : new path ≡ Some node
  pub named : (dir name : Path) (es : List Entry) → IsChild dir name path → old dir ≡ Some (Directory es)
      → new dir ≡ Some (Directory (es ++ record { name = name; kind = kind } ∷ []))
  pub others : (q : Path) → q ≢ path → ((name : Path) (es : List Entry) → IsChild q name path → old q ≢ Some (Directory es)) → new q ≡ old q
