-- What a sample tree lists.
use Rattle.std.specs.Prelude.{◌≡◌, ◌≢◌, ℕ, ◌<◌, List, map, Option, Some, None, Vec}
use Rattle.std.specs.Global.{Global}
use Rattle.std.specs.List.{range_with_len}
use Rattle.firefly_outside.specs.Trees.{Path}
use Rattle.firefly_outside.specs.Samples.{sample_root, dir_entry, file_entry, dir_path, dir_count, files_in}
use Rattle.firefly_outside.specs.declared.tree.Entry.{Entry}
use Rattle.firefly_outside.specs.declared.tree.Kind.{Kind}
use Rattle.firefly_outside.specs.declared.tree.Kind.TheVariants.{File, Dir}

-- the entry of a directory or a file of this number
abbrev pub sample_entry : Kind → ℕ → Entry
sample_entry Dir = dir_entry
sample_entry File = file_entry

-- these are the entries of the root, or of a directory of the tree of `files` files
pub data IsDirOf (files : ℕ) (dir : Path) (es : List Entry) : Type 0 where
  of_root : dir ≡ sample_root → es ≡ map dir_entry (range_with_len 0 (dir_count files)) → IsDirOf files dir es
  of_dir : (k : ℕ) → k < dir_count files → dir ≡ dir_path k → es ≡ map file_entry (files_in files k) → IsDirOf files dir es

-- the path is none of these
pub record IsNoDir (files : ℕ) (dir : Path) : Type 0 where
  pub no_root : dir ≢ sample_root
  pub no_dir : (k : ℕ) → k < dir_count files → dir ≢ dir_path k

-- what was found at the path
abbrev pub IsListed : ℕ → Path → Option (Vec Entry Global) → Type 0
IsListed files dir (Some v) = IsDirOf files dir v.items
IsListed files dir None = IsNoDir files dir
