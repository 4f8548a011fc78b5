-- Two indexes of one tree are the same.
use Rattle.std.proofs.Common.{◌≡◌, ◌∙◌, List, ℕ, Some, sym, ap, subst, map}
use Rattle.std.specs.List.{Contains}
use Rattle.firefly_outside.specs.Trees.{Path, Contents, Node, Bytes, child}
use Rattle.word_index.specs.Index.{File, Index, Entry, IsIndexOf, IsEntryOf, IsSkippedOf}
use Rattle.word_index.proofs.Unique.{one_index}
use Rattle.walker.specs.TreeIndex.{IsFileAt, IsTreeIndex, shown_file}
use Rattle.walker.proofs.Children.{child_name}
use Rattle.walker.proofs.ListLemmas.{Contains-map, Contains-unmap}

same_bytes : (x y : List ℕ) → Some (Bytes x) ≡ Some (Bytes y) → x ≡ y
same_bytes x y e = cc

-- a tree has one file at a path
one_file : (t : Contents) (root : Path) (f g : File) → IsFileAt t root f → IsFileAt t root g → f.path ≡ g.path → f ≡ g
one_file t root f g x y same =
    let here = sym x.here ∙ (ap (λ (p : Path). t (child root p)) same ∙ y.here) in
    x.shown ∙ ((λ i. shown_file (same i) (same_bytes x.bytes y.bytes here i)) ∙ sym y.shown)

-- the files of the one are among those of the other
files_over : (t : Contents) (root : Path) (a b : Index) → (x : IsTreeIndex t root a) → (y : IsTreeIndex t root b) → (f : File) → Contains x.files f → Contains y.files f
files_over t root a b x y f among =
    let at = y.all (child root f.path) (x.under f among) in
    let same : f.path ≡ at.0.path = child_name root f.path at.0.path at.2 in
    subst (λ (g : File). Contains y.files g) (sym (one_file t root f at.0 (x.reported f among) (y.reported at.0 at.1) same)) at.1

-- what is said of some files is said of all that have the same among them
module _ (fs gs : List File) (over : (f : File) → Contains fs f → Contains gs f) where
  paths_over : (p : List ℕ) → Contains (map (λ f. f.path) fs) p → Contains (map (λ f. f.path) gs) p
  paths_over p h =
      let o = Contains-unmap (λ (f : File). f.path) fs p h in
      subst (λ q. Contains (map (λ f. f.path) gs) q) o.is (Contains-map (λ (f : File). f.path) gs o.origin (over o.origin o.among))

  skipped_over : (p : List ℕ) → IsSkippedOf fs p → IsSkippedOf gs p
  skipped_over p h = record { file = h.file; among = over h.file h.among; long = h.long; here = h.here }

  entries_over : (e : Entry) → IsEntryOf fs e → IsEntryOf gs e
  entries_over e h = record { file = h.file; among = over h.file h.among; short = h.short; path = h.path; counted = h.counted }

same_files : (fs gs : List File) (a : Index) → ((f : File) → Contains fs f → Contains gs f) → ((f : File) → Contains gs f → Contains fs f) → IsIndexOf fs a → IsIndexOf gs a
same_files fs gs a over under x = record {
  ordered = x.ordered;
  paths = λ p. (λ h. paths_over fs gs over p ((x.paths p).0 h), λ h. (x.paths p).1 (paths_over gs fs under p h));
  skipped = λ p. (λ h. skipped_over fs gs over p ((x.skipped p).0 h), λ h. (x.skipped p).1 (skipped_over gs fs under p h));
  entries = λ e. (λ h. entries_over fs gs over e ((x.entries e).0 h), λ h. (x.entries e).1 (entries_over gs fs under e h));
}

pub one_tree_index : (t : Contents) (root : Path) (a b : Index) → IsTreeIndex t root a → IsTreeIndex t root b → a ≡ b
one_tree_index t root a b x y =
    one_index y.files a b (same_files x.files y.files a (files_over t root a b x y) (files_over t root b a y x) x.index) y.index
