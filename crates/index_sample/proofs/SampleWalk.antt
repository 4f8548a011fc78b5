-- What lies under the root of the sample tree.
use Rattle.std.proofs.Common.{◌≡◌, ◌≢◌, ◌∙◌, ℕ, ◌+◌, ◌-◌, ◌*◌, ◌/◌, ◌<◌, ◌≤◌, List, [], ◌∷◌, map, min, sym, ap, subst, refl, inl, inr, arith, ◌⊎◌, ⊎_elim, length, Contains, zero, suc}
use Rattle.std.specs.Prelude.{Option, Some, None}
use Rattle.std.specs.List.{range_with_len}
use Rattle.std.proofs.lemmas.List.FromFn.{get_or-map-range_with_len, length-map-range_with_len}
use Rattle.std.proofs.lemmas.Option.{same_Some}
use Rattle.firefly_outside.specs.Trees.{Path, Node, Directory, Bytes, Contents, child}
use Rattle.firefly_outside.specs.Under.{IsUnder, at_root, by_entry, IsThere, AreMany}
use Rattle.firefly_outside.specs.Samples.{sample_root, dir_entry, file_entry, dir_path, file_path, files_in, sample_bytes, HasSamples}
use Rattle.firefly_outside.specs.declared.tree.Entry.{Entry}
use Rattle.firefly_outside.specs.declared.tree.Kind.{Kind}
use Rattle.firefly_outside.specs.declared.tree.Kind.TheVariants.{File, Dir}
use Rattle.walker.proofs.Reached.{few_paths}

-- a directory or a file of so many
abbrev pub IsSamplePath : ℕ → ℕ → Kind → Path → Type 0
IsSamplePath dirs files Dir path = (path ≡ sample_root) ⊎ ((k : ℕ) × (k < dirs) × (path ≡ dir_path k))
IsSamplePath dirs files File path = (i : ℕ) × (i < files) × (path ≡ file_path i)

-- an element of what a function makes of a range
element_of : {X : Type 0} (f : ℕ → X) (a n : ℕ) (x : X) → Contains (map f (range_with_len a n)) x → (j : ℕ) × (a ≤ j) × (j < a + n) × (x ≡ f j)
element_of f a n x among =
    let within : among.0 < n = omega (arith, among.1, length-map-range_with_len f a n) in
    (a + among.0, omega arith, omega (arith, within), sym among.2 ∙ get_or-map-range_with_len f a n among.0 (a + among.0) x within refl)

-- the range of a function contains each of its values
pub among_range : {X : Type 0} (f : ℕ → X) (n j : ℕ) → j < n → Contains (map f (range_with_len 0 n)) (f j)
among_range f n j within =
    (j, omega (arith, within, length-map-range_with_len f 0 n), get_or-map-range_with_len f 0 n j j (f j) within (omega arith))

same_entries : (xs ys : List Entry) → Some (Directory xs) ≡ Some (Directory ys) → xs ≡ ys
same_entries xs ys e = cc

named_dir : (dirs files k : ℕ) (kind : Kind) (path : Path) (e : Entry) → e ≡ dir_entry k → k < dirs → kind ≡ e.kind → path ≡ child sample_root e.name → IsSamplePath dirs files kind path
named_dir dirs files k kind path e is below called here =
    let made : path ≡ dir_path k = here ∙ ap (λ (f : Entry). child sample_root f.name) is in
    let of_dir : Dir ≡ kind = sym (called ∙ ap (λ (f : Entry). f.kind) is) in
    subst (λ (j : Kind). IsSamplePath dirs files j path) of_dir (inr (k, below, made))

named_file : (dirs files k i : ℕ) (kind : Kind) (path dir : Path) (e : Entry) → e ≡ file_entry i → i < files → i / 100 ≡ k → dir ≡ dir_path k → kind ≡ e.kind → path ≡ child dir e.name → IsSamplePath dirs files kind path
named_file dirs files k i kind path dir e is below own at called here =
    let parent : dir ≡ dir_path (i / 100) = at ∙ ap dir_path (sym own) in
    let made : path ≡ file_path i = here ∙ ap (λ d. child d e.name) parent ∙ ap (λ (f : Entry). child (dir_path (i / 100)) f.name) is in
    let of_file : File ≡ kind = sym (called ∙ ap (λ (f : Entry). f.kind) is) in
    subst (λ (j : Kind). IsSamplePath dirs files j path) of_file (i, below, made)

-- a file that directory k has is one of so many, and its own directory is k
in_its_dir : (files k i : ℕ) → 100 * k ≤ i → i < 100 * k + min 100 (files - 100 * k) → (i < files) × (i / 100 ≡ k)
in_its_dir files k i low high =
    let many : i < 100 * k + 100 = omega (arith, high) in
    let few : i < files = omega (arith, low, high) in
    let own : i / 100 ≡ k = omega (arith, low, many) in
    (few, own)

module _ (seed dirs files : ℕ) (t : Contents) (has : HasSamples seed dirs files t) where
  -- a child of the root or of a directory is a directory or a file of the tree
  child_of : (kind : Kind) (path dir : Path) (es : List Entry) (e : Entry) → IsSamplePath dirs files Dir dir → t dir ≡ Some (Directory es) → Contains es e → kind ≡ e.kind → path ≡ child dir e.name → IsSamplePath dirs files kind path
  child_of kind path dir es e (inl root) here among called is =
      let all : es ≡ map dir_entry (range_with_len 0 dirs) = same_entries es (map dir_entry (range_with_len 0 dirs)) (sym here ∙ ap t root ∙ has.at_root) in
      let one = element_of dir_entry 0 dirs e (subst (λ (l : List Entry). Contains l e) all among) in
      named_dir dirs files one.0 kind path e one.3 (omega (arith, one.2)) called (is ∙ ap (λ d. child d e.name) root)
  child_of kind path dir es e (inr at) here among called is =
      let all : es ≡ map file_entry (files_in files at.0) = same_entries es (map file_entry (files_in files at.0)) (sym here ∙ ap t at.2 ∙ has.at_dirs at.0 at.1) in
      let one = element_of file_entry (100 * at.0) (min 100 (files - 100 * at.0)) e (subst (λ (l : List Entry). Contains l e) all among) in
      let within = in_its_dir files at.0 one.0 one.1 one.2 in
      named_file dirs files at.0 one.0 kind path dir e one.3 within.0 within.1 at.2 called is

  -- what is reached from the root is one of them
  pub under_sample : (kind : Kind) (path : Path) → IsUnder t sample_root kind path → IsSamplePath dirs files kind path
  under_sample kind path (at_root k p of_dir root) = subst (λ (j : Kind). IsSamplePath dirs files j path) (sym of_dir) (inl root)
  under_sample kind path (by_entry k p dir es e above here among called is) = child_of kind path dir es e (under_sample Dir dir above) here among called is

  -- and is there as what its entry says
  there : (kind : Kind) (path : Path) → IsSamplePath dirs files kind path → IsThere t kind path
  there File path one = (sample_bytes seed one.0, ap t one.2 ∙ has.at_files one.0 one.1)
  there Dir path (inl root) = (map dir_entry (range_with_len 0 dirs), ap t root ∙ has.at_root)
  there Dir path (inr one) = (map file_entry (files_in files one.0), ap t one.2 ∙ has.at_dirs one.0 one.1)

  pub sample_there : (kind : Kind) (path : Path) → IsUnder t sample_root kind path → IsThere t kind path
  sample_there kind path under = there kind path (under_sample kind path under)

  -- the root and the directories
  all_dirs : List Path
  all_dirs = sample_root ∷ map dir_path (range_with_len 0 dirs)

  listed : (path : Path) → IsSamplePath dirs files Dir path → Contains (sample_root ∷ map dir_path (range_with_len 0 dirs)) path
  listed path (inl root) = (zero, omega arith, sym root)
  listed path (inr one) =
      let among = subst (Contains (map dir_path (range_with_len 0 dirs))) (sym one.2) (among_range dir_path dirs one.0 one.1) in
      (suc among.0, omega (arith, among.1), among.2)

  -- there are no more directories than the root and these
  pub few_dirs : (many : ℕ) → dirs + 1 < many → ¬ AreMany t sample_root Dir many
  few_dirs many more are =
      absurd (omega (
        arith,
        more,
        are.enough,
        length-map-range_with_len dir_path 0 dirs,
        few_paths are.paths (sample_root ∷ map dir_path (range_with_len 0 dirs)) are.distinct (λ p h. listed p (under_sample Dir p (are.under p h))),
      ))
