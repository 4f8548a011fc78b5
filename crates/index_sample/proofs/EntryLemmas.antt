-- The entries of a sample tree are lawful.
use Rattle.std.proofs.Common.{◌≡◌, ℕ, ◌+◌, ◌-◌, ◌*◌, ◌^◌, ◌<◌, ◌≤◌, List, [], ◌∷◌, ◌++◌, map, min, sym, ◌∙◌, ap, subst, refl, arith}
use Rattle.std.specs.Prelude.{decimal}
use Rattle.std.specs.List.{range_with_len}
use Rattle.std.proofs.lemmas.List.FromFn.{map-range_with_len_more, get_or-map-range_with_len, length-map-range_with_len}
use Rattle.std.proofs.lemmas.Fmt.{decimal_injective}
use Rattle.firefly_outside.specs.Trees.{Path, IsName, AreEntries}
use Rattle.firefly_outside.specs.Samples.{dir_entry, file_entry, dir_count}
use Rattle.firefly_outside.specs.declared.tree.Entry.{Entry}
use Rattle.firefly_outside.proofs.SampleLemmas.{dir_name, file_name}
use Rattle.std.specs.Prelude.{Option, Some, None, Vec}
use Rattle.std.specs.Global.{Global}
use Rattle.index_sample.specs.Listings.{IsDirOf, of_root, of_dir, IsNoDir, IsListed}

-- one more entry of a range
pub entries_more : (f : ℕ → Entry) (a n j : ℕ) (old made : List Entry) → a + n ≡ j → old ≡ map f (range_with_len a n) → made ≡ old ++ f j ∷ [] → made ≡ map f (range_with_len a (n + 1))
entries_more f a n j old made at first second =
    second ∙ ap (λ l. l ++ f j ∷ []) first ∙ sym (map-range_with_len_more f a n j at)

tail : (a : ℕ) (xs ys : List ℕ) → a ∷ xs ≡ a ∷ ys → xs ≡ ys
tail a xs ys e = cc

lawful_range : (f : ℕ → Entry) (a n : ℕ) → a + n ≤ 20000 → ((i : ℕ) → i < 2 ^ 64 → IsName (f i).name) → ((i j : ℕ) → i < 2 ^ 64 → j < 2 ^ 64 → (f i).name ≡ (f j).name → i ≡ j)
    → AreEntries (map f (range_with_len a n))
lawful_range f a n few named apart = record {
  names = λ i d within.
      let below : i < n = omega (arith, within, length-map-range_with_len f a n) in
      subst (λ (e : Entry). IsName e.name) (sym (get_or-map-range_with_len f a n i (a + i) d below refl)) (named (a + i) (omega (arith, below, few)));
  distinct = λ i j d before within same.
      let last : j < n = omega (arith, within, length-map-range_with_len f a n) in
      let first : i < n = omega (arith, before, last) in
      let names : (f (a + i)).name ≡ (f (a + j)).name =
      ap (λ (e : Entry). e.name) (sym (get_or-map-range_with_len f a n i (a + i) d first refl)) ∙ same ∙ ap (λ (e : Entry). e.name) (get_or-map-range_with_len f a n j (a + j) d last refl) in
      omega (arith, before, apart (a + i) (a + j) (omega (arith, first, few)) (omega (arith, last, few)) names);
}

dirs_apart : (i j : ℕ) → i < 2 ^ 64 → j < 2 ^ 64 → (dir_entry i).name ≡ (dir_entry j).name → i ≡ j
dirs_apart i j first second same = decimal_injective i j first second (tail 100 (decimal i) (decimal j) same)

files_apart : (i j : ℕ) → i < 2 ^ 64 → j < 2 ^ 64 → (file_entry i).name ≡ (file_entry j).name → i ≡ j
files_apart i j first second same = decimal_injective i j first second (tail 102 (decimal i) (decimal j) same)

-- the entries of one directory
pub lawful_entries : (files : ℕ) (dir : Path) (es : List Entry) → files ≤ 20000 → IsDirOf files dir es → AreEntries es
lawful_entries files dir es few (of_root at is) = subst AreEntries (sym is) (lawful_range dir_entry 0 (dir_count files) (omega (arith, few)) dir_name dirs_apart)
lawful_entries files dir es few (of_dir k below at is) =
    subst AreEntries (sym is) (lawful_range file_entry (100 * k) (min 100 (files - 100 * k)) (within files k few below) file_name files_apart)
  where
    within : (files k : ℕ) → files ≤ 20000 → k < dir_count files → 100 * k + min 100 (files - 100 * k) ≤ 20000
    within files k few below = omega (arith, few, below)

-- what was found at a path
pub listed_some : (files : ℕ) (dir : Path) (o : Option (Vec Entry Global)) (v : Vec Entry Global) → IsListed files dir o → o ≡ Some v → IsDirOf files dir v.items
listed_some files dir (Some w) v h e = let same : w ≡ v = cc in subst (λ (u : Vec Entry Global). IsDirOf files dir u.items) same h
listed_some files dir None v h e = absurd (cc)

pub listed_none : (files : ℕ) (dir : Path) (o : Option (Vec Entry Global)) → IsListed files dir o → o ≡ None → IsNoDir files dir
listed_none files dir None h e = h
listed_none files dir (Some w) h e = absurd (cc)
