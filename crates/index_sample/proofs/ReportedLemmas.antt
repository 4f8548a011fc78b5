-- What is told of a sample tree is the sample tree.
use Rattle.std.proofs.Common.{◌≡◌, ◌≢◌, ℕ, ◌/◌, ◌<◌, ◌≤◌, zero, suc, Bool, true, false, List, map, sym, ◌∙◌, ap, refl, arith, ◌⊎◌, inl, inr, ⊎_elim, nat_eq}
use Rattle.std.specs.Prelude.{Option, Some, None, if◌then◌else◌}
use Rattle.std.specs.List.{range_with_len}
use Rattle.std.specs.Cmp.Lexicographic.{pointwise}
use Rattle.firefly_outside.specs.Trees.{Path, Directory, Bytes}
use Rattle.firefly_outside.specs.declared.tree.Entry.{Entry}
use Rattle.firefly_outside.specs.Samples.{sample_root, dir_entry, file_entry, dir_path, file_path, dir_count, files_in, sample_bytes, IsSampleTree}
use Rattle.firefly_outside.proofs.SampleLemmas.{dir_path-injective, file_path-injective, root_alone, file_no_dir}
use Rattle.firefly_outside.proofs.TreeLemmas.{path_cases}
use Rattle.index_sample.specs.Reported.{number_at, node_below, sample_reported}
use Rattle.index_sample.specs.Listings.{IsDirOf, of_root, of_dir, IsNoDir}

test_of : (p q : Path) → p ≡ q → pointwise nat_eq p q ≡ true
test_of p q same = elim (path_cases p q) [ inl t ↦ t.1 | inr f ↦ absurd (f.0 same) ]

test_not : (p q : Path) → p ≢ q → pointwise nat_eq p q ≡ false
test_not p q apart = elim (path_cases p q) [ inl t ↦ absurd (apart t.0) | inr f ↦ f.1 ]

chosen : {X : Type 0} (b : Bool) (x y : X) → b ≡ true → (if b then x else y) ≡ x
chosen b x y e = rw e refl

other : {X : Type 0} (b : Bool) (x y : X) → b ≡ false → (if b then x else y) ≡ y
other b x y e = rw e refl

below_or_last : (k n : ℕ) → k < suc n → (k < n) ⊎ (k ≡ n)
below_or_last k n h = grind (arith, h)

-- no number has the path
none_at : (f : ℕ → Path) (n : ℕ) (q : Path) → ((k : ℕ) → k < n → q ≢ f k) → number_at f n q ≡ None
unfolding number_at
none_at f zero q apart = refl
none_at f (suc n) q apart =
    other (pointwise nat_eq (f n) q) (Some n) (number_at f n q) (test_not (f n) q (λ e. apart n (omega arith) (sym e)))
    ∙ none_at f n q (λ k below. apart k (omega (arith, below)))

-- this one has it
one_at : (f : ℕ → Path) (n k : ℕ) (q : Path) → ((i j : ℕ) → i < n → j < n → f i ≡ f j → i ≡ j) → k < n → q ≡ f k → number_at f n q ≡ Some k
unfolding number_at
one_at f zero k q apart below is = absurd (omega (arith, below))
one_at f (suc n) k q apart below is = ⊎_elim
    (λ (earlier : k < n).
    other (pointwise nat_eq (f n) q) (Some n) (number_at f n q) (test_not (f n) q (λ e. omega (arith, earlier, apart n k (omega arith) below (e ∙ is))))
    ∙ one_at f n k q (λ i j first second. apart i j (omega (arith, first)) (omega (arith, second))) earlier is)
    (λ (last : k ≡ n). chosen (pointwise nat_eq (f n) q) (Some n) (number_at f n q) (test_of (f n) q (ap f (sym last) ∙ sym is)) ∙ ap (λ m. Some m) (sym last))
    (below_or_last k n below)

module _ (seed files : ℕ) (few : files ≤ 20000) where
  not_root : (q : Path) → q ≢ sample_root → sample_reported seed files q ≡ node_below seed files (number_at dir_path (dir_count files) q) (number_at file_path files q)
  not_root q apart = other (pointwise nat_eq sample_root q) (Some (Directory (map dir_entry (range_with_len 0 (dir_count files))))) (node_below seed files (number_at dir_path (dir_count files) q) (number_at file_path files q))
      (test_not sample_root q (λ e. apart (sym e)))

  at_root_reported : sample_reported seed files sample_root ≡ Some (Directory (map dir_entry (range_with_len 0 (dir_count files))))
  at_root_reported = chosen (pointwise nat_eq sample_root sample_root) (Some (Directory (map dir_entry (range_with_len 0 (dir_count files)))))
      (node_below seed files (number_at dir_path (dir_count files) sample_root) (number_at file_path files sample_root)) (test_of sample_root sample_root refl)

  at_dir_reported : (k : ℕ) → k < dir_count files → sample_reported seed files (dir_path k) ≡ Some (Directory (map file_entry (files_in files k)))
  at_dir_reported k below =
      not_root (dir_path k) (λ e. root_alone sample_root (dir_entry k).name (sym e))
      ∙ ap (λ o. node_below seed files o (number_at file_path files (dir_path k)))
      (one_at dir_path (dir_count files) k (dir_path k) (λ i j first second. dir_path-injective i j (omega (arith, few, first)) (omega (arith, few, second))) below refl)

  no_dir_at : (i : ℕ) → i < files → number_at dir_path (dir_count files) (file_path i) ≡ None
  no_dir_at i below = none_at dir_path (dir_count files) (file_path i) (λ k within. file_no_dir i k (omega (arith, few, below)) (omega (arith, few, within)))

  at_file_reported : (i : ℕ) → i < files → sample_reported seed files (file_path i) ≡ Some (Bytes (sample_bytes seed i))
  at_file_reported i below =
      not_root (file_path i) (λ e. root_alone (dir_path (i / 100)) (file_entry i).name (sym e))
      ∙ ap (λ o. node_below seed files o (number_at file_path files (file_path i))) (no_dir_at i below)
      ∙ ap (λ o. node_below seed files None o)
      (one_at file_path files i (file_path i) (λ i j first second. file_path-injective i j (omega (arith, few, first)) (omega (arith, few, second))) below refl)

  pub reported_sample : IsSampleTree seed files (sample_reported seed files)
  reported_sample = record {
    at_root = at_root_reported;
    at_dirs = at_dir_reported;
    at_files = at_file_reported;
    elsewhere = λ q root dirs files_at.
        not_root q root ∙ ap (λ o. node_below seed files o (number_at file_path files q)) (none_at dir_path (dir_count files) q dirs)
        ∙ ap (λ o. node_below seed files None o) (none_at file_path files q files_at);
  }

  -- the tree has the entries that are listed at a path
  pub dir_reported : (dir : Path) (es : List Entry) → IsDirOf files dir es → sample_reported seed files dir ≡ Some (Directory es)
  dir_reported dir es (of_root at is) = ap (sample_reported seed files) at ∙ at_root_reported ∙ ap (λ l. Some (Directory l)) (sym is)
  dir_reported dir es (of_dir k below at is) = ap (sample_reported seed files) at ∙ at_dir_reported k below ∙ ap (λ l. Some (Directory l)) (sym is)

  pub file_reported : (path : Path) (i : ℕ) → i < files → path ≡ file_path i → sample_reported seed files path ≡ Some (Bytes (sample_bytes seed i))
  file_reported path i below at = ap (sample_reported seed files) at ∙ at_file_reported i below

  -- where no directory is, none is told
  no_dir_below : (o : Option ℕ) (es : List Entry) → node_below seed files None o ≡ Some (Directory es) → ⊥
  no_dir_below None es e = cc
  no_dir_below (Some i) es e = cc

  pub no_dir_reported : (dir : Path) → IsNoDir files dir → (es : List Entry) → sample_reported seed files dir ≡ Some (Directory es) → ⊥
  no_dir_reported dir none es e = no_dir_below (number_at file_path files dir) es
      (sym (not_root dir none.no_root ∙ ap (λ o. node_below seed files o (number_at file_path files dir)) (none_at dir_path (dir_count files) dir none.no_dir)) ∙ e)

  -- and where no file is, none is
  no_file_below : (o : Option ℕ) (bs : List ℕ) → node_below seed files o None ≡ Some (Bytes bs) → ⊥
  no_file_below None bs e = cc
  no_file_below (Some k) bs e = cc

  root_no_file : (es : List Entry) (bs : List ℕ) → Some (Directory es) ≡ Some (Bytes bs) → ⊥
  root_no_file es bs e = cc

  pub no_file_reported : (path : Path) → ((i : ℕ) → i < files → path ≢ file_path i) → (bs : List ℕ) → sample_reported seed files path ≡ Some (Bytes bs) → ⊥
  no_file_reported path none bs e = elim (path_cases path sample_root) [
    | inl root ↦ root_no_file (map dir_entry (range_with_len 0 (dir_count files))) bs (sym (ap (sample_reported seed files) root.0 ∙ at_root_reported) ∙ e)
    | inr apart ↦ no_file_below (number_at dir_path (dir_count files) path) bs
        (sym (not_root path apart.0 ∙ ap (λ o. node_below seed files (number_at dir_path (dir_count files) path) o) (none_at file_path files path none)) ∙ e)
  ]
