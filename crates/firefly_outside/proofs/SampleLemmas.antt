-- The sample tree, with one more directory or one more file.
use Rattle.std.proofs.Common.{◌≡◌, ◌≢◌, ℕ, ◌+◌, ◌-◌, ◌*◌, ◌/◌, ◌%◌, ◌^◌, ◌<◌, ◌≤◌, List, [], ◌∷◌, ◌++◌, map, min, sym, ◌∙◌, ap, refl, arith, ◌⊎◌, ⊎_elim}
use Rattle.std.specs.Prelude.{Some, None, decimal}
use Rattle.std.specs.List.{All, range_with_len}
use Rattle.std.proofs.lemmas.List.Elements.{All-append, All-cons, All-nil}
use Rattle.std.proofs.lemmas.List.FromFn.{map-range_with_len_more}
use Rattle.std.proofs.lemmas.Fmt.{decimal_by_steps, decimal_injective}
use Rattle.firefly_outside.specs.Trees.{Path, Node, Directory, Bytes, Contents, child, slash, IsName, HasParent, IsBare, Adds}
use Rattle.firefly_outside.specs.declared.tree.Entry.{Entry}
use Rattle.firefly_outside.specs.declared.tree.Kind.{Kind}
use Rattle.firefly_outside.specs.declared.tree.Kind.TheVariants.{File, Dir}
use Rattle.firefly_outside.specs.Samples.{sample_root, dir_entry, file_entry, dir_path, file_path, files_in, sample_bytes, dir_count, HasSamples}
use Rattle.firefly_outside.proofs.PathLemmas.{child-unique, plain-slash}

abbrev IsPlain : Path → Type 0
IsPlain name = All (λ b. b ≢ slash) name

plain-decimal : (n : ℕ) → n < 2 ^ 64 → IsPlain (decimal n)
plain-decimal = decimal_by_steps (λ n ds. IsPlain ds)
    (λ n small. All-cons (λ b. b ≢ slash) (48 + n) [] (λ e. omega (arith, e)) (All-nil (λ b. b ≢ slash)))
    (λ n ds big prefix. All-append (λ b. b ≢ slash) ds ((48 + n % 10) ∷ []) prefix (All-cons (λ b. b ≢ slash) (48 + n % 10) [] (λ e. omega (arith, e)) (All-nil (λ b. b ≢ slash))))

-- a letter and a number are a name
lettered : (b n : ℕ) → b ≢ slash → n < 2 ^ 64 → IsName (b ∷ decimal n)
lettered b n other small = record { some = omega arith; plain = All-cons (λ b. b ≢ slash) b (decimal n) other (plain-decimal n small) }

pub dir_name : (k : ℕ) → k < 2 ^ 64 → IsName (dir_entry k).name
dir_name k small = lettered 100 k (λ e. omega (arith, e)) small

pub file_name : (i : ℕ) → i < 2 ^ 64 → IsName (file_entry i).name
file_name i small = lettered 102 i (λ e. omega (arith, e)) small

tail : (a b : ℕ) (xs ys : List ℕ) → a ∷ xs ≡ b ∷ ys → xs ≡ ys
tail a b xs ys e = cc

-- no two directories and no two files have one path
pub dir_path-injective : (j k : ℕ) → j < 2 ^ 64 → k < 2 ^ 64 → dir_path j ≡ dir_path k → j ≡ k
dir_path-injective j k first second same =
    decimal_injective j k first second (tail 100 100 (decimal j) (decimal k) (child-unique sample_root sample_root (dir_entry j).name (dir_entry k).name same (dir_name j first).plain (dir_name k second).plain).1)

pub file_path-injective : (i j : ℕ) → i < 2 ^ 64 → j < 2 ^ 64 → file_path i ≡ file_path j → i ≡ j
file_path-injective i j first second same =
    decimal_injective i j first second (tail 102 102 (decimal i) (decimal j) (child-unique (dir_path (i / 100)) (dir_path (j / 100)) (file_entry i).name (file_entry j).name same (file_name i first).plain (file_name j second).plain).1)

-- the root is nobody's child
pub root_alone : (dir name : Path) → sample_root ≢ child dir name
root_alone dir name same = plain-slash sample_root dir name same
    (letter 115 (97 ∷ 109 ∷ 112 ∷ 108 ∷ 101 ∷ []) (λ e. omega (arith, e)) (letter 97 (109 ∷ 112 ∷ 108 ∷ 101 ∷ []) (λ e. omega (arith, e))
    (letter 109 (112 ∷ 108 ∷ 101 ∷ []) (λ e. omega (arith, e)) (letter 112 (108 ∷ 101 ∷ []) (λ e. omega (arith, e))
    (letter 108 (101 ∷ []) (λ e. omega (arith, e)) (letter 101 [] (λ e. omega (arith, e)) (All-nil (λ b. b ≢ slash))))))))
  where
    letter : (b : ℕ) (bs : List ℕ) → b ≢ slash → IsPlain bs → IsPlain (b ∷ bs)
    letter b bs = All-cons (λ b. b ≢ slash) b bs

-- a file's path is no directory's
pub file_no_dir : (i k : ℕ) → i < 2 ^ 64 → k < 2 ^ 64 → file_path i ≢ dir_path k
file_no_dir i k first second same =
    root_alone sample_root (dir_entry (i / 100)).name (sym (child-unique (dir_path (i / 100)) sample_root (file_entry i).name (dir_entry k).name same (file_name i first).plain (dir_name k second).plain).0)

-- all but the child and its parent is as before
untouched : (old new : Contents) (dir name : Path) (kind : Kind) (node : Node) → IsName name → Adds old new (child dir name) kind node → (q : Path) → q ≢ child dir name → q ≢ dir → new q ≡ old q
untouched old new dir name kind node lawful adds q other apart =
    adds.others q other (λ n es under here. apart (child-unique q dir n name (sym under.is) under.lawful.plain lawful.plain).0)

-- the root alone
pub root_added : (seed : ℕ) (old new : Contents) → IsBare old → Adds old new sample_root Dir (Directory []) → HasSamples seed 0 0 new
root_added seed old new bare adds = record {
  at_root = adds.added;
  at_dirs = λ k below. absurd (omega (arith, below));
  at_files = λ i below. absurd (omega (arith, below));
  elsewhere = λ q other dirs files. adds.others q other (λ name es under here. nothing es (sym (bare q) ∙ here)) ∙ bare q;
}
  where
    nothing : (es : List Entry) → None ≡ Some (Directory es) → ⊥
    nothing es e = cc

-- nothing is at the path of a directory or file that is to come
pub dir_absent : (seed dirs files : ℕ) (t : Contents) → dirs < 20000 → files < 20000 → HasSamples seed dirs files t → t (dir_path dirs) ≡ None
dir_absent seed dirs files t few many has = has.elsewhere (dir_path dirs)
    (λ e. root_alone sample_root (dir_entry dirs).name (sym e))
    (λ k below e. omega (arith, below, dir_path-injective dirs k (omega (arith, few)) (omega (arith, few, below)) e))
    (λ i below e. file_no_dir i dirs (omega (arith, many, below)) (omega (arith, few)) (sym e))

pub file_absent : (seed dirs files : ℕ) (t : Contents) → dirs < 20000 → files < 20000 → HasSamples seed dirs files t → t (file_path files) ≡ None
file_absent seed dirs files t few many has = has.elsewhere (file_path files)
    (λ e. root_alone (dir_path (files / 100)) (file_entry files).name (sym e))
    (λ k below e. file_no_dir files k (omega (arith, many)) (omega (arith, few, below)) e)
    (λ i below e. omega (arith, below, file_path-injective files i (omega (arith, many)) (omega (arith, many, below)) e))

-- and its parent is there
pub dir_parent : (seed dirs files : ℕ) (t : Contents) → dirs < 20000 → HasSamples seed dirs files t → HasParent t (dir_path dirs)
dir_parent seed dirs files t few has = record {
  dir = sample_root;
  name = (dir_entry dirs).name;
  under = record { lawful = dir_name dirs (omega (arith, few)); is = refl };
  entries = map dir_entry (range_with_len 0 dirs);
  here = has.at_root;
}

pub file_parent : (seed dirs files : ℕ) (t : Contents) → files < 20000 → files / 100 < dirs → HasSamples seed dirs files t → HasParent t (file_path files)
file_parent seed dirs files t few below has = record {
  dir = dir_path (files / 100);
  name = (file_entry files).name;
  under = record { lawful = file_name files (omega (arith, few)); is = refl };
  entries = map file_entry (files_in files (files / 100));
  here = has.at_dirs (files / 100) below;
}

below_or_last : (k n : ℕ) → k < n + 1 → (k < n) ⊎ (k ≡ n)
below_or_last k n h = grind (arith, h)

-- no file is in a directory that comes after them all
none_in : (files k : ℕ) → files ≤ 100 * k → files_in files k ≡ []
none_in files k all = ap (range_with_len (100 * k)) (let e : files - 100 * k ≡ 0 = omega (arith, all) in ap (min 100) e)

-- one more directory, for which there is no file yet
pub dir_added : (seed dirs files : ℕ) (old new : Contents) → dirs < 20000 → files < 20000 → files ≤ 100 * dirs → HasSamples seed dirs files old
    → Adds old new (dir_path dirs) Dir (Directory []) → HasSamples seed (dirs + 1) files new
dir_added seed dirs files old new few many none has adds = record {
  at_root =
      adds.named sample_root (dir_entry dirs).name (map dir_entry (range_with_len 0 dirs)) (record { lawful = lawful; is = refl }) has.at_root
      ∙ ap (λ l. Some (Directory l)) (sym (map-range_with_len_more dir_entry 0 dirs dirs (omega arith)));
  at_dirs = λ k below. ⊎_elim
      (λ (earlier : k < dirs). stays (dir_path k) (λ e. omega (arith, earlier, dir_path-injective k dirs (omega (arith, earlier, few)) (omega (arith, few)) e)) (λ e. root_alone sample_root (dir_entry k).name (sym e)) ∙ has.at_dirs k earlier)
      (λ (last : k ≡ dirs). ap (λ m. new (dir_path m)) last ∙ adds.added ∙ ap (λ l. Some (Directory l)) (ap (map file_entry) (sym (none_in files k (omega (arith, none, last))))))
      (below_or_last k dirs below);
  at_files = λ i below.
      stays (file_path i) (file_no_dir i dirs (omega (arith, many, below)) (omega (arith, few))) (λ e. root_alone (dir_path (i / 100)) (file_entry i).name (sym e)) ∙ has.at_files i below;
  elsewhere = λ q other not_dirs not_files.
      stays q (not_dirs dirs (omega arith)) other ∙ has.elsewhere q other (λ k below. not_dirs k (omega (arith, below))) not_files;
}
  where
    lawful : IsName (dir_entry dirs).name
    lawful = dir_name dirs (omega (arith, few))

    stays : (q : Path) → q ≢ dir_path dirs → q ≢ sample_root → new q ≡ old q
    stays = untouched old new sample_root (dir_entry dirs).name Dir (Directory []) lawful adds

-- a file more in its own directory, and none in the others
its_own : (files : ℕ) → map file_entry (files_in (files + 1) (files / 100)) ≡ map file_entry (files_in files (files / 100)) ++ file_entry files ∷ []
its_own files =
    let rest : ℕ = files - 100 * (files / 100) in
    let one : min 100 (files + 1 - 100 * (files / 100)) ≡ rest + 1 = omega arith in
    let other : min 100 (files - 100 * (files / 100)) ≡ rest = omega arith in
    ap (λ n. map file_entry (range_with_len (100 * (files / 100)) n)) one ∙ map-range_with_len_more file_entry (100 * (files / 100)) rest files (omega arith)
    ∙ ap (λ n. map file_entry (range_with_len (100 * (files / 100)) n) ++ file_entry files ∷ []) (sym other)

another : (files k : ℕ) → k ≢ files / 100 → files_in (files + 1) k ≡ files_in files k
another files k apart = ap (range_with_len (100 * k)) (same_count files k apart)
  where
    same_count : (files k : ℕ) → k ≢ files / 100 → min 100 (files + 1 - 100 * k) ≡ min 100 (files - 100 * k)
    same_count files k apart = grind (arith, apart)

-- one more file
pub file_added : (seed dirs files : ℕ) (old new : Contents) → dirs < 20000 → files < 20000 → files / 100 < dirs → HasSamples seed dirs files old
    → Adds old new (file_path files) File (Bytes (sample_bytes seed files)) → HasSamples seed dirs (files + 1) new
file_added seed dirs files old new few many there has adds = record {
  at_root = stays sample_root (root_alone (dir_path (files / 100)) (file_entry files).name) (root_alone sample_root (dir_entry (files / 100)).name) ∙ has.at_root;
  at_dirs = λ k below. ⊎_elim
      (λ (own : k ≡ files / 100). ap (λ m. new (dir_path m)) own
      ∙ adds.named (dir_path (files / 100)) (file_entry files).name (map file_entry (files_in files (files / 100))) (record { lawful = lawful; is = refl }) (has.at_dirs (files / 100) there)
      ∙ ap (λ l. Some (Directory l)) (sym (its_own files)) ∙ ap (λ m. Some (Directory (map file_entry (files_in (files + 1) m)))) (sym own))
      (λ (apart : k ≢ files / 100). stays (dir_path k) (λ e. file_no_dir files k (omega (arith, many)) (omega (arith, few, below)) (sym e)) (λ e. apart (dir_path-injective k (files / 100) (omega (arith, few, below)) (omega (arith, few, there)) e))
      ∙ has.at_dirs k below ∙ ap (λ l. Some (Directory (map file_entry l))) (sym (another files k apart)))
      (same_or_not k (files / 100));
  at_files = λ i below. ⊎_elim
      (λ (earlier : i < files). stays (file_path i) (λ e. omega (arith, earlier, file_path-injective i files (omega (arith, earlier, many)) (omega (arith, many)) e)) (file_no_dir i (files / 100) (omega (arith, earlier, many)) (omega (arith, there, few))) ∙ has.at_files i earlier)
      (λ (last : i ≡ files). ap (λ m. new (file_path m)) last ∙ adds.added ∙ ap (λ m. Some (Bytes (sample_bytes seed m))) (sym last))
      (below_or_last i files below);
  elsewhere = λ q other not_dirs not_files.
      stays q (not_files files (omega arith)) (not_dirs (files / 100) there) ∙ has.elsewhere q other not_dirs (λ i below. not_files i (omega (arith, below)));
}
  where
    lawful : IsName (file_entry files).name
    lawful = file_name files (omega (arith, many))

    stays : (q : Path) → q ≢ file_path files → q ≢ dir_path (files / 100) → new q ≡ old q
    stays = untouched old new (dir_path (files / 100)) (file_entry files).name File (Bytes (sample_bytes seed files)) lawful adds

    same_or_not : (j k : ℕ) → (j ≡ k) ⊎ (j ≢ k)
    same_or_not j k = grind arith

-- so many directories are needed before a file and after it
pub dirs_before : (file : ℕ) → file % 100 ≡ 0 → (dir_count file ≡ file / 100) × (dir_count (file + 1) ≡ file / 100 + 1)
dirs_before file first = (omega (arith, first), omega (arith, first))

pub dirs_stay : (file : ℕ) → file % 100 ≢ 0 → dir_count (file + 1) ≡ dir_count file
dirs_stay file other = omega (arith, other)

pub dir_there : (file : ℕ) → file / 100 < dir_count (file + 1)
dir_there file = omega arith
