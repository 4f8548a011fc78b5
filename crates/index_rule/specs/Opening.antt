-- The first values of the mutexes keep the rule.
use Rattle.std.proofs.Common.{◌≡◌, ℕ, Bool, true, false, zero, suc, ◌+◌, List, [], ◌∷◌, ◌++◌, length, map, refl, sym, ap, subst, ◌∙◌, arith}
use Rattle.std.specs.Prelude.{All, Contains}
use Rattle.std.specs.List.{flat_map}
use Rattle.std.specs.List.Sorted.{IsPermutation}
use Rattle.std.proofs.lemmas.List.Elements.{All-nil, All-cons}
use Rattle.std.proofs.lemmas.List.Sorted.{IsPermutation-refl}
use Rattle.std.proofs.lemmas.List.Sums.{sum_by-cons}
use mathlib.Core.Option.{some, some-injective, some-ne-none}
use lib.ListN.{get_elem?}
use Rattle.bounded_buffer.specs.declared.note.Note.{Note}
use Rattle.bounded_buffer.specs.Parts.{Used, unused}
use Rattle.bounded_buffer.specs.Plain.{BufferRule, part_of, pairs_of, any_shut}
use Rattle.bounded_buffer.specs.Rings.{Held, fresh}
use Rattle.firefly_outside.specs.Trees.{Path}
use Rattle.index_rule.specs.Counting.{distinct_nil, distinct_cons, contains_nil}
use Rattle.index_rule.specs.Distinct.{AreDistinct}
use Rattle.index_rule.specs.Shares.{Share, KeepsOwn, IsChildOfTook, IsItemAt, blank, paths_taken}
use Rattle.index_rule.specs.Work.{IsAfter, KeepsWork, ring_of, notes_of, all_took, all_put, all_files}
use Rattle.index_rule.specs.declared.value.IndexItem.{IndexItem}
use Rattle.index_rule.specs.declared.value.IndexValue.{IndexValue}
use Rattle.index_rule.specs.declared.value.IndexValue.TheVariants.{Dirs, Ring}
use Rattle.index_rule.specs.declared.value.DirsInWork.{DirsInWork}

-- a list with only the root
pub record IsFirst (root : Path) (dirs : DirsInWork) : Type 0 where
  pub waits : dirs.list.waiting.items ≡ root ∷ []
  pub one : dirs.found.dirs ≡ 1
  pub none : dirs.found.files ≡ 0

-- and the empty buffers of files and of pieces
pub record IsOpening (root : Path) (values : List IndexValue) : Type 0 where
  pub dirs : DirsInWork
  pub first : IsFirst root dirs
  pub is : values ≡ Dirs dirs ∷ Ring (fresh 4096) ∷ Ring (fresh 8) ∷ []

-- the shares of threads that have done nothing
abbrev pub blanks : List ℕ → List Share
blanks ns = map (λ t. blank) ns

none_of : {Y : Type 0} (f : Share → List Y) (ns : List ℕ) → f blank ≡ [] → flat_map f (blanks ns) ≡ []
none_of f [] none = refl
none_of f (n ∷ ns) none = ap (λ l. l ++ flat_map f (blanks ns)) none ∙ none_of f ns none

none_counted : (ns : List ℕ) → all_files (blanks ns) ≡ 0
none_counted [] = refl
none_counted (n ∷ ns) = sum_by-cons (λ (s : Share). s.files) blank (blanks ns) ∙ ap (λ k. blank.files + k) (none_counted ns)

none_pairs : (f : Used IndexItem → List (ℕ × IndexItem)) (m : ℕ) (ns : List ℕ) → f unused ≡ [] → pairs_of f m (notes_of (blanks ns)) ≡ []
none_pairs f m [] none = refl
none_pairs f m (n ∷ ns) none = ap (λ l. l ++ pairs_of f m (notes_of (blanks ns))) none ∙ none_pairs f m ns none

none_shut : (m : ℕ) (ns : List ℕ) → any_shut m (notes_of (blanks ns)) ≡ false
none_shut m [] = refl
none_shut m (n ∷ ns) = none_shut m ns

none_done : (ns : List ℕ) (t : ℕ) (s : List (Note IndexItem)) → get_elem? (notes_of (blanks ns)) t ≡ some s → [] ≡ s
none_done [] t s e = absurd (some-ne-none s (sym e))
none_done (n ∷ ns) zero s e = some-injective [] s e
none_done (n ∷ ns) (suc t) s e = none_done ns t s e

no_mark : {P : Type 0} (f : Used IndexItem → Bool) (m : ℕ) (ns : List ℕ) → f unused ≡ false → (t : ℕ) (s : List (Note IndexItem))
    → get_elem? (notes_of (blanks ns)) t ≡ some s → f (part_of s m) ≡ true → P
no_mark f m ns none t s at is = let e : f unused ≡ f (part_of s m) =
    ap (λ (r : List (Note IndexItem)). f (part_of r m)) (none_done ns t s at) in let bad : false ≡ true = sym none ∙ (e ∙ is) in absurd (cc)

-- an empty ring at which nothing was done keeps the rule of buffers
blank_rule : (m c : ℕ) (ns : List ℕ) → BufferRule m (fresh c) (notes_of (blanks ns))
blank_rule m c ns = record {
  log = [];
  puts = subst (λ l. IsPermutation l []) (sym (none_pairs (λ u. u.puts) m ns refl)) (IsPermutation-refl []);
  takes = subst (λ l. IsPermutation l []) (sym (none_pairs (λ u. u.takes) m ns refl)) (IsPermutation-refl []);
  taken = omega arith;
  left = refl;
  room = omega arith;
  shut = sym (none_shut m ns);
  seen_shut = no_mark (λ u. u.seen_shut) m ns refl;
  seen_end = no_mark (λ u. u.seen_end) m ns refl;
}

own_blank : (root : Path) → KeepsOwn root blank
own_blank root = record {
  kinds = λ m. All-nil (λ (p : ℕ × IndexItem). IsItemAt m p.1);
  dirs = All-nil (IsChildOfTook blank);
  files = All-nil (IsChildOfTook blank);
  files_once = distinct_nil;
  pieces = All-nil (Contains (paths_taken root 1 blank));
  pieces_once = distinct_nil;
}

all_blank : (root : Path) (ns : List ℕ) → All (KeepsOwn root) (blanks ns)
all_blank root [] = All-nil (KeepsOwn root)
all_blank root (n ∷ ns) = All-cons (KeepsOwn root) blank (blanks ns) (own_blank root) (all_blank root ns)

pub opens : (root : Path) (values : List IndexValue) (ns : List ℕ) → IsOpening root values → KeepsWork root values (blanks ns)
opens root values ns is = subst (λ vs. KeepsWork root vs (blanks ns)) (sym is.is) (record {
  kinds = kinds;
  rings = rings;
  dirs = subst (λ l. IsPermutation l (root ∷ all_put (blanks ns))) (sym waits)
      (subst (λ l. IsPermutation (root ∷ []) (root ∷ l)) (sym (none_of (λ s. s.put) ns refl)) (IsPermutation-refl (root ∷ [])));
  once = subst AreDistinct (sym waits) (distinct_cons root [] (contains_nil root) distinct_nil);
  dirs_counted = is.first.one ∙ ap (λ (l : List Path). 1 + length l) (sym (none_of (λ s. s.put) ns refl));
  files_counted = is.first.none ∙ sym (none_counted ns);
  own = all_blank root ns;
})
  where
    list : List IndexValue
    list = Dirs is.dirs ∷ Ring (fresh 4096) ∷ Ring (fresh 8) ∷ []

    waits : is.dirs.list.waiting.items ++ all_took (blanks ns) ≡ root ∷ []
    waits = ap (λ l. is.dirs.list.waiting.items ++ l) (none_of (λ s. s.took) ns refl) ∙ ap (λ l. l ++ []) is.first.waits

    kinds : (m : ℕ) (v : IndexValue) → get_elem? list m ≡ some v → IsAfter m v
    kinds zero v e = subst (λ (u : IndexValue). IsAfter 0 u) (some-injective (Dirs is.dirs) v e) refl
    kinds (suc zero) v e = subst (λ (u : IndexValue). IsAfter 1 u) (some-injective (Ring (fresh 4096)) v e) (λ z. omega arith)
    kinds (suc (suc zero)) v e = subst (λ (u : IndexValue). IsAfter 2 u) (some-injective (Ring (fresh 8)) v e) (λ z. omega arith)
    kinds (suc (suc (suc m))) v e = absurd (some-ne-none v (sym e))

    rings : (m : ℕ) (q : Held IndexItem) → get_elem? (map ring_of list) m ≡ some q → BufferRule m q (notes_of (blanks ns))
    rings zero q e = subst (λ (r : Held IndexItem). BufferRule 0 r (notes_of (blanks ns))) (some-injective (fresh 1) q e)
        (blank_rule 0 1 ns)
    rings (suc zero) q e = subst (λ (r : Held IndexItem). BufferRule 1 r (notes_of (blanks ns))) (some-injective (fresh 4096) q e)
        (blank_rule 1 4096 ns)
    rings (suc (suc zero)) q e = subst (λ (r : Held IndexItem). BufferRule 2 r (notes_of (blanks ns))) (some-injective (fresh 8) q e)
        (blank_rule 2 8 ns)
    rings (suc (suc (suc m))) q e = absurd (some-ne-none q (sym e))
