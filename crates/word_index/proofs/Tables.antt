-- The rows of two pieces on the way to their union.
use Rattle.std.proofs.Common.{◌≡◌, ℕ, ◌+◌, ◌<◌, ◌≤◌, List, [], ◌∷◌, ◌++◌, length, get_or, take, map, arith, refl, sym, ap, subst, ◌∙◌, IsPermutation, All}
use Rattle.std.specs.List.{AllPairs, flat_map}
use Rattle.std.proofs.lemmas.List.{take_all, length_push}
use Rattle.std.proofs.lemmas.List.Elements.{All-push, All-nil, All-get_or}
use Rattle.std.proofs.lemmas.List.Sorted.{IsPermutation-refl, IsPermutation-trans, IsPermutation-append_comm}
use Rattle.word_index.specs.declared.rows.Place.{Place}
use Rattle.word_index.specs.Index.{IsBelow, IsRising, Entry, row_entries}
use Rattle.word_index.specs.Piece.{row_of, rows_of, IsRow}
use Rattle.word_index.specs.Numbered.{IsNumbered, moved, AreApart}
use Rattle.word_index.specs.Merged.{IsPathBelow, AreMerged}
use Rattle.word_index.specs.Table.{IsTable}
use Rattle.word_index.proofs.Below.{below_trans}
use Rattle.word_index.proofs.Joins.{Joins, joins_none, joins_first, joins_both, flip}
use Rattle.word_index.proofs.Permuted.{permuted_first, permuted_both}
use Rattle.word_index.proofs.Sides.{length_rows, entries_more, entries_push, entries_merged, entries_moved, has_number, row_moved, row_merged}

-- the words and rows of a piece, with its paths and their numbers among all
pub record Side : Type 0 where
  pub paths : List (List ℕ)
  pub words : List (List ℕ)
  pub rows : List (List Place)
  pub numbers : List ℕ

pub record IsSide (all : List (List ℕ)) (s : Side) : Type 0 where
  pub words : IsRising s.words
  pub many : length s.words ≡ length s.rows
  pub each : All (IsRow (length s.paths)) s.rows
  pub finds : IsNumbered s.paths all s.numbers (length s.paths)

-- the entries of the first rows
abbrev pub prefix : Side → ℕ → List Entry
prefix s i = flat_map row_entries (take i (rows_of s.paths s.words s.rows))

pub record TablesJoined (all : List (List ℕ)) (a b : Side) (i j : ℕ) (words : List (List ℕ)) (rows : List (List Place)) : Type 0 where
  pub order : Joins IsBelow [] a.words b.words i j words
  pub many : length words ≡ length rows
  pub each : All (IsRow (length all)) rows
  pub same : IsPermutation (prefix a i ++ prefix b j) (flat_map row_entries (rows_of all words rows))

module _ {all : List (List ℕ)} where
  pub tables_none : (a b : Side) → TablesJoined all a b 0 0 [] []
  tables_none a b = record {
    order = joins_none IsBelow [] a.words b.words;
    many = refl;
    each = All-nil (IsRow (length all));
    same = IsPermutation-refl [];
  }

  tables_flip : {a b : Side} {i j : ℕ} {words : List (List ℕ)} {rows : List (List Place)} → TablesJoined all a b i j words rows → TablesJoined all b a j i words rows
  tables_flip {a} {b} {i} {j} t = record {
    order = flip below_trans t.order;
    many = t.many;
    each = t.each;
    same = IsPermutation-trans _ _ _ (IsPermutation-append_comm (prefix b j) (prefix a i)) t.same;
  }

  -- the row of a side at a place, as it is moved
  row_here : (s : Side) → IsSide all s → (i : ℕ) → i < length s.words → IsRow (length s.paths) (get_or s.rows i [])
  row_here s is i here = All-get_or (IsRow (length s.paths)) s.rows i [] (omega (arith, here, is.many)) is.each

  -- and under numbers and as a row that are told
  pub row_numbered : {s : Side} → IsSide all s → {i : ℕ} → i < length s.words → {row : List Place} {shown : List ℕ} → row ≡ get_or s.rows i [] → shown ≡ s.numbers → All (λ p. p.path < length shown) row
  row_numbered {s} is {i} here {row} {shown} r n = rw (r, n) (has_number is.finds (get_or s.rows i []) (row_here s is i here).within)

  pub row_rises : {s : Side} → IsSide all s → {i : ℕ} → i < length s.words → {row : List Place} {shown : List ℕ} → row ≡ get_or s.rows i [] → shown ≡ s.numbers → AllPairs IsPathBelow (map (moved shown) row)
  row_rises {s} is {i} here {row} {shown} r n = rw (r, n) (row_moved is.finds (get_or s.rows i []) (row_here s is i here)).rising

  pub tables_first : {a b : Side} → IsSide all a → {i j : ℕ} {words : List (List ℕ)} {rows : List (List Place)} → TablesJoined all a b i j words rows
      → i < length a.words → (j < length b.words → IsBelow (get_or a.words i []) (get_or b.words j []))
      → TablesJoined all a b (i + 1) j (words ++ get_or a.words i [] ∷ []) (rows ++ map (moved a.numbers) (get_or a.rows i []) ∷ [])
  tables_first {a} {b} is_a {i} {j} {words} {rows} old here less =
      let w = get_or a.words i [] in
      let r = get_or a.rows i [] in
      let is = row_here a is_a i here in
      record {
        order = joins_first below_trans is_a.words old.order here less;
        many = omega (arith, old.many, length_push words w, length_push rows (map (moved a.numbers) r));
        each = All-push (IsRow (length all)) rows (map (moved a.numbers) r) old.each (row_moved is_a.finds r is);
        same = rw (entries_more a.paths a.words a.rows i is_a.many here, entries_push all words rows w (map (moved a.numbers) r) old.many, entries_moved is_a.finds w r is.within)
            (permuted_first (prefix a i) (prefix b j) (flat_map row_entries (rows_of all words rows)) (row_entries (row_of a.paths w r)) old.same);
      }

  pub tables_second : {a b : Side} → IsSide all b → {i j : ℕ} {words : List (List ℕ)} {rows : List (List Place)} → TablesJoined all a b i j words rows
      → j < length b.words → (i < length a.words → IsBelow (get_or b.words j []) (get_or a.words i []))
      → TablesJoined all a b i (j + 1) (words ++ get_or b.words j [] ∷ []) (rows ++ map (moved b.numbers) (get_or b.rows j []) ∷ [])
  tables_second is_b old here less = tables_flip (tables_first is_b (tables_flip old) here less)

  pub tables_both : {a b : Side} → IsSide all a → IsSide all b → {i j : ℕ} {words : List (List ℕ)} {rows : List (List Place)} → TablesJoined all a b i j words rows
      → i < length a.words → j < length b.words → get_or a.words i [] ≡ get_or b.words j []
      → (row : List Place) → AreMerged (map (moved a.numbers) (get_or a.rows i [])) (map (moved b.numbers) (get_or b.rows j [])) row
      → TablesJoined all a b (i + 1) (j + 1) (words ++ get_or a.words i [] ∷ []) (rows ++ row ∷ [])
  tables_both {a} {b} is_a is_b {i} {j} {words} {rows} old here there equal row merged =
      let w = get_or a.words i [] in
      let x = get_or a.rows i [] in
      let y = get_or b.rows j [] in
      let is_x = row_here a is_a i here in
      let is_y = row_here b is_b j there in
      let both : IsPermutation (row_entries (row_of a.paths w x) ++ row_entries (row_of b.paths w y)) (row_entries (row_of all w row)) =
      rw (← entries_moved is_a.finds w x is_x.within, ← entries_moved is_b.finds w y is_y.within) (entries_merged all w (map (moved a.numbers) x) (map (moved b.numbers) y) row merged.same) in
      record {
        order = joins_both below_trans old.order is_a.words is_b.words here there equal;
        many = omega (arith, old.many, length_push words w, length_push rows row);
        each = All-push (IsRow (length all)) rows row old.each (row_merged (length all) _ _ row (row_moved is_a.finds x is_x) (row_moved is_b.finds y is_y) merged);
        same = rw (entries_more a.paths a.words a.rows i is_a.many here, entries_more b.paths b.words b.rows j is_b.many there, ← equal, entries_push all words rows w row old.many)
            (permuted_both (prefix a i) (prefix b j) (flat_map row_entries (rows_of all words rows)) (row_entries (row_of a.paths w x)) (row_entries (row_of b.paths w y)) (row_entries (row_of all w row)) old.same both);
      }

  pub tables_all : {a b : Side} → IsSide all a → IsSide all b → {i j : ℕ} {words : List (List ℕ)} {rows : List (List Place)} → length a.words ≤ i → length b.words ≤ j → TablesJoined all a b i j words rows
      → IsTable all words rows (flat_map row_entries (rows_of a.paths a.words a.rows) ++ flat_map row_entries (rows_of b.paths b.words b.rows))
  tables_all {a} {b} is_a is_b {i} {j} {words} {rows} whole_a whole_b t =
      let end_a = take_all i (rows_of a.paths a.words a.rows) (omega (arith, whole_a, length_rows a.paths a.words a.rows is_a.many)) in
      let end_b = take_all j (rows_of b.paths b.words b.rows) (omega (arith, whole_b, length_rows b.paths b.words b.rows is_b.many)) in
      record {
        words = t.order.rising;
        many = t.many;
        each = t.each;
        same = subst (λ l. IsPermutation l (flat_map row_entries (rows_of all words rows))) (λ k. flat_map row_entries (end_a k) ++ flat_map row_entries (end_b k)) t.same;
      }
