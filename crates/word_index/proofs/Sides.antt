-- The rows of one piece under the numbers that its paths get in a merge.
use Rattle.std.proofs.Common.{◌≡◌, ℕ, zero, suc, ◌+◌, ◌<◌, ◌≤◌, List, [], ◌∷◌, ◌++◌, length, get_or, take, map, arith, refl, sym, ap, subst, ◌∙◌, IsPermutation, All}
use Rattle.std.specs.List.{AllPairs, flat_map, Contains}
use Rattle.std.proofs.lemmas.List.{take_more, length-map, get_or-map, map-append, append-nil, length-append}
use Rattle.std.proofs.lemmas.List.Concat.{flat_map-append}
use Rattle.std.proofs.lemmas.List.Elements.{All-head, All-tail, All-get_or, All-map, All-weaker, All-append, Contains-get_or}
use Rattle.std.proofs.lemmas.List.Sorted.{IsPermutation-map, length_permutation, All-permutation}
use Rattle.word_index.specs.declared.rows.Place.{Place}
use Rattle.word_index.specs.Index.{Row, Hit, Entry, entry_of, row_entries}
use Rattle.word_index.specs.Piece.{hit_of, row_of, rows_of, IsRow}
use Rattle.word_index.specs.Numbered.{IsNumbered, moved, AreApart}
use Rattle.word_index.specs.Merged.{IsPathBelow, nowhere, AreMerged}

pub length_rows : (P ws : List (List ℕ)) (rows : List (List Place)) → length ws ≡ length rows → length (rows_of P ws rows) ≡ length ws
length_rows P [] rows h = refl
length_rows P (w ∷ ws) [] h = absurd (omega (arith, h))
length_rows P (w ∷ ws) (r ∷ rows) h = ap suc (length_rows P ws rows (omega (arith, h)))

-- one more word with its places
pub rows_push : (P ws : List (List ℕ)) (rows : List (List Place)) (w : List ℕ) (r : List Place) → length ws ≡ length rows
    → rows_of P (ws ++ w ∷ []) (rows ++ r ∷ []) ≡ rows_of P ws rows ++ row_of P w r ∷ []
rows_push P [] [] w r h = refl
rows_push P [] (q ∷ rows) w r h = absurd (omega (arith, h))
rows_push P (v ∷ ws) [] w r h = absurd (omega (arith, h))
rows_push P (v ∷ ws) (q ∷ rows) w r h = ap (λ l. row_of P v q ∷ l) (rows_push P ws rows w r (omega (arith, h)))

pub row_is : (P ws : List (List ℕ)) (rows : List (List Place)) (i : ℕ) (d : Row) → length ws ≡ length rows → i < length ws
    → get_or (rows_of P ws rows) i d ≡ row_of P (get_or ws i []) (get_or rows i [])
row_is P [] rows i d h below = absurd (omega (arith, below))
row_is P (w ∷ ws) [] i d h below = absurd (omega (arith, h))
row_is P (w ∷ ws) (r ∷ rows) zero d h below = refl
row_is P (w ∷ ws) (r ∷ rows) (suc i) d h below = row_is P ws rows i d (omega (arith, h)) (omega (arith, below))

-- the entries of the next row follow those before
pub entries_more : (P ws : List (List ℕ)) (rows : List (List Place)) (i : ℕ) → length ws ≡ length rows → i < length ws
    → flat_map row_entries (take (i + 1) (rows_of P ws rows)) ≡ flat_map row_entries (take i (rows_of P ws rows)) ++ row_entries (row_of P (get_or ws i []) (get_or rows i []))
entries_more P ws rows i h below =
    let all = rows_of P ws rows in
    let none = row_of P (get_or ws i []) (get_or rows i []) in
    let inside : i < length all = omega (arith, below, length_rows P ws rows h) in
    ap (flat_map row_entries) (take_more all i none inside ∙ ap (λ r. take i all ++ r ∷ []) (row_is P ws rows i none h below))
    ∙ flat_map-append row_entries (take i all) (none ∷ [])
    ∙ ap (λ l. flat_map row_entries (take i all) ++ l) (append-nil (row_entries none))

pub entries_push : (P ws : List (List ℕ)) (rows : List (List Place)) (w : List ℕ) (r : List Place) → length ws ≡ length rows
    → flat_map row_entries (rows_of P (ws ++ w ∷ []) (rows ++ r ∷ [])) ≡ flat_map row_entries (rows_of P ws rows) ++ row_entries (row_of P w r)
entries_push P ws rows w r h =
    ap (flat_map row_entries) (rows_push P ws rows w r h) ∙ flat_map-append row_entries (rows_of P ws rows) (row_of P w r ∷ [])
    ∙ ap (λ l. flat_map row_entries (rows_of P ws rows) ++ l) (append-nil (row_entries (row_of P w r)))

-- a row of the places of two has the entries of both
pub entries_merged : (P : List (List ℕ)) (w : List ℕ) (xs ys row : List Place) → IsPermutation (xs ++ ys) row
    → IsPermutation (row_entries (row_of P w xs) ++ row_entries (row_of P w ys)) (row_entries (row_of P w row))
entries_merged P w xs ys row same =
    let both = IsPermutation-map (entry_of w) (map (hit_of P) (xs ++ ys)) (map (hit_of P) row) (IsPermutation-map (hit_of P) (xs ++ ys) row same) in
    let apart = ap (map (entry_of w)) (map-append (hit_of P) xs ys) ∙ map-append (entry_of w) (map (hit_of P) xs) (map (hit_of P) ys) in
    subst (λ l. IsPermutation l (row_entries (row_of P w row))) apart both

module _ {ps all : List (List ℕ)} {numbers : List ℕ} (finds : IsNumbered ps all numbers (length ps)) where
  -- the places name the same files under their new numbers
  pub entries_moved : (w : List ℕ) (row : List Place) → All (λ p. p.path < length ps) row → row_entries (row_of all w (map (moved numbers) row)) ≡ row_entries (row_of ps w row)
  entries_moved w [] within = refl
  entries_moved w (p ∷ row) within =
      let path = finds.finds p.path (All-head (λ p. p.path < length ps) p row within) in
      let rest = entries_moved w row (All-tail (λ p. p.path < length ps) p row within) in
      λ i. record { word = w; path = path i; count = p.count; line = p.line } ∷ rest i

  pub has_number : (row : List Place) → All (λ p. p.path < length ps) row → All (λ p. p.path < length numbers) row
  has_number row within = All-weaker (λ p. p.path < length ps) (λ p. p.path < length numbers) (λ p h. omega (arith, h, finds.many)) row within

  -- and still form a row
  pub row_moved : (row : List Place) → IsRow (length ps) row → IsRow (length all) (map (moved numbers) row)
  row_moved row is = record {
    some = omega (arith, is.some, length-map row (moved numbers));
    rising = λ i j d before below.
        let there : j < length row = omega (arith, below, length-map row (moved numbers)) in
        let here : i < length row = omega arith in
        let x = get_or row i nowhere in
        let y = get_or row j nowhere in
        let more : y.path < length numbers = All-get_or (λ p. p.path < length numbers) row j nowhere there (has_number row is.within) in
        rw (get_or-map (moved numbers) row i nowhere d here, get_or-map (moved numbers) row j nowhere d there) (finds.rising x.path y.path 0 (is.rising i j nowhere before there) more);
    within = All-map (λ p. p.path < length all) (moved numbers) row
        (All-weaker (λ p. p.path < length numbers) (λ p. get_or numbers p.path 0 < length all) (λ p h. All-get_or (λ m. m < length all) numbers p.path 0 h finds.within) row (has_number row is.within));
  }

pub row_merged : (n : ℕ) (xs ys row : List Place) → IsRow n xs → IsRow n ys → AreMerged xs ys row → IsRow n row
row_merged n xs ys row is_x is_y merged = record {
  some = omega (arith, is_x.some, length_permutation (xs ++ ys) row merged.same, length-append xs ys);
  rising = merged.rising;
  within = All-permutation (λ p. p.path < n) (xs ++ ys) row merged.same (All-append (λ p. p.path < n) xs ys is_x.within is_y.within);
}

-- numbers of lists that share no text are apart
pub numbers_apart : {xs ys all : List (List ℕ)} {of_x of_y : List ℕ} → IsNumbered xs all of_x (length xs) → IsNumbered ys all of_y (length ys)
    → ((p : List ℕ) → Contains xs p → Contains ys p → ⊥) → AreApart of_x of_y
numbers_apart {xs} {ys} {all} {of_x} {of_y} a b share i j here there same =
    let inside : i < length xs = omega (arith, here, a.many) in
    let within : j < length ys = omega (arith, there, b.many) in
    let text : get_or ys j [] ≡ get_or xs i [] = sym (b.finds j within) ∙ ap (λ n. get_or all n []) (sym same) ∙ a.finds i inside in
    share (get_or xs i []) (Contains-get_or xs i [] inside) (subst (Contains ys) text (Contains-get_or ys j [] within))
