-- What the fields of a piece that is sound say of its index.
use Rattle.std.proofs.Common.{◌≡◌, ℕ, ◌+◌, ◌<◌, ◌≤◌, List, [], ◌∷◌, ◌++◌, length, get_or, map, arith, refl, sym, ap, subst, ◌∙◌, ◌⊎◌, ⊎_elim, IsPermutation, All, ◌↔◌, sum_by}
use Rattle.std.specs.List.{AllPairs, Contains, flat_map}
use Rattle.std.proofs.lemmas.List.{length-map, get_or-map, length-append}
use Rattle.std.proofs.lemmas.List.Sums.{sum_by-cons, sum_by-append}
use Rattle.std.proofs.lemmas.List.Elements.{All-cons, All-nil, All-head, All-tail, All-get_or, Contains-append_left, Contains-append_right, Contains-append_cases}
use Rattle.std.proofs.lemmas.List.Sorted.{IsPermutation-sym, Contains-permutation}
use Rattle.word_index.specs.declared.rows.Place.{Place}
use Rattle.word_index.specs.Index.{Index, Row, Hit, Entry, IsBelow, IsRising, IsOrdered, row_entries, entry_of}
use Rattle.word_index.specs.Piece.{hit_of, row_of, rows_of, IsRow, IsSound}
use Rattle.word_index.specs.Merged.{nowhere}

pub words_rows : (ps ws : List (List ℕ)) (rows : List (List Place)) → length ws ≡ length rows → map (λ r. r.word) (rows_of ps ws rows) ≡ ws
words_rows ps [] rows h = refl
words_rows ps (w ∷ ws) [] h = absurd (omega (arith, h))
words_rows ps (w ∷ ws) (r ∷ rows) h = ap (λ l. w ∷ l) (words_rows ps ws rows (omega (arith, h)))

abbrev HasHits : Row → Type 0
HasHits r = (0 < length r.hits) × IsRising (map (λ h. h.path) r.hits)

-- the paths of a row rise with their numbers
row_rises : (ps : List (List ℕ)) (w : List ℕ) (row : List Place) → IsRising ps → IsRow (length ps) row → HasHits (row_of ps w row)
row_rises ps w row rise is = (
  omega (arith, is.some, length-map row (hit_of ps)),
  λ i j d before below.
      let hits = map (hit_of ps) row in
      let within : j < length hits = omega (arith, below, length-map hits (λ h. h.path)) in
      let there : j < length row = omega (arith, within, length-map row (hit_of ps)) in
      let here : i < length row = omega arith in
      let inside : i < length hits = omega arith in
      let none = hit_of ps nowhere in
      let x = get_or row i nowhere in
      let y = get_or row j nowhere in
      rw (get_or-map (λ h. h.path) hits i none d inside, get_or-map (λ h. h.path) hits j none d within, get_or-map (hit_of ps) row i nowhere none here, get_or-map (hit_of ps) row j nowhere none there)
      (rise x.path y.path [] (is.rising i j nowhere before there) (All-get_or (λ p. p.path < length ps) row j nowhere there is.within)),
)

rows_rise : (ps ws : List (List ℕ)) (rows : List (List Place)) → IsRising ps → All (IsRow (length ps)) rows → All HasHits (rows_of ps ws rows)
rows_rise ps [] rows rise each = All-nil HasHits
rows_rise ps (w ∷ ws) [] rise each = All-nil HasHits
rows_rise ps (w ∷ ws) (r ∷ rows) rise each =
    All-cons HasHits (row_of ps w r) (rows_of ps ws rows) (row_rises ps w r rise (All-head (IsRow (length ps)) r rows each)) (rows_rise ps ws rows rise (All-tail (IsRow (length ps)) r rows each))

pub ordered_view : (ps skips ws : List (List ℕ)) (rows : List (List Place)) → IsSound ps skips ws rows → IsOrdered (record { paths = ps; skipped = skips; rows = rows_of ps ws rows })
ordered_view ps skips ws rows s = record {
  paths = s.paths;
  skipped = s.skipped;
  words = subst IsRising (sym (words_rows ps ws rows s.many)) s.words;
  hits = rows_rise ps ws rows s.paths s.each;
}

-- the entries of both, in another order, are in both together
pub either : (xs ys zs : List Entry) → IsPermutation (xs ++ ys) zs → (e : Entry) → Contains zs e ↔ (Contains xs e ⊎ Contains ys e)
either xs ys zs same e = (
  (λ h. Contains-append_cases xs ys e (Contains-permutation zs (xs ++ ys) e (IsPermutation-sym (xs ++ ys) zs same) h)),
  (λ h. Contains-permutation (xs ++ ys) zs e same (⊎_elim (Contains-append_left xs ys e) (Contains-append_right xs ys e) h)),
)

-- each place is an entry
pub length_entries : (ps ws : List (List ℕ)) (rows : List (List Place)) → length ws ≡ length rows → length (flat_map row_entries (rows_of ps ws rows)) ≡ length (flat_map (λ r. r) rows)
length_entries ps [] [] h = refl
length_entries ps [] (r ∷ rows) h = absurd (omega (arith, h))
length_entries ps (w ∷ ws) [] h = absurd (omega (arith, h))
length_entries ps (w ∷ ws) (r ∷ rows) h =
    let rest = length_entries ps ws rows (omega (arith, h)) in
    let all = row_entries (row_of ps w r) in
    let here : length all ≡ length r = length-map (map (hit_of ps) r) (entry_of w) ∙ length-map r (hit_of ps) in
    length-append all (flat_map row_entries (rows_of ps ws rows)) ∙ (λ i. here i + rest i) ∙ sym (length-append r (flat_map (λ r. r) rows))

count_row : (ps : List (List ℕ)) (w : List ℕ) (r : List Place) → sum_by (λ e. e.count) (row_entries (row_of ps w r)) ≡ sum_by (λ p. p.count) r
count_row ps w [] = refl
count_row ps w (p ∷ r) =
    sum_by-cons (λ (e : Entry). e.count) (entry_of w (hit_of ps p)) (row_entries (row_of ps w r)) ∙ ap (λ n. p.count + n) (count_row ps w r) ∙ sym (sum_by-cons (λ (p : Place). p.count) p r)

pub count_entries : (ps ws : List (List ℕ)) (rows : List (List Place)) → length ws ≡ length rows → sum_by (λ e. e.count) (flat_map row_entries (rows_of ps ws rows)) ≡ sum_by (λ p. p.count) (flat_map (λ r. r) rows)
count_entries ps [] [] h = refl
count_entries ps [] (r ∷ rows) h = absurd (omega (arith, h))
count_entries ps (w ∷ ws) [] h = absurd (omega (arith, h))
count_entries ps (w ∷ ws) (r ∷ rows) h =
    let rest = count_entries ps ws rows (omega (arith, h)) in
    let here = count_row ps w r in
    sum_by-append (λ (e : Entry). e.count) (row_entries (row_of ps w r)) (flat_map row_entries (rows_of ps ws rows)) ∙ (λ i. here i + rest i) ∙ sym (sum_by-append (λ (p : Place). p.count) r (flat_map (λ r. r) rows))
