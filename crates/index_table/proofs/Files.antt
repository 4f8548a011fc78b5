-- The files of a row, by the places of their paths.
use Rattle.std.proofs.Common.{◌≡◌, ℕ, zero, suc, ◌-◌, ◌<◌, ◌≤◌, List, [], ◌∷◌, length, get_or, take, drop, min, map, arith, refl, sym, ap, subst, ◌∙◌, ⊎_elim, All}
use Rattle.std.specs.List.{Contains, slice_range}
use Rattle.std.proofs.lemmas.Bool.{cases_lt}
use Rattle.std.proofs.lemmas.List.{length-map, get_or-map, take_all, length-take, length-drop}
use Rattle.std.proofs.lemmas.List.Elements.{All-nil, All-take, All-drop, All-contains, Contains-get_or}
use Rattle.word_index.specs.Blocks.{parts, AreEnds}
use Rattle.word_index.specs.Index.{Hit, Row, IsBelow, IsRising}
use Rattle.word_index.proofs.Parts.{part_at, length_parts}
use Rattle.word_index.proofs.Below.{below_trans}
use Rattle.word_index.proofs.Images.{to_map, from_map}
use Rattle.word_index.proofs.Searches.{not_below}
use Rattle.index_table.specs.declared.draft.Figures.{Figures}
use Rattle.index_table.specs.Rows.{hits_of, rows_with, rows_of, paths_of, words_of, AreColumns, AreOrdered, AreFilesWith}
use Rattle.index_table.proofs.Columns.{length_hits, take_hits, drop_hits, paths_hits, ends_same}
use Rattle.index_table.proofs.Drafts.{words_are, length_rows}

-- in a rising list each text stands once
pub rising_once : (xs : List (List ℕ)) → IsRising xs → (i j : ℕ) → i < length xs → j < length xs → get_or xs i [] ≡ get_or xs j [] → i ≡ j
rising_once xs rise i j in_i in_j same = ⊎_elim
    (λ (lt : i < j). absurd (not_below (get_or xs i []) (get_or xs j []) same (rise i j [] lt in_j)))
    (λ (ge : j ≤ i). ⊎_elim
    (λ (lt : j < i). absurd (not_below (get_or xs j []) (get_or xs i []) (sym same) (rise j i [] lt in_i)))
    (λ (le : i ≤ j). omega (arith, ge, le))
    (cases_lt j i))
    (cases_lt i j)

-- numbers rise where their texts do
pub rising_back : (xs : List (List ℕ)) → IsRising xs → (i j : ℕ) → i < length xs → j < length xs → IsBelow (get_or xs i []) (get_or xs j []) → i < j
rising_back xs rise i j in_i in_j less = ⊎_elim
    (λ (lt : i < j). lt)
    (λ (ge : j ≤ i). ⊎_elim
    (λ (lt : j < i). absurd (not_below (get_or xs i []) (get_or xs i []) refl (below_trans (get_or xs i []) (get_or xs j []) (get_or xs i []) less (rise j i [] lt in_i))))
    (λ (le : i ≤ j). let same : i ≡ j = omega (arith, ge, le) in absurd (not_below (get_or xs i []) (get_or xs j []) (ap (λ k. get_or xs k []) same) less))
    (cases_lt j i))
    (cases_lt i j)

pub row_is : (ws : List (List ℕ)) (hs : List (List Hit)) (k : ℕ) (d : Row) → length ws ≡ length hs → k < length ws → get_or (rows_with ws hs) k d ≡ record { word = get_or ws k []; hits = get_or hs k [] }
row_is [] hs k d h below = absurd (omega (arith, below))
row_is (w ∷ ws) [] k d h below = absurd (omega (arith, h))
row_is (w ∷ ws) (g ∷ hs) zero d h below = refl
row_is (w ∷ ws) (g ∷ hs) (suc k) d h below = row_is ws hs k d (omega (arith, h)) (omega (arith, below))

module _ (ps : List (List ℕ)) {words : List (List ℕ)} {ns : List ℕ} {fs : List Figures} {ends : List ℕ} (are : AreColumns (length ps) words ns fs ends (length ns)) where
  -- the numbers all at once
  all_ends : AreEnds ns 0 ends
  all_ends = subst (λ l. AreEnds l 0 ends) (take_all (length ns) ns (omega arith)) are.fit

  pub ends_fit : AreEnds ns 0 ends
  ends_fit = all_ends

  -- the paths of a row are those that its numbers name
  pub paths_at : (k : ℕ) → k < length ends → paths_of (get_or (parts (take (length ns) (hits_of ps ns fs)) 0 ends) k []) ≡ map (λ n. get_or ps n []) (get_or (parts ns 0 ends) k [])
  paths_at k below =
      let hs = hits_of ps ns fs in
      let long = length_hits ps ns fs are.same in
      let whole : take (length ns) hs ≡ hs = take_all (length ns) hs (omega (arith, long)) in
      let fit : AreEnds hs 0 ends = ends_same ns hs 0 ends (sym long) all_ends in
      let a = part_at ns 0 ends k all_ends below in
      let b = part_at hs 0 ends k fit below in
      let low = get_or (0 ∷ ends) k 0 in
      let high = get_or ends k 0 in
      let xs = drop low ns in
      let gs = drop low fs in
      let same_drop : length gs ≡ length xs = omega (arith, length-drop low ns, length-drop low fs, are.same) in
      let same_take : length (take (high - low) gs) ≡ length (take (high - low) xs) = length-take (high - low) gs ∙ ap (λ n. min (high - low) n) same_drop ∙ sym (length-take (high - low) xs) in
      let cut : slice_range hs low high ≡ hits_of ps (take (high - low) xs) (take (high - low) gs) =
      ap (take (high - low)) (drop_hits ps low ns fs are.same) ∙ take_hits ps (high - low) xs gs in
      ap (λ l. paths_of (get_or (parts l 0 ends) k [])) whole ∙ ap paths_of (sym b.is ∙ cut) ∙ paths_hits ps (take (high - low) xs) (take (high - low) gs) same_take ∙ ap (map (λ n. get_or ps n [])) a.is

  numbers_at : (k : ℕ) → k < length ends → All (λ n. n < length ps) (get_or (parts ns 0 ends) k [])
  numbers_at k below =
      let a = part_at ns 0 ends k all_ends below in
      subst (All (λ n. n < length ps)) a.is (All-take (λ n. n < length ps) (get_or ends k 0 - get_or (0 ∷ ends) k 0) (drop (get_or (0 ∷ ends) k 0) ns) (All-drop (λ n. n < length ps) (get_or (0 ∷ ends) k 0) ns are.within))

  module _ (skips : List (List ℕ)) (rise : IsRising ps) (ordered : AreOrdered (rows_of ps words ns fs ends (length ns))) where
    cuts_many : length words ≡ length (parts (take (length ns) (hits_of ps ns fs)) 0 ends)
    cuts_many = are.each ∙ sym (length_parts (take (length ns) (hits_of ps ns fs)) 0 ends)

    pub words_rise : IsRising words
    words_rise = subst IsRising (words_are ps are) ordered.words

    -- the numbers of the row that has the word
    pub files_at : (word : List ℕ) (k : ℕ) → k < length words → get_or words k [] ≡ word
        → AreFilesWith (record { rows = rows_of ps words ns fs ends (length ns); skipped = skips; paths = ps }) word (get_or (parts ns 0 ends) k [])
    files_at word k below is =
        let rows = rows_of ps words ns fs ends (length ns) in
        let cuts = parts (take (length ns) (hits_of ps ns fs)) 0 ends in
        let s = get_or (parts ns 0 ends) k [] in
        let nth = λ (n : ℕ). get_or ps n [] in
        let row : Row = record { word = get_or words k []; hits = get_or cuts k [] } in
        let at_end : k < length ends = omega (arith, below, are.each) in
        let inside : k < length rows = omega (arith, below, length_rows words cuts cuts_many) in
        let row_at = row_is words cuts k row cuts_many below in
        let paths = paths_at k at_end in
        let within = numbers_at k at_end in
        let rises : IsRising (map nth s) = subst IsRising paths (subst (λ (r : Row). IsRising (paths_of r.hits)) row_at (ordered.hits k row inside)) in
        record {
          rising = λ i j d before in_s.
              let here : i < length s = omega (arith, before, in_s) in
              let less = rises i j [] before (omega (arith, in_s, length-map s nth)) in
              let step = rw (get_or-map nth s i d [] here, get_or-map nth s j d [] in_s) at less in
              rising_back ps rise (get_or s i d) (get_or s j d) (within i d here) (within j d in_s) step;
          within = within;
          files = λ m low. (
            (λ among. (row, subst (Contains rows) row_at (Contains-get_or rows k row inside), is, subst (λ l. Contains l (nth m)) (sym paths) (to_map nth s m among))),
            (λ has.
                let r = has.0 in
                let i = has.1.0 in
                let in_words : i < length words = omega (arith, has.1.1, length_rows words cuts cuts_many) in
                let r_is : r ≡ record { word = get_or words i []; hits = get_or cuts i [] } = sym has.1.2 ∙ row_is words cuts i r cuts_many in_words in
                let same : i ≡ k = rising_once words words_rise i k in_words below (sym (ap (λ (x : Row). x.word) r_is) ∙ has.2 ∙ sym is) in
                let hits : r.hits ≡ get_or cuts k [] = ap (λ (x : Row). x.hits) r_is ∙ ap (λ n. get_or cuts n []) same in
                let y = from_map nth s (nth m) (subst (λ l. Contains l (nth m)) (ap paths_of hits ∙ paths) has.3) in
                let low_y : y.0 < length ps = All-contains (λ n. n < length ps) s y.0 within y.1 in
                subst (Contains s) (rising_once ps rise y.0 m low_y low y.2) y.1),
          );
        }

    -- no row has the word
    pub no_files : (word : List ℕ) → (Contains words word → ⊥) → AreFilesWith (record { rows = rows_of ps words ns fs ends (length ns); skipped = skips; paths = ps }) word []
    no_files word none =
        let rows = rows_of ps words ns fs ends (length ns) in
        record {
          rising = λ i j d before below. absurd (omega (arith, below));
          within = All-nil (λ n. n < length ps);
          files = λ m low. (
            (λ among. absurd (omega (arith, among.1))),
            (λ has.
                let c : Contains (words_of rows) word = subst (Contains (words_of rows)) has.2 (to_map (λ (r : Row). r.word) rows has.0 has.1) in
                absurd (none (subst (λ l. Contains l word) (words_are ps are) c))),
          );
        }
