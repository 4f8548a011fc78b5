-- The text of an index reads as it.
use Rattle.std.proofs.Common.{ℕ, suc, ◌<◌, ◌≤◌, List, [], ◌∷◌, length, get_or, map, arith, refl, sym, subst, Option, Some, None}
use Rattle.std.specs.List.{Contains, AllPairs}
use Rattle.std.specs.Cmp.Lexicographic.{bytes_decides}
use Rattle.std.proofs.lemmas.Cmp.{nat_list_eq_equiv}
use Rattle.std.proofs.lemmas.List.{length-map, get_or-map}
use Rattle.std.proofs.lemmas.List.Elements.{All-contains}
use Rattle.std.proofs.lemmas.Map.Made.{length-le_from_is_member, IsDistinct-from_AllPairs}
use Rattle.std.proofs.lemmas.Map.Views.{list_any-from_Contains, Contains-from_any}
use Rattle.word_index.specs.Index.{File, Hit, Row, Index, IsBelow, IsRising, IsIndexOf, entry_of}
use Rattle.word_index.proofs.Images.{to_map, from_map}
use Rattle.word_index.proofs.Searches.{not_below}
use Rattle.word_index.proofs.Unique.{from_rows}
use Rattle.index_print.specs.Text.{index_text}
use Rattle.index_text.specs.Next.{IsNext}
use Rattle.index_text.specs.Texts.{IsWord, IsPath, IsFigure, IsHit, IsRow, IsAbove, AreInTurn, AreHits, ReadsAs}
use Rattle.index_text.specs.Laws.{IsFile, AreFiles}
use Rattle.index_text.proofs.FileWords.{file_counted}
use Rattle.index_text.proofs.Printed.{printed_from}
use Rattle.index_text.proofs.Turns.{hit_path, row_word, itself}

-- what rises from the last text on, is offered element by element
module _ {X : Type 0} (key : X → List ℕ) where
  abbrev Rises : List X → Type 0
  Rises xs = AllPairs (λ x y. IsBelow (key x) (key y)) xs

  rises_from : (xs : List X) → IsRising (map key xs) → Rises xs
  rises_from xs rise i j d before within =
      let here : i < length xs = omega (arith, before, within) in
      rw (get_or-map key xs i d (key d) here, get_or-map key xs j d (key d) within) at (rise i j (key d) before (omega (arith, within, length-map xs key)))

  first_below : (x : X) (xs : List X) → Rises (x ∷ xs) → (y : X) → Contains xs y → IsBelow (key x) (key y)
  first_below x xs rise y h = subst (λ z. IsBelow (key x) (key z)) h.2 (rise 0 (suc h.0) y (omega arith) (omega (arith, h.1)))

  rest_rises : (x : X) (xs : List X) → Rises (x ∷ xs) → Rises xs
  rest_rises x xs rise i j d before within = rise (suc i) (suc j) d (omega (arith, before)) (omega (arith, within))

  all_from : (Good : X → Type 0) (lawful : Option (List ℕ) → X → Type 0) → ((last : Option (List ℕ)) (x : X) → Good x → IsAbove last (key x) → lawful last x)
      → (last : Option (List ℕ)) (xs : List X) → ((x : X) → Contains xs x → IsAbove last (key x)) → Rises xs → ((x : X) → Contains xs x → Good x) → AreInTurn lawful key last xs
  all_from Good lawful one last [] above rise good = tt
  all_from Good lawful one last (x ∷ xs) above rise good =
      let here : Contains (x ∷ xs) x = (0, omega arith, refl) in
      (one last x (good x here) (above x here), all_from Good lawful one (Some (key x)) xs (first_below x xs rise) (rest_rises x xs rise) (λ y h. good y (suc h.0, omega (arith, h.1), h.2)))

-- rising texts that are all among others are at most as many
few_texts : (xs ys : List (List ℕ)) → IsRising xs → ((x : List ℕ) → Contains xs x → Contains ys x) → length xs ≤ length ys
few_texts xs ys rise among =
    length-le_from_is_member nat_list_eq_equiv xs ys (IsDistinct-from_AllPairs bytes_decides xs (λ i j d before within same. not_below (get_or xs i d) (get_or xs j d) same (rise i j d before within)))
    (λ q h. list_any-from_Contains nat_list_eq_equiv q ys (among q (Contains-from_any (λ x y. (bytes_decides x y).0) q xs h)))

-- a word in a file, as a line of the text has it
record IsNumbered (w : List ℕ) (hit : Hit) : Type 0 where
  word : IsWord w
  path : IsPath hit.path
  count : IsFigure hit.count
  line : IsFigure hit.line

record IsFilled (row : Row) : Type 0 where
  word : IsWord row.word
  many : IsFigure (length row.hits)
  hits : AreHits None row.hits

module _ (files : List File) (index : Index) (are : AreFiles files) (of : IsIndexOf files index) where
  numbered : (r : Row) (h : Hit) → Contains index.rows r → Contains r.hits h → IsNumbered r.word h
  numbered r h among has =
      let e = entry_of r.word h in
      let k = (of.entries e).0 (from_rows index.rows r h among has) in
      let file = All-contains IsFile files k.file are.each k.among in
      let c = file_counted k.file.bytes r.word (record { count = h.count; line = h.line }) k.counted in
      record {
        word = c.word;
        path = subst IsPath (sym k.path) file.path;
        count = (c.some, omega (arith, c.few, file.short));
        line = (c.least, omega (arith, c.most, file.short));
      }

  from_file : (r : Row) (h : Hit) → Contains index.rows r → Contains r.hits h → Contains (map (λ f. f.path) files) h.path
  from_file r h among has =
      let e = entry_of r.word h in
      let k = (of.entries e).0 (from_rows index.rows r h among has) in
      subst (Contains (map (λ f. f.path) files)) (sym k.path) (to_map (λ f. f.path) files k.file k.among)

  few_hits : (r : Row) → Contains index.rows r → IsRising (map (λ h. h.path) r.hits) → length r.hits ≤ length files
  few_hits r among rise =
      let few = few_texts (map (λ h. h.path) r.hits) (map (λ f. f.path) files) rise
      (λ p has. let o = from_map (λ h. h.path) r.hits p has in subst (Contains (map (λ f. f.path) files)) o.2 (from_file r o.0 among o.1)) in
      omega (arith, few, length-map r.hits (λ (h : Hit). h.path), length-map files (λ (f : File). f.path))

  filled : (r : Row) → Contains index.rows r → IsFilled r
  filled r among =
      let o = All-contains (λ r. (0 < length r.hits) × IsRising (map (λ h. h.path) r.hits)) index.rows r of.ordered.hits among in
      let none : Hit = record { path = []; count = 0; line = 0 } in
      let first : Contains r.hits (get_or r.hits 0 none) = Contains-first r.hits none o.0 in
      let few = few_hits r among o.1 in
      record {
        word = (numbered r (get_or r.hits 0 none) among first).word;
        many = (omega (arith, o.0), omega (arith, few, are.many));
        hits = all_from hit_path (IsNumbered r.word) IsHit (λ last h good above. record { path = good.path; above = above; count = good.count; line = good.line })
            None r.hits (λ h k. tt) (rises_from (λ (h : Hit). h.path) r.hits o.1) (λ h has. numbered r h among has);
      }
    where
      Contains-first : (hs : List Hit) (d : Hit) → 0 < length hs → Contains hs (get_or hs 0 d)
      Contains-first [] d h = absurd (omega (arith, h))
      Contains-first (h ∷ hs) d some = (0, omega arith, refl)

  skipped_path : (p : List ℕ) → Contains index.skipped p → IsPath p
  skipped_path p has =
      let k = (of.skipped p).0 has in
      let file = All-contains IsFile files k.file are.each k.among in
      subst IsPath (sym k.here) file.path

  reads_back : ReadsAs (index_text index) index.rows index.skipped
  reads_back = record {
    rows = all_from row_word IsFilled IsRow (λ last r good above. record { word = good.word; above = above; many = good.many.0; hits = good.hits })
        None index.rows (λ r k. tt) (rises_from (λ (r : Row). r.word) index.rows of.ordered.words) filled;
    skipped = all_from itself IsPath IsNext (λ last p good above. (good, above)) None index.skipped (λ p k. tt) of.ordered.skipped skipped_path;
    text = sym (printed_from index.skipped index.rows (λ r has. (filled r has).many.1));
  }

pub read_back : (files : List File) (index : Index) → AreFiles files → IsIndexOf files index → ReadsAs (index_text index) index.rows index.skipped
read_back = reads_back
