-- Hits in columns.
use Rattle.std.proofs.Common.{◌≡◌, ℕ, zero, suc, ◌+◌, ◌<◌, ◌≤◌, List, [], ◌∷◌, ◌++◌, length, get_or, take, drop, min, map, arith, refl, sym, ap, subst, ◌∙◌, All}
use Rattle.std.proofs.Math.Seq.{take-length}
use Rattle.std.proofs.lemmas.List.{length-append, take-append-le, drop-append-le, take-append-drop, drop_all, take_all, length_push, length-take, length-drop}
use Rattle.std.proofs.lemmas.List.Elements.{All-head, All-tail, All-push, All-weaker}
use Rattle.word_index.specs.Blocks.{parts, AreEnds}
use Rattle.word_index.specs.Index.{Hit, Row}
use Rattle.word_index.proofs.Parts.{parts_push, ends_push, length_parts}
use Rattle.index_table.specs.declared.draft.Figures.{Figures}
use Rattle.index_table.specs.Rows.{hits_of, rows_with, rows_of, paths_of, AreColumns, Drafted}

abbrev pub hit_at : List (List ℕ) → ℕ → Figures → Hit
hit_at ps n f = record { path = get_or ps n []; count = f.count; line = f.line }

pub length_hits : (ps : List (List ℕ)) (ns : List ℕ) (fs : List Figures) → length fs ≡ length ns → length (hits_of ps ns fs) ≡ length ns
length_hits ps [] fs h = refl
length_hits ps (n ∷ ns) [] h = absurd (omega (arith, h))
length_hits ps (n ∷ ns) (f ∷ fs) h = ap suc (length_hits ps ns fs (omega (arith, h)))

pub hits_push : (ps : List (List ℕ)) (ns : List ℕ) (fs : List Figures) (n : ℕ) (f : Figures) → length fs ≡ length ns → hits_of ps (ns ++ n ∷ []) (fs ++ f ∷ []) ≡ hits_of ps ns fs ++ hit_at ps n f ∷ []
hits_push ps [] [] n f h = refl
hits_push ps [] (g ∷ fs) n f h = absurd (omega (arith, h))
hits_push ps (m ∷ ns) [] n f h = absurd (omega (arith, h))
hits_push ps (m ∷ ns) (g ∷ fs) n f h = ap (λ l. hit_at ps m g ∷ l) (hits_push ps ns fs n f (omega (arith, h)))

-- the same paths under new numbers, or in a longer list
pub hits_moved : (ps qs : List (List ℕ)) (to : ℕ → ℕ) (ns : List ℕ) (fs : List Figures) → All (λ n. get_or qs (to n) [] ≡ get_or ps n []) ns → hits_of qs (map to ns) fs ≡ hits_of ps ns fs
hits_moved ps qs to [] fs h = refl
hits_moved ps qs to (n ∷ ns) [] h = refl
hits_moved ps qs to (n ∷ ns) (f ∷ fs) h =
    let here = All-head (λ n. get_or qs (to n) [] ≡ get_or ps n []) n ns h in
    let rest = hits_moved ps qs to ns fs (All-tail (λ n. get_or qs (to n) [] ≡ get_or ps n []) n ns h) in
    λ i. record { path = here i; count = f.count; line = f.line } ∷ rest i

pub hits_grown : (ps qs : List (List ℕ)) (ns : List ℕ) (fs : List Figures) → All (λ n. get_or qs n [] ≡ get_or ps n []) ns → hits_of qs ns fs ≡ hits_of ps ns fs
hits_grown ps qs [] fs h = refl
hits_grown ps qs (n ∷ ns) [] h = refl
hits_grown ps qs (n ∷ ns) (f ∷ fs) h =
    let here = All-head (λ n. get_or qs n [] ≡ get_or ps n []) n ns h in
    let rest = hits_grown ps qs ns fs (All-tail (λ n. get_or qs n [] ≡ get_or ps n []) n ns h) in
    λ i. record { path = here i; count = f.count; line = f.line } ∷ rest i

pub take_hits : (ps : List (List ℕ)) (k : ℕ) (ns : List ℕ) (fs : List Figures) → take k (hits_of ps ns fs) ≡ hits_of ps (take k ns) (take k fs)
take_hits ps zero ns fs = refl
take_hits ps (suc k) [] fs = refl
take_hits ps (suc k) (n ∷ ns) [] = refl
take_hits ps (suc k) (n ∷ ns) (f ∷ fs) = ap (λ l. hit_at ps n f ∷ l) (take_hits ps k ns fs)

pub drop_hits : (ps : List (List ℕ)) (k : ℕ) (ns : List ℕ) (fs : List Figures) → length fs ≡ length ns → drop k (hits_of ps ns fs) ≡ hits_of ps (drop k ns) (drop k fs)
drop_hits ps zero ns fs h = refl
drop_hits ps (suc k) [] fs h = refl
drop_hits ps (suc k) (n ∷ ns) [] h = absurd (omega (arith, h))
drop_hits ps (suc k) (n ∷ ns) (f ∷ fs) h = drop_hits ps k ns fs (omega (arith, h))

pub paths_hits : (ps : List (List ℕ)) (ns : List ℕ) (fs : List Figures) → length fs ≡ length ns → paths_of (hits_of ps ns fs) ≡ map (λ n. get_or ps n []) ns
paths_hits ps [] fs h = refl
paths_hits ps (n ∷ ns) [] h = absurd (omega (arith, h))
paths_hits ps (n ∷ ns) (f ∷ fs) h = ap (λ l. get_or ps n [] ∷ l) (paths_hits ps ns fs (omega (arith, h)))

-- only the length of the block counts
pub ends_same : {X Y : Type 0} (xs : List X) (ys : List Y) (start : ℕ) (ends : List ℕ) → length xs ≡ length ys → AreEnds xs start ends → AreEnds ys start ends
ends_same xs ys start [] same h = h ∙ same
ends_same xs ys start (e ∷ ends) same h = (h.0, ends_same xs ys e ends same h.1)

pub rows_push : (ws : List (List ℕ)) (hs : List (List Hit)) (w : List ℕ) (h : List Hit) → length ws ≡ length hs → rows_with (ws ++ w ∷ []) (hs ++ h ∷ []) ≡ rows_with ws hs ++ record { word = w; hits = h } ∷ []
rows_push [] [] w h e = refl
rows_push [] (g ∷ hs) w h e = absurd (omega (arith, e))
rows_push (v ∷ ws) [] w h e = absurd (omega (arith, e))
rows_push (v ∷ ws) (g ∷ hs) w h e = let row : Row = record { word = v; hits = g } in ap (λ l. row ∷ l) (rows_push ws hs w h (omega (arith, e)))

abbrev pub drafted : List (List ℕ) → List (List ℕ) → List ℕ → List Figures → List ℕ → ℕ → List (List ℕ) → Drafted
drafted ps words ns fs ends closed skips = record { rows = rows_of ps words ns fs ends closed; hits = drop closed (hits_of ps ns fs); skipped = skips }

module _ (ps : List (List ℕ)) {many : ℕ} {words : List (List ℕ)} {ns : List ℕ} {fs : List Figures} {ends : List ℕ} {closed : ℕ} (are : AreColumns many words ns fs ends closed) where
  long : length (hits_of ps ns fs) ≡ length ns
  long = length_hits ps ns fs are.same

  -- one more hit
  pub columns_hit : (more n : ℕ) (f : Figures) → many ≤ more → n < more → AreColumns more words (ns ++ n ∷ []) (fs ++ f ∷ []) ends closed
  columns_hit more n f wide below = record {
    same = omega (arith, are.same, length_push fs f, length_push ns n);
    within = All-push (λ m. m < more) ns n (All-weaker (λ m. m < many) (λ m. m < more) (λ m h. omega (arith, h, wide)) ns are.within) below;
    each = are.each;
    inside = omega (arith, are.inside, length_push ns n);
    fit = subst (λ l. AreEnds l 0 ends) (sym (take-append-le closed ns (n ∷ []) are.inside)) are.fit;
  }

  pub view_hit : (qs skips : List (List ℕ)) (n : ℕ) (f : Figures) → All (λ m. get_or qs m [] ≡ get_or ps m []) ns
      → drafted qs words (ns ++ n ∷ []) (fs ++ f ∷ []) ends closed skips ≡ record (drafted ps words ns fs ends closed skips) { hits = drop closed (hits_of ps ns fs) ++ hit_at qs n f ∷ [] }
  view_hit qs skips n f same =
      let hs = hits_of ps ns fs in
      let all : hits_of qs (ns ++ n ∷ []) (fs ++ f ∷ []) ≡ hs ++ hit_at qs n f ∷ [] = hits_push qs ns fs n f are.same ∙ ap (λ l. l ++ hit_at qs n f ∷ []) (hits_grown ps qs ns fs same) in
      let fits : closed ≤ length hs = omega (arith, are.inside, long) in
      let prefix = ap (take closed) all ∙ take-append-le closed hs (hit_at qs n f ∷ []) fits in
      let back = ap (drop closed) all ∙ drop-append-le closed hs (hit_at qs n f ∷ []) fits in
      λ i. record { rows = rows_with words (parts (prefix i) 0 ends); hits = back i; skipped = skips }

  -- the row under way ends
  pub columns_row : (w : List ℕ) → AreColumns many (words ++ w ∷ []) ns fs (ends ++ length ns ∷ []) (length ns)
  columns_row w = record {
    same = are.same;
    within = are.within;
    each = omega (arith, are.each, length_push words w, length_push ends (length ns));
    inside = omega arith;
    fit =
        let whole = take-append-drop closed ns in
        let total : length (take closed ns) + length (drop closed ns) ≡ length ns = sym (length-append (take closed ns) (drop closed ns)) ∙ ap length whole in
        rw take-length (subst (λ l. AreEnds l 0 (ends ++ length ns ∷ [])) whole (subst (λ t. AreEnds (take closed ns ++ drop closed ns) 0 (ends ++ t ∷ [])) total (ends_push (take closed ns) (drop closed ns) 0 ends are.fit)));
  }

  pub view_row : (w : List ℕ) (skips : List (List ℕ)) → drafted ps (words ++ w ∷ []) ns fs (ends ++ length ns ∷ []) (length ns) skips
      ≡ record { rows = rows_of ps words ns fs ends closed ++ record { word = w; hits = drop closed (hits_of ps ns fs) } ∷ []; hits = []; skipped = skips }
  view_row w skips =
      let hs = hits_of ps ns fs in
      let fits : closed ≤ length hs = omega (arith, are.inside, long) in
      let prefix = take closed hs in
      let back = drop closed hs in
      let whole : prefix ++ back ≡ hs = take-append-drop closed hs in
      let total : length prefix + length back ≡ length ns = sym (length-append prefix back) ∙ ap length whole ∙ long in
      let same : length (take closed ns) ≡ length prefix = length-take closed ns ∙ ap (λ n. min closed n) (sym long) ∙ sym (length-take closed hs) in
      let fit : AreEnds prefix 0 ends = ends_same (take closed ns) prefix 0 ends same are.fit in
      let all : take (length ns) hs ≡ prefix ++ back = take_all (length ns) hs (omega (arith, long)) ∙ sym whole in
      let cut : parts (take (length ns) hs) 0 (ends ++ length ns ∷ []) ≡ parts prefix 0 ends ++ back ∷ [] =
      ap (λ l. parts l 0 (ends ++ length ns ∷ [])) all ∙ ap (λ t. parts (prefix ++ back) 0 (ends ++ t ∷ [])) (sym total) ∙ parts_push prefix back 0 ends fit in
      let rows = ap (rows_with (words ++ w ∷ [])) cut ∙ rows_push words (parts prefix 0 ends) w back (are.each ∙ sym (length_parts prefix 0 ends)) in
      let none = drop_all (length ns) hs (omega (arith, long)) in
      λ i. record { rows = rows i; hits = none i; skipped = skips }

  -- all rows have ended
  pub all_closed : drop closed (hits_of ps ns fs) ≡ [] → closed ≡ length ns
  all_closed none = omega (arith, are.inside, long, length-drop closed (hits_of ps ns fs), ap length none)
