-- What a draft keeps.
use Rattle.std.proofs.Common.{◌≡◌, ℕ, suc, ◌+◌, ◌-◌, ◌<◌, ◌≤◌, List, [], ◌∷◌, ◌++◌, length, get_or, take, drop, map, arith, refl, sym, ap, subst, ◌∙◌, ⊎_elim, All, Some, slice_get, String, Result, Ok, Err, IfOk, IsPermutation}
use Rattle.std.specs.List.{Contains}
use Rattle.std.specs.String.{string_bytes}
use Rattle.std.proofs.lemmas.Bool.{cases_lt}
use Rattle.std.proofs.lemmas.List.{length-map, get_or-map, get_or_append_left, length_push, length-drop, get_or-drop, take_all, drop_all, append-nil}
use Rattle.std.proofs.lemmas.List.Elements.{All-from_get_or, All-map, All-contains, Contains-get_or, Contains-append_left, Contains-push}
use Rattle.std.proofs.lemmas.List.Sorted.{All-permutation, IsPermutation-map}
use Rattle.std.proofs.lemmas.Option.{slice_get-get_or, slice_get_within, get_or_from_slice_get}
use Rattle.word_index.specs.Blocks.{parts, AreEnds}
use Rattle.word_index.specs.Index.{Hit}
use Rattle.word_index.proofs.Parts.{length_parts, parts_joined}
use Rattle.word_index.proofs.Images.{to_map, from_map}
use Rattle.word_index.proofs.Searches.{found}
use Rattle.index_table.specs.declared.draft.Figures.{Figures}
use Rattle.index_table.specs.Paths.{texts, values, AreNumbered, Grows, IsRanked}
use Rattle.index_table.specs.Rows.{hits_of, rows_with, rows_of, paths_of, words_of, AreColumns, AreUsed, ArePathsOf}
use Rattle.index_table.proofs.Columns.{drop_hits, paths_hits, length_hits, hits_moved, ends_same, all_closed}
use Rattle.index_table.proofs.RowPaths.{paths_to, paths_from}

pub weaker : {T E : Type 0} (r : Result T E) (P Q : T → Type 0) → ((x : T) → P x → Q x) → IfOk r P → IfOk r Q
weaker (Ok x) P Q f h = f x h
weaker (Err e) P Q f h = tt

-- all of a slice was written
pub written : (n : ℕ) (xs ys : List ℕ) → length xs ≡ n → length ys ≡ n → take n (xs ++ drop (length xs) ys) ≡ xs
written n xs ys long same =
    ap (λ l. take n (xs ++ l)) (drop_all (length xs) ys (omega (arith, long, same))) ∙ ap (take n) (append-nil xs) ∙ take_all n xs (omega (arith, long))

-- each value is below the number of paths, also once they are sorted
pub values_fit : {A : Type 0} (old new : List (String A × ℕ)) → AreNumbered old → IsPermutation old new → All (λ n. n < length old) (values new)
values_fit {A} old new numbered same =
    let v = λ (e : String A × ℕ). e.1 in
    let many : length (values old) ≡ length old = length-map old v in
    All-permutation (λ n. n < length old) (values old) (values new) (IsPermutation-map v old new same)
    (All-from_get_or (λ n. n < length old) (values old) 0 (λ i below. let inside : i < length old = omega (arith, below, many) in omega (arith, inside, numbered i inside)))

pub words_rows : (ws : List (List ℕ)) (hs : List (List Hit)) → length ws ≡ length hs → words_of (rows_with ws hs) ≡ ws
words_rows [] hs h = refl
words_rows (w ∷ ws) [] h = absurd (omega (arith, h))
words_rows (w ∷ ws) (g ∷ hs) h = ap (λ l. w ∷ l) (words_rows ws hs (omega (arith, h)))

pub length_rows : (ws : List (List ℕ)) (hs : List (List Hit)) → length ws ≡ length hs → length (rows_with ws hs) ≡ length ws
length_rows [] hs h = refl
length_rows (w ∷ ws) [] h = absurd (omega (arith, h))
length_rows (w ∷ ws) (g ∷ hs) h = ap suc (length_rows ws hs (omega (arith, h)))

module _ {A : Type 0} where
  -- the entry at a place
  pub record IsEntryAt (es : List (String A × ℕ)) (k : ℕ) (key : String A) (v : ℕ) : Type 0 where
    pub within : k < length es
    pub value : get_or (values es) k 0 ≡ v
    pub text : get_or (texts es) k [] ≡ string_bytes key

  pub entry_at : (es : List (String A × ℕ)) (k : ℕ) (key : String A) (v : ℕ) → Some (key, v) ≡ slice_get es k → IsEntryAt es k key v
  entry_at es k key v h =
      let e : String A × ℕ = (key, v) in
      let within = slice_get_within es k e (sym h) in
      let is = get_or_from_slice_get es k e e (sym h) in
      record {
        within = within;
        value = get_or-map (λ (x : String A × ℕ). x.1) es k e 0 within ∙ ap (λ (x : String A × ℕ). x.1) is;
        text = get_or-map (λ (x : String A × ℕ). string_bytes x.0) es k e [] within ∙ ap (λ (x : String A × ℕ). string_bytes x.0) is;
      }

  length_texts : (es : List (String A × ℕ)) → length (texts es) ≡ length es
  length_texts es = length-map es (λ (e : String A × ℕ). string_bytes e.0)

  module _ {es new : List (String A × ℕ)} {path : List ℕ} {n : ℕ} (g : Grows es new path n) where
    pub grown_wide : length es ≤ length new
    grown_wide = ⊎_elim
        (λ (same : new ≡ es). omega (arith, ap length same))
        (λ (more : (texts new ≡ texts es ++ path ∷ []) × (n ≡ length es)). omega (arith, ap length more.0, length_push (texts es) path, length_texts es, length_texts new))
        g.rest

    pub grown_texts : (ns : List ℕ) → All (λ m. m < length es) ns → All (λ m. get_or (texts new) m [] ≡ get_or (texts es) m []) ns
    grown_texts ns within k d below =
        let m = get_or ns k d in
        ⊎_elim
        (λ (same : new ≡ es). ap (λ l. get_or (texts l) m []) same)
        (λ (more : (texts new ≡ texts es ++ path ∷ []) × (n ≡ length es)). ap (λ l. get_or l m []) more.0 ∙ get_or_append_left (texts es) (path ∷ []) [] m (omega (arith, within k d below, length_texts es)))
        g.rest

    pub grown_used : (ns : List ℕ) → AreUsed (length es) ns → AreUsed (length new) (ns ++ n ∷ [])
    grown_used ns used k below = ⊎_elim
        (λ (same : new ≡ es). Contains-append_left ns (n ∷ []) k (used k (omega (arith, below, ap length same))))
        (λ (more : (texts new ≡ texts es ++ path ∷ []) × (n ≡ length es)).
        ⊎_elim
        (λ (lt : k < length es). Contains-append_left ns (n ∷ []) k (used k lt))
        (λ (ge : length es ≤ k).
        let last : n ≡ k = omega (arith, below, ge, more.1, ap length more.0, length_push (texts es) path, length_texts es, length_texts new) in
        subst (Contains (ns ++ n ∷ [])) last (Contains-push ns n))
        (cases_lt k (length es)))
        g.rest

-- the last word, and the path of the last hit under way
module _ (ps : List (List ℕ)) {many : ℕ} {words : List (List ℕ)} {ns : List ℕ} {fs : List Figures} {ends : List ℕ} {closed : ℕ} (are : AreColumns many words ns fs ends closed) where
  many_cut : length words ≡ length (parts (take closed (hits_of ps ns fs)) 0 ends)
  many_cut = are.each ∙ sym (length_parts (take closed (hits_of ps ns fs)) 0 ends)

  pub words_are : words_of (rows_of ps words ns fs ends closed) ≡ words
  words_are = words_rows words (parts (take closed (hits_of ps ns fs)) 0 ends) many_cut

  pub last_word_is : (n : ℕ) → n ≡ length words → 0 < n → Some (get_or words (n - 1) []) ≡ slice_get (words_of (rows_of ps words ns fs ends closed)) (length (rows_of ps words ns fs ends closed) - 1)
  last_word_is n is some =
      let long = length_rows words (parts (take closed (hits_of ps ns fs)) 0 ends) many_cut in
      let at : length (rows_of ps words ns fs ends closed) - 1 ≡ n - 1 = omega (arith, long, is) in
      sym (ap (λ l. slice_get l (length (rows_of ps words ns fs ends closed) - 1)) words_are ∙ ap (slice_get words) at ∙ slice_get-get_or words (n - 1) [] (omega (arith, is, some)))

  hits_left : paths_of (drop closed (hits_of ps ns fs)) ≡ map (λ m. get_or ps m []) (drop closed ns)
  hits_left = ap paths_of (drop_hits ps closed ns fs are.same) ∙ paths_hits ps (drop closed ns) (drop closed fs) (omega (arith, length-drop closed ns, length-drop closed fs, are.same))

  pub no_hits : length ns ≤ closed → drop closed (hits_of ps ns fs) ≡ []
  no_hits all = drop_all closed (hits_of ps ns fs) (omega (arith, all, length_hits ps ns fs are.same))

  pub last_path_is : (path : List ℕ) → closed < length ns → get_or ps (get_or ns (length ns - 1) 0) [] ≡ path
      → Some path ≡ slice_get (paths_of (drop closed (hits_of ps ns fs))) (length (drop closed (hits_of ps ns fs)) - 1)
  last_path_is path some is =
      let hs = hits_of ps ns fs in
      let rest = drop closed ns in
      let m = length (drop closed hs) - 1 in
      let long : length (drop closed hs) ≡ length ns - closed = length-drop closed hs ∙ ap (λ n. n - closed) (length_hits ps ns fs are.same) in
      let inside : m < length rest = omega (arith, long, some, length-drop closed ns) in
      let at : closed + m ≡ length ns - 1 = omega (arith, long, some) in
      let there : get_or rest m 0 ≡ get_or ns (length ns - 1) 0 = get_or-drop closed ns m 0 ∙ ap (λ k. get_or ns k 0) at in
      let xs = map (λ k. get_or ps k []) rest in
      let fits : m < length xs = omega (arith, inside, length-map rest (λ k. get_or ps k [])) in
      sym (ap (λ l. slice_get l m) hits_left ∙ slice_get-get_or xs m [] fits ∙ ap Some (get_or-map (λ k. get_or ps k []) rest m 0 [] inside ∙ ap (λ k. get_or ps k []) there ∙ is))

-- sorted
module _ {A : Type 0} {old new : List (String A × ℕ)} {ns ms : List ℕ} (r : IsRanked old new ns ms) {words : List (List ℕ)} {fs : List Figures} {ends : List ℕ} {closed : ℕ} (are : AreColumns (length old) words ns fs ends closed) (none : drop closed (hits_of (texts old) ns fs) ≡ []) where
  long_ms : length ms ≡ length ns
  long_ms = ap length r.numbers ∙ length-map ns (λ n. get_or r.ranks n 0)

  closed_is : closed ≡ length ns
  closed_is = all_closed (texts old) are none

  pub sorted_hits : hits_of (texts new) ms fs ≡ hits_of (texts old) ns fs
  sorted_hits = ap (λ l. hits_of (texts new) l fs) r.numbers ∙ hits_moved (texts old) (texts new) (λ n. get_or r.ranks n 0) ns fs r.same

  pub sorted_rows : rows_of (texts new) words ms fs ends (length ms) ≡ rows_of (texts old) words ns fs ends closed
  sorted_rows =
      let all : take (length ms) (hits_of (texts new) ms fs) ≡ take closed (hits_of (texts old) ns fs) = λ i. take ((long_ms ∙ sym closed_is) i) (sorted_hits i) in
      ap (λ l. rows_with words (parts l 0 ends)) all

  pub sorted_columns : AreColumns (length new) words ms fs ends (length ms)
  sorted_columns = record {
    same = are.same ∙ sym long_ms;
    within = subst (All (λ m. m < length new)) (sym r.numbers) (All-map (λ m. m < length new) (λ n. get_or r.ranks n 0) ns r.within);
    each = are.each;
    inside = omega arith;
    fit =
        let same : length (take closed ns) ≡ length (take (length ms) ms) = ap length (take_all closed ns (omega (arith, closed_is))) ∙ sym long_ms ∙ sym (ap length (take_all (length ms) ms (omega arith))) in
        ends_same (take closed ns) (take (length ms) ms) 0 ends same are.fit;
  }

  pub sorted_paths : AreUsed (length old) ns → ArePathsOf (rows_of (texts old) words ns fs ends closed) (texts new)
  sorted_paths used =
      let hs = hits_of (texts old) ns fs in
      let prefix = take closed hs in
      let whole : prefix ≡ hs = take_all closed hs (omega (arith, closed_is, length_hits (texts old) ns fs are.same)) in
      let same : length (take closed ns) ≡ length prefix = ap length (take_all closed ns (omega (arith, closed_is))) ∙ sym (length_hits (texts old) ns fs are.same) ∙ sym (ap length whole) in
      let fit : AreEnds prefix 0 ends = ends_same (take closed ns) prefix 0 ends same are.fit in
      let cuts = parts prefix 0 ends in
      let joined = parts_joined prefix 0 ends fit ∙ whole in
      let paths = ap paths_of joined ∙ paths_hits (texts old) ns fs are.same in
      let nth = λ (n : ℕ). get_or (texts old) n [] in
      record {
        rising = r.rising;
        members = λ p. (
          (λ here.
              let there = (r.members p).0 here in
              let inside : there.0 < length old = omega (arith, there.1, length-map old (λ (e : String A × ℕ). string_bytes e.0)) in
              let at : nth there.0 ≡ p = found (texts old) p there in
              let among : Contains (map nth ns) p = subst (Contains (map nth ns)) at (to_map nth ns there.0 (used there.0 inside)) in
              paths_from words cuts p (are.each ∙ sym (length_parts prefix 0 ends)) (subst (λ l. Contains l p) (sym paths) among)),
          (λ has.
              let among = subst (λ l. Contains l p) paths (paths_to words cuts p has) in
              let n = from_map nth ns p among in
              let below : n.0 < length old = All-contains (λ m. m < length old) ns n.0 are.within n.1 in
              (r.members p).1 (subst (Contains (texts old)) n.2 (Contains-get_or (texts old) n.0 [] (omega (arith, below, length-map old (λ (e : String A × ℕ). string_bytes e.0)))))),
        );
      }
