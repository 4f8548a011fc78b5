-- The index of files that a batch holds.
use Rattle.std.proofs.Common.{◌≡◌, ℕ, zero, suc, ◌+◌, ◌<◌, ◌≤◌, Bool, true, false, cond, List, [], ◌∷◌, ◌++◌, length, get_or, map, filter, arith, refl, sym, ap, subst, ◌∙◌, ◌↔◌, ◌⊎◌, inl, inr, ⊎_elim, All, AllPairs, Some, None, Option, append-nil, lit<}
use Rattle.std.specs.List.{Contains, flat_map}
use Rattle.std.proofs.lemmas.List.{length-map, get_or-map, map-append, length_push}
use Rattle.std.proofs.lemmas.List.Kept.{AllPairs-cons}
use Rattle.std.proofs.lemmas.List.Elements.{All-nil, All-cons, All-append, All-map, All-weaker, All-push, Contains-append_cases, Contains-append_left, Contains-append_right, Contains-push, Contains-push_cases, Contains-get_or}
use Rattle.std.proofs.lemmas.List.Quantifiers.{all_pairs_push}
use Rattle.word_index.specs.declared.rows.Place.{Place}
use Rattle.word_index.specs.Words.{lower, short_runs, file_words}
use Rattle.word_index.specs.Counts.{Seen, seen_in}
use Rattle.word_index.specs.Index.{File, Row, Hit, Entry, Index, IsBelow, IsRising, IsEntryOf, IsSkippedOf, IsIndexOf, entry_of, row_entries}
use Rattle.word_index.specs.Merged.{IsPathBelow}
use Rattle.word_index.specs.Piece.{hit_of, row_of, rows_of, IsRow, IsSound}
use Rattle.word_index.specs.Links.{seen_place, places_from}
use Rattle.word_index.specs.Batch.{low_of, Held, HoldsFiles, IsShort, IsBatch, IsAboveAll, IsTableOf}
use Rattle.word_index.proofs.Counting.{places_after}
use Rattle.word_index.proofs.Images.{to_map, from_map}
use Rattle.word_index.proofs.Lower.{file_words_lower}
use Rattle.word_index.proofs.Searches.{before_place, found}
use Rattle.word_index.proofs.Unique.{IsIn, in_rows, from_rows}
use Rattle.word_index.proofs.Views.{ordered_view}

-- the places of a word rise
places_rise : (w : List ℕ) (n : ℕ) (lows : List (List ℕ)) → AllPairs IsPathBelow (places_from w n lows)
places_rise w n [] = λ i j d _ below. absurd (omega (arith, below))
places_rise w n (low ∷ lows) = by (seen_in w (short_runs low)) (places_rise w (n + 1) lows)
  where
    by : (o : Option Seen) → AllPairs IsPathBelow (places_from w (n + 1) lows) → AllPairs IsPathBelow (seen_place n o ++ places_from w (n + 1) lows)
    by None rest = rest
    by (Some s) rest = AllPairs-cons IsPathBelow (record { path = n; count = s.count; line = s.line }) (places_from w (n + 1) lows)
        (All-weaker (λ p. n + 1 ≤ p.path) (λ p. n < p.path) (λ p h. omega (arith, h)) (places_from w (n + 1) lows) (places_after w (n + 1) lows)) rest

-- and are of the files
places_within : (w : List ℕ) (n most : ℕ) (lows : List (List ℕ)) → n + length lows ≤ most → All (λ p. p.path < most) (places_from w n lows)
places_within w n most [] h = All-nil (λ p. p.path < most)
places_within w n most (low ∷ lows) h = All-append (λ p. p.path < most) (seen_place n (seen_in w (short_runs low))) (places_from w (n + 1) lows) (by (seen_in w (short_runs low))) (places_within w (n + 1) most lows (omega (arith, h)))
  where
    by : (o : Option Seen) → All (λ p. p.path < most) (seen_place n o)
    by None = All-nil (λ p. p.path < most)
    by (Some s) = All-cons (λ p. p.path < most) (record { path = n; count = s.count; line = s.line }) [] (omega (arith, h)) (All-nil (λ p. p.path < most))

pub batch_sound : (paths skipped lows ws : List (List ℕ)) (rows : List (List Place)) → IsBatch paths skipped lows → IsTableOf lows ws rows → IsSound paths skipped ws rows
batch_sound paths skipped lows ws rows b t = record {
  paths = b.rising;
  skipped = b.skips;
  words = t.rising;
  many = sym (ap length t.each ∙ length-map ws (λ w. places_from w 0 lows));
  each = subst (All (IsRow (length paths))) (sym t.each) (All-map (IsRow (length paths)) (λ w. places_from w 0 lows) ws (λ k d below. record {
    some = t.some (get_or ws k d) (Contains-get_or ws k d below);
    rising = places_rise (get_or ws k d) 0 lows;
    within = places_within (get_or ws k d) 0 (length paths) lows (omega (arith, b.many));
  }));
}

rows_map : (paths : List (List ℕ)) (f : List ℕ → List Place) (ws : List (List ℕ)) → rows_of paths ws (map f ws) ≡ map (λ w. row_of paths w (f w)) ws
rows_map paths f [] = refl
rows_map paths f (w ∷ ws) = ap (λ l. row_of paths w (f w) ∷ l) (rows_map paths f ws)

the_one : {X : Type 0} (x y : X) → Contains (x ∷ []) y → x ≡ y
the_one x y h = ⊎_elim (λ k. absurd (omega (arith, k.1))) (λ e. e) (Contains-push_cases [] x y h)

-- a place of a word is that of one of the files
record IsPlaceOf (w : List ℕ) (n : ℕ) (fs : List File) (p : Place) : Type 0 where
  file : File
  at : ℕ
  within : at < length fs
  is : get_or fs at file ≡ file
  path : p.path ≡ n + at
  seen : seen_in w (short_runs (low_of file)) ≡ Some (record { count = p.count; line = p.line })

in_places : (w : List ℕ) (n : ℕ) (fs : List File) (p : Place) → Contains (places_from w n (map low_of fs)) p → IsPlaceOf w n fs p
in_places w n [] p h = absurd (omega (arith, h.1))
in_places w n (f ∷ fs) p h = ⊎_elim (first (seen_in w (short_runs (low_of f))) refl) (λ k. later (in_places w (n + 1) fs p k)) (Contains-append_cases (seen_place n (seen_in w (short_runs (low_of f)))) (places_from w (n + 1) (map low_of fs)) p h)
  where
    first : (o : Option Seen) → seen_in w (short_runs (low_of f)) ≡ o → Contains (seen_place n o) p → IsPlaceOf w n (f ∷ fs) p
    first None e k = absurd (omega (arith, k.1))
    first (Some s) e k =
        let same = the_one (record { path = n; count = s.count; line = s.line }) p k in
        record {
          file = f;
          at = 0;
          within = omega arith;
          is = refl;
          path = omega (arith, ap (λ (q : Place). q.path) same);
          seen = e ∙ (λ i. Some (record { count = (same i).count; line = (same i).line }));
        }

    later : IsPlaceOf w (n + 1) fs p → IsPlaceOf w n (f ∷ fs) p
    later o = record { file = o.file; at = suc o.at; within = omega (arith, o.within); is = o.is; path = omega (arith, o.path); seen = o.seen }

to_places : (w : List ℕ) (n : ℕ) (fs : List File) (at : ℕ) (f : File) (s : Seen) → at < length fs → get_or fs at f ≡ f → seen_in w (short_runs (low_of f)) ≡ Some s
    → Contains (places_from w n (map low_of fs)) (record { path = n + at; count = s.count; line = s.line })
to_places w n [] at f s within is seen = absurd (omega (arith, within))
to_places w n (g ∷ fs) zero f s within is seen =
    let here : seen_in w (short_runs (low_of g)) ≡ Some s = ap (λ (x : File). seen_in w (short_runs (low_of x))) is ∙ seen in
    let same : n ≡ n + 0 = omega arith in
    subst (λ (k : ℕ). Contains (places_from w n (map low_of (g ∷ fs))) (record { path = k; count = s.count; line = s.line })) same
    (Contains-append_left (seen_place n (seen_in w (short_runs (low_of g)))) (places_from w (n + 1) (map low_of fs)) (record { path = n; count = s.count; line = s.line })
    (subst (λ (o : Option Seen). Contains (seen_place n o) (record { path = n; count = s.count; line = s.line })) (sym here) (Contains-push [] (record { path = n; count = s.count; line = s.line }))))
to_places w n (g ∷ fs) (suc at) f s within is seen =
    let same : n + 1 + at ≡ n + suc at = omega arith in
    Contains-append_right (seen_place n (seen_in w (short_runs (low_of g)))) (places_from w (n + 1) (map low_of fs)) (record { path = n + suc at; count = s.count; line = s.line })
    (subst (λ (k : ℕ). Contains (places_from w (n + 1) (map low_of fs)) (record { path = k; count = s.count; line = s.line })) same (to_places w (n + 1) fs at f s (omega (arith, within)) is seen))

nothing : {A P : Type 0} {x : A} → None ≡ Some x → P
nothing h = cc

-- a word is seen in a file that isn't too long
low_short : (f : File) (w : List ℕ) (s : Seen) → seen_in w (short_runs (low_of f)) ≡ Some s → (f.long ≡ false) × (seen_in w (file_words f.bytes) ≡ Some s)
low_short f w s h = by f.long refl h
  where
    by : (t : Bool) → f.long ≡ t → seen_in w (short_runs (cond t [] (map lower f.bytes))) ≡ Some s → (f.long ≡ false) × (seen_in w (file_words f.bytes) ≡ Some s)
    by true e k = nothing k
    by false e k = (e, ap (seen_in w) (sym (file_words_lower f.bytes)) ∙ k)

low_seen : (f : File) (w : List ℕ) (s : Seen) → f.long ≡ false → seen_in w (file_words f.bytes) ≡ Some s → seen_in w (short_runs (low_of f)) ≡ Some s
low_seen f w s short h = ap (λ t. seen_in w (short_runs (cond t [] (map lower f.bytes)))) short ∙ ap (seen_in w) (file_words_lower f.bytes) ∙ h

cons_case : {X : Type 0} (x : X) (xs : List X) (z : X) → Contains (x ∷ xs) z → (x ≡ z) ⊎ Contains xs z
cons_case x xs z (zero, within, is) = inl is
cons_case x xs z (suc k, within, is) = inr (k, omega (arith, within), is)

from_filter : (t : File → Bool) (fs : List File) (f : File) → Contains (filter t fs) f → Contains fs f × (t f ≡ true)
from_filter t [] f h = absurd (omega (arith, h.1))
from_filter t (g ∷ fs) f h = by (t g) refl (λ k. from_filter t fs f k) h
  where
    later : Contains fs f × (t f ≡ true) → Contains (g ∷ fs) f × (t f ≡ true)
    later o = ((suc o.0.0, omega (arith, o.0.1), o.0.2), o.1)

    by : (b : Bool) → t g ≡ b → (Contains (filter t fs) f → Contains fs f × (t f ≡ true)) → Contains (cond b (g ∷ filter t fs) (filter t fs)) f → Contains (g ∷ fs) f × (t f ≡ true)
    by true e rest k = ⊎_elim (λ (same : g ≡ f). ((0, omega arith, same), ap t (sym same) ∙ e)) (λ m. later (rest m)) (cons_case g (filter t fs) f k)
    by false e rest k = later (rest k)

to_filter : (t : File → Bool) (fs : List File) (f : File) → Contains fs f → t f ≡ true → Contains (filter t fs) f
to_filter t [] f h on = absurd (omega (arith, h.1))
to_filter t (g ∷ fs) f h on = by (t g) refl (λ k. to_filter t fs f k on) (cons_case g fs f h)
  where
    by : (b : Bool) → t g ≡ b → (Contains fs f → Contains (filter t fs) f) → (g ≡ f) ⊎ Contains fs f → Contains (cond b (g ∷ filter t fs) (filter t fs)) f
    by true e rest (inl same) = (0, omega arith, same)
    by true e rest (inr k) = let o = rest k in (suc o.0, omega (arith, o.1), o.2)
    by false e rest (inl same) = let bad : false ≡ true = sym e ∙ ap t same ∙ on in cc
    by false e rest (inr k) = rest k

module _ (fs : List File) (b : Held) (ws : List (List ℕ)) (rows : List (List Place)) (holds : HoldsFiles fs b) (t : IsTableOf b.lows ws rows) where
  path_at : (at : ℕ) (f : File) → at < length fs → get_or fs at f ≡ f → get_or b.paths at [] ≡ f.path
  path_at at f within is = ap (λ l. get_or l at []) holds.paths ∙ get_or-map (λ (g : File). g.path) fs at f [] within ∙ ap (λ (g : File). g.path) is

  rows_are : rows_of b.paths ws rows ≡ map (λ w. row_of b.paths w (places_from w 0 b.lows)) ws
  rows_are = ap (rows_of b.paths ws) t.each ∙ rows_map b.paths (λ w. places_from w 0 b.lows) ws

  entry_from : (e : Entry) → Contains (flat_map row_entries (rows_of b.paths ws rows)) e → IsEntryOf fs e
  entry_from e h =
      let i = in_rows (rows_of b.paths ws rows) e h in
      let r = from_map (λ w. row_of b.paths w (places_from w 0 b.lows)) ws i.row (subst (λ l. Contains l i.row) rows_are i.among) in
      let w = r.0 in
      let p = from_map (hit_of b.paths) (places_from w 0 b.lows) i.hit (subst (λ (q : Row). Contains q.hits i.hit) (sym r.2) i.has) in
      let o = in_places w 0 fs p.0 (subst (λ l. Contains (places_from w 0 l) p.0) holds.lows p.1) in
      let is : entry_of w (hit_of b.paths p.0) ≡ e = (λ k. entry_of (r.2 k).word (p.2 k)) ∙ i.is in
      let low = low_short o.file w (record { count = p.0.count; line = p.0.line }) o.seen in
      let none : 0 + o.at ≡ o.at = omega arith in
      let path : get_or b.paths p.0.path [] ≡ o.file.path = ap (λ k. get_or b.paths k []) (o.path ∙ none) ∙ path_at o.at o.file o.within o.is in
      record {
        file = o.file;
        among = (o.at, o.within, o.is);
        short = low.0;
        path = ap (λ (x : Entry). x.path) (sym is) ∙ path;
        counted = subst (λ (x : Entry). seen_in x.word (file_words o.file.bytes) ≡ Some (record { count = x.count; line = x.line })) is low.1;
      }

  entry_to : (e : Entry) → IsEntryOf fs e → Contains (flat_map row_entries (rows_of b.paths ws rows)) e
  entry_to e h =
      let s : Seen = record { count = e.count; line = e.line } in
      let at = h.among.0 in
      let p : Place = record { path = at; count = e.count; line = e.line } in
      let low = low_seen h.file e.word s h.short h.counted in
      let none : 0 + at ≡ at = omega arith in
      let has : Contains (places_from e.word 0 b.lows) p = subst (λ l. Contains (places_from e.word 0 l) p) (sym holds.lows) (subst (λ (k : ℕ). Contains (places_from e.word 0 (map low_of fs)) (record { path = k; count = e.count; line = e.line })) none (to_places e.word 0 fs at h.file s h.among.1 h.among.2 low)) in
      let some : 0 < length (places_from e.word 0 b.lows) = omega (arith, has.1) in
      let row = row_of b.paths e.word (places_from e.word 0 b.lows) in
      let among : Contains (rows_of b.paths ws rows) row = subst (λ l. Contains l row) (sym rows_are) (to_map (λ w. row_of b.paths w (places_from w 0 b.lows)) ws e.word (t.all e.word some)) in
      let hit = hit_of b.paths p in
      let path : hit.path ≡ e.path = path_at at h.file h.among.1 h.among.2 ∙ sym h.path in
      let is : entry_of e.word hit ≡ e = (λ k. record { word = e.word; path = path k; count = e.count; line = e.line }) in
      subst (Contains (flat_map row_entries (rows_of b.paths ws rows))) is (from_rows (rows_of b.paths ws rows) row hit among (to_map (hit_of b.paths) (places_from e.word 0 b.lows) p has))

  skips_from : (p : List ℕ) → Contains b.skipped p → IsSkippedOf fs p
  skips_from p h =
      let o = from_map (λ (f : File). f.path) (filter (λ f. f.long) fs) p (subst (λ l. Contains l p) holds.skipped h) in
      let k = from_filter (λ f. f.long) fs o.0 o.1 in
      record { file = o.0; among = k.0; long = k.1; here = sym o.2 }

  skips_to : (p : List ℕ) → IsSkippedOf fs p → Contains b.skipped p
  skips_to p h = subst (λ l. Contains l p) (sym holds.skipped) (subst (Contains (map (λ f. f.path) (filter (λ f. f.long) fs))) (sym h.here) (to_map (λ (f : File). f.path) (filter (λ f. f.long) fs) h.file (to_filter (λ f. f.long) fs h.file h.among h.long)))

  pub index_of_batch : IsBatch b.paths b.skipped b.lows → IsIndexOf fs (record { paths = b.paths; skipped = b.skipped; rows = rows_of b.paths ws rows })
  index_of_batch is = record {
    ordered = ordered_view b.paths b.skipped ws rows (batch_sound b.paths b.skipped b.lows ws rows is t);
    paths = λ p. ((λ h. subst (λ l. Contains l p) holds.paths h), (λ h. subst (λ l. Contains l p) (sym holds.paths) h));
    skipped = λ p. (skips_from p, skips_to p);
    entries = λ e. (entry_from e, entry_to e);
  }

-- no files
pub holds_none : HoldsFiles [] (record { paths = []; skipped = []; lows = [] })
holds_none = record { paths = refl; skipped = refl; lows = refl }

pub batch_none : IsBatch [] [] []
batch_none = record {
  rising = λ i j d _ below. absurd (omega (arith, below));
  skips = λ i j d _ below. absurd (omega (arith, below));
  among = λ p h. h;
  many = refl;
  short = All-nil IsShort;
}

rises_push : (paths : List (List ℕ)) (path : List ℕ) → IsRising paths → IsAboveAll path paths → IsRising (paths ++ path ∷ [])
rises_push paths path rise above = all_pairs_push IsBelow paths path rise (λ k d within. above (get_or paths k d) (Contains-get_or paths k d within))

-- one more file
module _ (paths skipped lows : List (List ℕ)) (path : List ℕ) (b : IsBatch paths skipped lows) (above : IsAboveAll path paths) where
  pub batch_short : (low : List ℕ) → IsShort low → IsBatch (paths ++ path ∷ []) skipped (lows ++ low ∷ [])
  batch_short low short = record {
    rising = rises_push paths path b.rising above;
    skips = b.skips;
    among = λ p h. Contains-append_left paths (path ∷ []) p (b.among p h);
    many = omega (arith, b.many, length_push lows low, length_push paths path);
    short = All-push IsShort lows low b.short short;
  }

  pub batch_long : IsBatch (paths ++ path ∷ []) (skipped ++ path ∷ []) (lows ++ [] ∷ [])
  batch_long = record {
    rising = rises_push paths path b.rising above;
    skips = rises_push skipped path b.skips (λ p h. above p (b.among p h));
    among = λ p h. ⊎_elim (λ k. Contains-append_left paths (path ∷ []) p (b.among p k)) (λ (e : path ≡ p). subst (Contains (paths ++ path ∷ [])) e (Contains-push paths path)) (Contains-push_cases skipped path p h);
    many = omega (arith, b.many, length_push lows [], length_push paths path);
    short = All-push IsShort lows [] b.short (lit< tt);
  }

filter_push : (t : File → Bool) (fs : List File) (f : File) → filter t (fs ++ f ∷ []) ≡ filter t fs ++ cond (t f) (f ∷ []) []
filter_push t [] f = refl
filter_push t (g ∷ fs) f = by (t g) (filter_push t fs f)
  where
    by : (b : Bool) → filter t (fs ++ f ∷ []) ≡ filter t fs ++ cond (t f) (f ∷ []) [] → cond b (g ∷ filter t (fs ++ f ∷ [])) (filter t (fs ++ f ∷ [])) ≡ cond b (g ∷ filter t fs) (filter t fs) ++ cond (t f) (f ∷ []) []
    by true h = ap (λ l. g ∷ l) h
    by false h = h

-- the same files and one more
module _ (fs : List File) (f : File) (a b : Held) (h : HoldsFiles fs a) (path : b.paths ≡ a.paths ++ f.path ∷ []) where
  more_paths : b.paths ≡ map (λ g. g.path) (fs ++ f ∷ [])
  more_paths = path ∙ ap (λ l. l ++ f.path ∷ []) h.paths ∙ sym (map-append (λ (g : File). g.path) fs (f ∷ []))

  more_lows : (low : List ℕ) → low_of f ≡ low → b.lows ≡ a.lows ++ low ∷ [] → b.lows ≡ map low_of (fs ++ f ∷ [])
  more_lows low e lows = lows ∙ (λ i. h.lows i ++ sym e i ∷ []) ∙ sym (map-append low_of fs (f ∷ []))

  pub holds_short : f.long ≡ false → b.skipped ≡ a.skipped → b.lows ≡ a.lows ++ map lower f.bytes ∷ [] → HoldsFiles (fs ++ f ∷ []) b
  holds_short short skips lows = record {
    paths = more_paths;
    skipped = skips ∙ h.skipped ∙ ap (map (λ g. g.path)) (sym (filter_push (λ g. g.long) fs f ∙ ap (λ t. filter (λ g. g.long) fs ++ cond t (f ∷ []) []) short ∙ append-nil (filter (λ g. g.long) fs)));
    lows = more_lows (map lower f.bytes) (ap (λ t. cond t [] (map lower f.bytes)) short) lows;
  }

  pub holds_long : f.long ≡ true → b.skipped ≡ a.skipped ++ f.path ∷ [] → b.lows ≡ a.lows ++ [] ∷ [] → HoldsFiles (fs ++ f ∷ []) b
  holds_long long skips lows = record {
    paths = more_paths;
    skipped = skips ∙ ap (λ l. l ++ f.path ∷ []) h.skipped ∙ sym (map-append (λ (g : File). g.path) (filter (λ g. g.long) fs) (f ∷ [])) ∙ ap (map (λ g. g.path)) (sym (filter_push (λ g. g.long) fs f ∙ ap (λ t. filter (λ g. g.long) fs ++ cond t (f ∷ []) []) long));
    lows = more_lows [] (ap (λ t. cond t [] (map lower f.bytes)) long) lows;
  }

-- after the last of rising paths is after all
pub above_last : (paths : List (List ℕ)) (path : List ℕ) (last : ℕ) → last + 1 ≡ length paths → IsRising paths → IsBelow (get_or paths last []) path → IsAboveAll path paths
above_last paths path last end rise below p h = subst (λ (q : List ℕ). IsBelow q path) (found paths p h) (before_place paths rise h.0 last path (omega (arith, end, h.1)) (omega (arith, end)) below)
