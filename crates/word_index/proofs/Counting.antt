-- The words of files, counted one after the other.
use Rattle.std.proofs.Common.{◌≡◌, ◌≢◌, ℕ, suc, ◌+◌, ◌-◌, ◌≤◌, Bool, true, false, cond, List, [], ◌∷◌, ◌++◌, length, ◌<◌, take, get_or, map, filter, refl, sym, ap, subst, ◌∙◌, arith, drop, length-append, append-nil, append_assoc, not, IfSome, Some, None, Option, min, ◌==◌, All}
use Rattle.std.specs.List.{fold}
use Rattle.std.specs.Str.{bytes_eq}
use Rattle.std.specs.Map.{update}
use Rattle.std.specs.Cmp.Lexicographic.{bytes_decides, nat_list_eq_equiv}
use Rattle.std.proofs.lemmas.List.{length_push, length-map, drop_more, drop_all}
use Rattle.std.proofs.lemmas.List.Elements.{All-head, All-tail, All-nil, All-cons, All-append, All-weaker}
use Rattle.std.proofs.lemmas.List.Filters.{length-filter_both}
use Rattle.std.proofs.lemmas.Bool.Decides.{nat_tests}
use Rattle.std.specs.Borrow.{Bor}
use Rattle.indexmap.specs.IndexMap.{IndexMap}
use Rattle.word_index.specs.declared.rows.Place.{Place}
use Rattle.word_index.specs.declared.links.Link.{Link}
use Rattle.word_index.specs.Words.{short_runs, is_short, runs}
use Rattle.word_index.specs.Counts.{Seen, lines_of, seen_of, seen_in, one_more}
use Rattle.word_index.specs.Links.{IsLinked, first_place, bumped, link_at, HasPlaces, HoldPlaces, seen_place, places_from, AreAbove}

fold_push : (x : ℕ) (ls : List ℕ) (l : ℕ) → fold min x (ls ++ l ∷ []) ≡ min (fold min x ls) l
fold_push x [] l = refl
fold_push x (y ∷ ls) l = fold_push (min x y) ls l

seen_of_push : (ls : List ℕ) (l : ℕ) → seen_of (ls ++ l ∷ []) ≡ Some (one_more (seen_of ls) l)
seen_of_push [] l = refl
seen_of_push (x ∷ ls) l =
    let n : suc (length (ls ++ l ∷ [])) ≡ suc (length ls) + 1 = omega (arith, length_push ls l) in
    λ i. Some (record { count = n i; line = fold_push x ls l i })

lines_of_push : (w : List ℕ) (ps : List (List ℕ × ℕ)) (p : List ℕ × ℕ) → lines_of w (ps ++ p ∷ []) ≡ lines_of w ps ++ cond (bytes_eq w p.0) (p.1 ∷ []) []
lines_of_push w [] p = by (bytes_eq w p.0)
  where
    by : (t : Bool) → map (λ p. p.1) (cond t (p ∷ []) []) ≡ cond t (p.1 ∷ []) []
    by true = refl
    by false = refl
lines_of_push w (q ∷ ps) p = by (bytes_eq w q.0) (lines_of_push w ps p)
  where
    more : List ℕ
    more = cond (bytes_eq w p.0) (p.1 ∷ []) []

    by : (t : Bool) → lines_of w (ps ++ p ∷ []) ≡ lines_of w ps ++ more → map (λ p. p.1) (cond t (q ∷ filter (λ p. bytes_eq w p.0) (ps ++ p ∷ [])) (filter (λ p. bytes_eq w p.0) (ps ++ p ∷ []))) ≡ map (λ p. p.1) (cond t (q ∷ filter (λ p. bytes_eq w p.0) ps) (filter (λ p. bytes_eq w p.0) ps)) ++ more
    by true h = ap (λ ls. q.1 ∷ ls) h
    by false h = h

-- one more pair is one more of its word alone
pub seen_in_push : (ps : List (List ℕ × ℕ)) (w : List ℕ) (line : ℕ) (v : List ℕ) → seen_in v (ps ++ (w, line) ∷ []) ≡ update bytes_eq (λ u. seen_in u ps) w (Some (one_more (seen_in w ps) line)) v
seen_in_push ps w line v = ap seen_of (lines_of_push v ps (w, line)) ∙ by (bytes_eq w v) refl
  where
    by : (t : Bool) → bytes_eq w v ≡ t → seen_of (lines_of v ps ++ cond (bytes_eq v w) (line ∷ []) []) ≡ cond (bytes_eq w v) (Some (one_more (seen_in w ps) line)) (seen_in v ps)
    by true e = rw (nat_list_eq_equiv.symm v w, e) (seen_of_push (lines_of v ps) line ∙ ap (λ u. Some (one_more (seen_in u ps) line)) (sym ((bytes_decides w v).0 e)))
    by false e = rw (nat_list_eq_equiv.symm v w, e) (ap seen_of (append-nil (lines_of v ps)))

-- a word is seen at most as often as there are pairs
seen_few : (w : List ℕ) (ps : List (List ℕ × ℕ)) → IfSome (seen_in w ps) (λ s. s.count ≤ length ps)
seen_few w ps = by (lines_of w ps) (omega (arith, length-map (filter (λ p. bytes_eq w p.0) ps) (λ p. p.1), length-filter_both (λ p. bytes_eq w p.0) (λ p. not (bytes_eq w p.0)) (λ _. refl) ps))
  where
    by : (ls : List ℕ) → length ls ≤ length ps → IfSome (seen_of ls) (λ s. s.count ≤ length ps)
    by [] h = tt
    by (l ∷ ls) h = h

-- one more occurrence in the file that is being counted
bumped_seen : (path line : ℕ) (o : Option Seen) (ps : List Place) → All (λ p. path < p.path) ps → bumped path line (seen_place path o ++ ps) ≡ seen_place path (Some (one_more o line)) ++ ps
bumped_seen path line None [] above = refl
bumped_seen path line None (p ∷ ps) above =
    let later = All-head (λ p. path < p.path) p ps above in
    let off : (p.path == path) ≡ false = grind (arith, nat_tests) in
    ap (λ t. cond t (record { path = path; count = p.count + 1; line = min p.line line } ∷ ps) (first_place path line ∷ p ∷ ps)) off
bumped_seen path line (Some s) ps above =
    let on : (path == path) ≡ true = grind (arith, nat_tests) in
    ap (λ t. cond t (record { path = path; count = s.count + 1; line = min s.line line } ∷ ps) (first_place path line ∷ record { path = path; count = s.count; line = s.line } ∷ ps)) on

-- the words before the place at are counted
pub record CountsFile {S : Type 0} (low : List ℕ) (at line path : ℕ) (first : IndexMap (Bor (List ℕ)) Link S) (start : List Link) (m : IndexMap (Bor (List ℕ)) Link S) (links : List Link) : Type 0 where
  pub done : List (List ℕ × ℕ)
  pub within : at ≤ length low
  pub early : line ≤ at + 1
  pub few : length done ≤ at
  pub split : short_runs low ≡ done ++ filter is_short (runs false line (drop at low))
  pub held : (f : List ℕ → List Place) → HoldPlaces first start f → AreAbove path f → HoldPlaces m links (λ w. seen_place path (seen_in w done) ++ f w)

pub counts_file_none : {S : Type 0} (low : List ℕ) (path : ℕ) (m : IndexMap (Bor (List ℕ)) Link S) (links : List Link) → CountsFile low 0 1 path m links m links
counts_file_none low path m links = record {
  done = [];
  within = omega arith;
  early = omega arith;
  few = omega arith;
  split = refl;
  held = λ f h above. h;
}

module _ {S : Type 0} {low : List ℕ} {at line path : ℕ} {first : IndexMap (Bor (List ℕ)) Link S} {start : List Link} {m : IndexMap (Bor (List ℕ)) Link S} {links : List Link} (before : CountsFile low at line path first start m links) where
  -- the next run is short, and was counted
  pub counts_file_next : {n : IndexMap (Bor (List ℕ)) Link S} {more : List Link} (word : List ℕ) (end next : ℕ) → length word ≤ 64 → at < end → end ≤ length low → next ≤ end + 1
      → runs false line (drop at low) ≡ (word, next) ∷ runs false next (drop end low)
      → ((f : List ℕ → List Place) → HoldPlaces m links f → HoldPlaces n more (λ w. cond (bytes_eq word w) (bumped path next (f word)) (f w))) → CountsFile low end next path first start n more
  counts_file_next {n} {more} word end next short further within early found adds =
      let pair : List ℕ × ℕ = (word, next) in
      let later = filter is_short (runs false next (drop end low)) in
      let passes : is_short (word, next) ≡ true = grind (arith, nat_tests) in
      record {
        done = before.done ++ pair ∷ [];
        within = within;
        early = early;
        few = omega (arith, before.few, length_push before.done pair);
        split = before.split
            ∙ ap (λ rs. before.done ++ filter is_short rs) found
            ∙ ap (λ t. before.done ++ cond t ((word, next) ∷ later) later) passes
            ∙ sym (append_assoc before.done (pair ∷ []) later);
        held = λ f h above w. subst (HasPlaces more (link_at n w)) (same f above w) (adds (λ w. seen_place path (seen_in w before.done) ++ f w) (before.held f h above) w);
      }
    where
      same : (f : List ℕ → List Place) → AreAbove path f → (w : List ℕ)
          → cond (bytes_eq word w) (bumped path next (seen_place path (seen_in word before.done) ++ f word)) (seen_place path (seen_in w before.done) ++ f w) ≡ seen_place path (seen_in w (before.done ++ (word, next) ∷ [])) ++ f w
      same f above w = by (bytes_eq word w) refl ∙ ap (λ o. seen_place path o ++ f w) (sym (seen_in_push before.done word next w))
        where
          by : (t : Bool) → bytes_eq word w ≡ t → cond t (bumped path next (seen_place path (seen_in word before.done) ++ f word)) (seen_place path (seen_in w before.done) ++ f w)
              ≡ seen_place path (cond t (Some (one_more (seen_in word before.done) next)) (seen_in w before.done)) ++ f w
          by true e = bumped_seen path next (seen_in word before.done) (f word) (above word) ∙ ap (λ v. seen_place path (Some (one_more (seen_in word before.done) next)) ++ f v) ((bytes_decides word w).0 e)
          by false e = refl

  -- the next run is too long for a word
  pub counts_file_pass : (word : List ℕ) (end next : ℕ) → 64 < length word → at < end → end ≤ length low → next ≤ end + 1
      → runs false line (drop at low) ≡ (word, next) ∷ runs false next (drop end low) → CountsFile low end next path first start m links
  counts_file_pass word end next long further within early found =
      let later = filter is_short (runs false next (drop end low)) in
      let fails : is_short (word, next) ≡ false = grind (arith, nat_tests) in
      record {
        done = before.done;
        within = within;
        early = early;
        few = omega (arith, before.few);
        split = before.split ∙ ap (λ rs. before.done ++ filter is_short rs) found ∙ ap (λ t. before.done ++ cond t ((word, next) ∷ later) later) fails;
        held = before.held;
      }

  -- a word's count in the file is at most the number of pairs before the place
  pub count_fits : (f : List ℕ → List Place) → HoldPlaces first start f → AreAbove path f → (w : List ℕ) (most : ℕ) → at + 1 < most → IfSome (link_at m w) (λ l. l.place.path ≡ path → l.place.count + 1 < most)
  count_fits f h above w most below = by (link_at m w) (before.held f h above w)
    where
      of : (x : Link) (q : Option Seen) (rest : List Place) → IfSome q (λ s. s.count ≤ length before.done) → seen_place path q ++ f w ≡ x.place ∷ rest → x.place.path ≡ path → x.place.count + 1 < most
      of x None rest few is same =
          let later = All-head (λ p. path < p.path) x.place rest (subst (All (λ p. path < p.path)) is (above w)) in
          absurd (omega (arith, later, same))
      of x (Some s) rest few is same =
          let e : record { path = path; count = s.count; line = s.line } ≡ x.place = cc in
          omega (arith, ap (λ (p : Place). p.count) e, few, before.few, below)

      by : (o : Option Link) → HasPlaces links o (seen_place path (seen_in w before.done) ++ f w) → IfSome o (λ l. l.place.path ≡ path → l.place.count + 1 < most)
      by None k = tt
      by (Some x) k = of x (seen_in w before.done) k.rest (seen_few w before.done) k.is

-- all words of the file are counted
pub counts_file_all : {S : Type 0} (low : List ℕ) (at line path : ℕ) (first m : IndexMap (Bor (List ℕ)) Link S) (start links : List Link) → CountsFile low at line path first start m links → runs false line (drop at low) ≡ []
    → (f : List ℕ → List Place) → HoldPlaces first start f → AreAbove path f → HoldPlaces m links (λ w. seen_place path (seen_in w (short_runs low)) ++ f w)
counts_file_all {S} low at line path first m start links c none f h above w =
    let all : short_runs low ≡ c.done = c.split ∙ ap (λ rs. c.done ++ filter is_short rs) none ∙ append-nil c.done in
    subst (λ ps. HasPlaces links (link_at m w) (seen_place path (seen_in w ps) ++ f w)) (sym all) (c.held f h above w)

seen_from : (n k : ℕ) (o : Option Seen) → n ≤ k → All (λ p. n ≤ p.path) (seen_place k o)
seen_from n k None h = All-nil (λ p. n ≤ p.path)
seen_from n k (Some s) h = All-cons (λ p. n ≤ p.path) (record { path = k; count = s.count; line = s.line }) [] h (All-nil (λ p. n ≤ p.path))

pub places_after : (w : List ℕ) (n : ℕ) (lows : List (List ℕ)) → All (λ p. n ≤ p.path) (places_from w n lows)
places_after w n [] = All-nil (λ p. n ≤ p.path)
places_after w n (low ∷ lows) = All-append (λ p. n ≤ p.path) (seen_place n (seen_in w (short_runs low))) (places_from w (n + 1) lows)
    (seen_from n n (seen_in w (short_runs low)) (omega arith))
    (All-weaker (λ p. n + 1 ≤ p.path) (λ p. n ≤ p.path) (λ p h. omega (arith, h)) (places_from w (n + 1) lows) (places_after w (n + 1) lows))

-- the files from the place at on are counted
pub record CountsFrom {S : Type 0} (lows : List (List ℕ)) (at : ℕ) (m : IndexMap (Bor (List ℕ)) Link S) (links : List Link) : Type 0 where
  pub within : at ≤ length lows
  pub held : HoldPlaces m links (λ w. places_from w at (drop at lows))

pub counts_from_none : {S : Type 0} (lows : List (List ℕ)) (at : ℕ) (m : IndexMap (Bor (List ℕ)) Link S) (links : List Link) → at ≡ length lows → HoldPlaces m links (λ _. []) → CountsFrom lows at m links
counts_from_none {S} lows at m links end h = record {
  within = omega (arith, end);
  held = λ w. subst (λ ls. HasPlaces links (link_at m w) (places_from w at ls)) (sym (drop_all at lows (omega (arith, end)))) (h w);
}

pub above_from : (lows : List (List ℕ)) (at path : ℕ) → path + 1 ≡ at → AreAbove path (λ w. places_from w at (drop at lows))
above_from lows at path next w = All-weaker (λ p. at ≤ p.path) (λ p. path < p.path) (λ p h. omega (arith, h, next)) (places_from w at (drop at lows)) (places_after w at (drop at lows))

pub counts_from_next : {S : Type 0} (lows : List (List ℕ)) (at path : ℕ) (n : IndexMap (Bor (List ℕ)) Link S) (more : List Link) (low : List ℕ) → at ≤ length lows → path + 1 ≡ at → low ≡ get_or lows path []
    → HoldPlaces n more (λ w. seen_place path (seen_in w (short_runs low)) ++ places_from w at (drop at lows)) → CountsFrom lows path n more
counts_from_next {S} lows at path n more low within next is h = record {
  within = omega (arith, within, next);
  held = λ w.
      let here : drop path lows ≡ low ∷ drop at lows = drop_more lows path [] (omega (arith, within, next)) ∙ (λ i. sym is i ∷ drop (next i) lows) in
      let all : seen_place path (seen_in w (short_runs low)) ++ places_from w at (drop at lows) ≡ places_from w path (low ∷ drop at lows) = ap (λ k. seen_place path (seen_in w (short_runs low)) ++ places_from w k (drop at lows)) (sym next) in
      subst (HasPlaces more (link_at n w)) (all ∙ ap (places_from w path) (sym here)) (h w);
}
