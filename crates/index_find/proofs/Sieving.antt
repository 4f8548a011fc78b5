-- What a sieve keeps as it is offered more.
use Rattle.std.proofs.Common.{◌≡◌, ◌⊎◌, ℕ, ◌<◌, ◌-◌, Bool, true, false, List, [], ◌∷◌, ◌++◌, length, get_or, slice_get, Some, None, arith, refl, sym, ap, subst, ◌∙◌, ⊎_elim, inl, inr}
use Rattle.std.specs.List.{Contains}
use Rattle.std.proofs.lemmas.Bool.{false≢true}
use Rattle.std.proofs.lemmas.Option.{slice_get-get_or}
use Rattle.std.proofs.lemmas.List.{length-map, get_or_append_left, get_or_push, length_push, map-append}
use Rattle.std.proofs.lemmas.List.Elements.{All-push, Contains-get_or, Contains-append_left, Contains-push, Contains-push_cases}
use Rattle.std.proofs.lemmas.List.Quantifiers.{all_pairs_push}
use Rattle.word_index.specs.Index.{Hit, Row, IsBelow, IsRising}
use Rattle.word_index.proofs.Images.{to_map, from_map}
use Rattle.index_table.specs.Rows.{Drafted, AreOrdered, HasPath, IsAmong, paths_of, words_of}
use Rattle.index_text.specs.Offered.{Offered, with_hit, with_end, with_skipped, last_word, last_path, last_skipped}
use Rattle.index_find.specs.Asked.{asks_for, negates}
use Rattle.index_find.specs.Kept.{KeepsHit, KeepsRow}
use Rattle.index_find.specs.Sieved.{IsSomeOf, KeepsRows, KeepsHits, Serves}
use Rattle.index_find.specs.declared.query.Step.{Step}

no_element : {X : Type 0} (x : X) (C : Type 0) → Contains [] x → C
no_element x C has = absurd (omega (arith, has.1))

-- fewer of none are none
pub none_kept : (hs gs : List Hit) → ((h : Hit) → Contains hs h → Contains gs h) → gs ≡ [] → hs ≡ []
none_kept [] gs sub none = refl
none_kept (h ∷ hs) gs sub none = no_element h (h ∷ hs ≡ []) (subst (λ (l : List Hit). Contains l h) none (sub h (Contains-get_or (h ∷ hs) 0 h (omega arith))))

rising_front : (ys : List (List ℕ)) (y : List ℕ) → IsRising (ys ++ y ∷ []) → IsRising ys
rising_front ys y r = λ i j d before below.
    let there : j < length (ys ++ y ∷ []) = omega (arith, below, length_push ys y) in
    let left = subst (λ (v : List ℕ). IsBelow v (get_or (ys ++ y ∷ []) j d)) (get_or_append_left ys (y ∷ []) d i (omega (arith, before, below))) (r i j d before there) in
    subst (λ (v : List ℕ). IsBelow (get_or ys i d) v) (get_or_append_left ys (y ∷ []) d j below) left

rising_last : (ys : List (List ℕ)) (y : List ℕ) → IsRising (ys ++ y ∷ []) → (x : List ℕ) → Contains ys x → IsBelow x y
rising_last ys y r x has =
    let there : length ys < length (ys ++ y ∷ []) = omega (arith, length_push ys y) in
    let last = subst (λ (v : List ℕ). IsBelow (get_or (ys ++ y ∷ []) has.0 x) v) (get_or_push ys y x (length ys) refl) (r has.0 (length ys) x has.1 there) in
    subst (λ (v : List ℕ). IsBelow v y) (get_or_append_left ys (y ∷ []) x has.0 has.1 ∙ has.2) last

-- fewer texts rise too, with one more after them
sifted : (xs ys : List (List ℕ)) (y : List ℕ) → ((x : List ℕ) → Contains xs x → Contains ys x) → (IsRising ys → IsRising xs) → IsRising (ys ++ y ∷ []) → IsRising (xs ++ y ∷ [])
sifted xs ys y sub rise r = all_pairs_push IsBelow xs y (rise (rising_front ys y r)) (λ k d below. rising_last ys y r (get_or xs k d) (sub (get_or xs k d) (Contains-get_or xs k d below)))

abbrev path : Hit → List ℕ
path h = h.path

abbrev word : Row → List ℕ
word r = r.word

paths_push : (hs : List Hit) (h : Hit) → paths_of (hs ++ h ∷ []) ≡ paths_of hs ++ h.path ∷ []
paths_push hs h = map-append path hs (h ∷ [])

words_push : (rs : List Row) (r : Row) → words_of (rs ++ r ∷ []) ≡ words_of rs ++ r.word ∷ []
words_push rs r = map-append word rs (r ∷ [])

paths_among : (hs gs : List Hit) → ((h : Hit) → Contains hs h → Contains gs h) → (p : List ℕ) → Contains (paths_of hs) p → Contains (paths_of gs) p
paths_among hs gs sub p has = let n = from_map path hs p has in subst (Contains (paths_of gs)) n.2 (to_map path gs n.0 (sub n.0 n.1))

words_among : (rs ts : List Row) → ((r : Row) → Contains rs r → (s : Row) × Contains ts s × IsSomeOf r s) → (w : List ℕ) → Contains (words_of rs) w → Contains (words_of ts) w
words_among rs ts sub w has =
    let n = from_map word rs w has in
    let s = sub n.0 n.1 in
    subst (Contains (words_of ts)) (sym s.2.word ∙ n.2) (to_map word ts s.0 s.1)

ordered_front : (ts : List Row) (s : Row) → AreOrdered (ts ++ s ∷ []) → AreOrdered ts
ordered_front ts s o = record {
  words = rising_front (words_of ts) s.word (subst IsRising (words_push ts s) o.words);
  hits = λ k d below. subst (λ (r : Row). IsRising (paths_of r.hits)) (get_or_append_left ts (s ∷ []) d k below) (o.hits k d (omega (arith, below, length_push ts s)));
}

last_rises : (ts : List Row) (s : Row) → AreOrdered (ts ++ s ∷ []) → IsRising (paths_of s.hits)
last_rises ts s o = subst (λ (r : Row). IsRising (paths_of r.hits)) (get_or_push ts s s (length ts) refl) (o.hits (length ts) s (omega (arith, length_push ts s)))

-- a path of one more row
path_cases : (rs : List Row) (r : Row) (p : List ℕ) → HasPath (rs ++ r ∷ []) p → HasPath rs p ⊎ Contains (paths_of r.hits) p
path_cases rs r p has = ⊎_elim
    (λ (there : Contains rs has.0). inl (has.0, there, has.2))
    (λ (same : r ≡ has.0). inr (subst (λ (q : Row). Contains (paths_of q.hits) p) (sym same) has.2))
    (Contains-push_cases rs r has.0 has.1)

path_left : (rs : List Row) (r : Row) (p : List ℕ) → HasPath rs p → HasPath (rs ++ r ∷ []) p
path_left rs r p has = (has.0, Contains-append_left rs (r ∷ []) has.0 has.1, has.2)

-- where no hit was offered yet, and none is kept
pub no_hits : (steps : List Step) (d : Drafted) (w : List ℕ) → d.hits ≡ [] → KeepsHits steps d w []
no_hits steps d w none = record {
  wanted = λ _. none;
  paths = λ every h has. no_element h (IsAmong d h.path) has;
  hits = λ h has. subst (λ (l : List Hit). Contains l h) none has;
  rising = λ r. subst (λ (l : List Hit). IsRising (paths_of l)) (sym none) r;
}

pub no_rows : (steps : List Step) → KeepsRows steps [] []
no_rows steps = record {
  wanted = λ row has _. has;
  paths = λ _ p has. has;
  rows = λ row has. no_element row ((other : Row) × Contains [] other × IsSomeOf row other) has;
  ordered = λ o. o;
}

pub same_rows : (wanted every : Bool) (d new : Drafted) (h : Hit) → KeepsHit wanted every d h new → new.rows ≡ d.rows
same_rows wanted every d new h (inl more) = ap (λ (e : Drafted). e.rows) more
same_rows wanted every d new h (inr same) = ap (λ (e : Drafted). e.rows) same.2

module _ {steps : List Step} {d : Drafted} {word : List ℕ} {hits : List Hit} (k : KeepsHits steps d word hits) where
  pub hits_word : (w : List ℕ) → hits ≡ [] → KeepsHits steps d w hits
  hits_word w none = subst (λ (l : List Hit). KeepsHits steps d w l) (sym none) (no_hits steps d w (none_kept d.hits hits k.hits none))

  -- a hit that isn't kept
  passes_hit : (h : Hit) → asks_for word steps ≡ false → (negates steps ≡ true → IsAmong d h.path) → KeepsHits steps d word (hits ++ h ∷ [])
  passes_hit h unwanted there = record {
    wanted = λ asked. absurd (false≢true (sym unwanted ∙ asked));
    paths = λ every g has. ⊎_elim
        (λ (old : Contains hits g). k.paths every g old)
        (λ (same : h ≡ g). subst (λ (x : Hit). IsAmong d x.path) same (there every))
        (Contains-push_cases hits h g has);
    hits = λ g has. Contains-append_left hits (h ∷ []) g (k.hits g has);
    rising = λ r. k.rising (rising_front (paths_of hits) h.path (subst IsRising (paths_push hits h) r));
  }

  hit_more : (h : Hit) → KeepsHits steps (record d { hits = d.hits ++ h ∷ [] }) word (hits ++ h ∷ [])
  hit_more h = record {
    wanted = λ asked. ap (λ (l : List Hit). l ++ h ∷ []) (k.wanted asked);
    paths = λ every g has. ⊎_elim
        (λ (old : Contains hits g). ⊎_elim
        (λ (row : HasPath d.rows g.path). inl row)
        (λ (here : Contains (paths_of d.hits) g.path). inr (subst (λ (l : List (List ℕ)). Contains l g.path) (sym (paths_push d.hits h)) (Contains-append_left (paths_of d.hits) (h.path ∷ []) g.path here)))
        (k.paths every g old))
        (λ (same : h ≡ g). inr (to_map path (d.hits ++ h ∷ []) g (subst (Contains (d.hits ++ h ∷ [])) same (Contains-push d.hits h))))
        (Contains-push_cases hits h g has);
    hits = λ g has. ⊎_elim
        (λ (old : Contains d.hits g). Contains-append_left hits (h ∷ []) g (k.hits g old))
        (λ (same : h ≡ g). subst (Contains (hits ++ h ∷ [])) same (Contains-push hits h))
        (Contains-push_cases d.hits h g has);
    rising = λ r. subst IsRising (sym (paths_push d.hits h)) (sifted (paths_of d.hits) (paths_of hits) h.path (paths_among d.hits hits k.hits) k.rising (subst IsRising (paths_push hits h) r));
  }

  pub hits_push : (wanted every : Bool) (h : Hit) (new : Drafted) → wanted ≡ asks_for word steps → every ≡ negates steps → KeepsHit wanted every d h new → KeepsHits steps new word (hits ++ h ∷ [])
  hits_push wanted every h new is all (inl more) = subst (λ (e : Drafted). KeepsHits steps e word (hits ++ h ∷ [])) (sym more) (hit_more h)
  hits_push wanted every h new is all (inr same) = subst (λ (e : Drafted). KeepsHits steps e word (hits ++ h ∷ [])) (sym same.2) (passes_hit h (sym is ∙ same.0) (λ e. same.1 (all ∙ e)))

  abbrev offered_row : Row
  offered_row = record { word = word; hits = hits }

  abbrev kept_row : List ℕ → Row
  kept_row w = record { word = w; hits = d.hits }

  -- a path of the row that ended
  path_here : negates steps ≡ true → (p : List ℕ) → Contains (paths_of hits) p → IsAmong d p
  path_here every p has = let n = from_map path hits p has in subst (IsAmong d) n.2 (k.paths every n.0 n.1)

  module _ {rows : List Row} (r : KeepsRows steps d.rows rows) where
    row_more : (w : List ℕ) → w ≡ word → KeepsRows steps (d.rows ++ kept_row w ∷ []) (rows ++ offered_row ∷ [])
    row_more w is = record {
      wanted = λ row has asked. ⊎_elim
          (λ (old : Contains rows row). Contains-append_left d.rows (kept_row w ∷ []) row (r.wanted row old asked))
          (λ (same : offered_row ≡ row).
          let here : asks_for word steps ≡ true = ap (λ (r : Row). asks_for r.word steps) same ∙ asked in
          let both : kept_row w ≡ offered_row = λ i. record { word = is i; hits = k.wanted here i } in
          subst (Contains (d.rows ++ kept_row w ∷ [])) (both ∙ same) (Contains-push d.rows (kept_row w)))
          (Contains-push_cases rows offered_row row has);
      paths = λ every p has. ⊎_elim
          (λ (old : HasPath rows p). path_left d.rows (kept_row w) p (r.paths every p old))
          (λ (here : Contains (paths_of hits) p). ⊎_elim
          (λ (row : HasPath d.rows p). path_left d.rows (kept_row w) p row)
          (λ (kept : Contains (paths_of d.hits) p). (kept_row w, Contains-push d.rows (kept_row w), kept))
          (path_here every p here))
          (path_cases rows offered_row p has);
      rows = λ row has. ⊎_elim
          (λ (old : Contains d.rows row). let s = r.rows row old in (s.0, Contains-append_left rows (offered_row ∷ []) s.0 s.1, s.2))
          (λ (same : kept_row w ≡ row). (offered_row, Contains-push rows offered_row, subst (λ (r : Row). IsSomeOf r offered_row) same (record { word = is; hits = k.hits })))
          (Contains-push_cases d.rows (kept_row w) row has);
      ordered = λ o. record {
        words = subst IsRising (sym (words_push d.rows (kept_row w))) (subst (λ (v : List ℕ). IsRising (words_of d.rows ++ v ∷ [])) (sym is)
            (sifted (words_of d.rows) (words_of rows) word (words_among d.rows rows r.rows) (λ _. (r.ordered (ordered_front rows offered_row o)).words) (subst IsRising (words_push rows offered_row) o.words)));
        hits = All-push (λ (r : Row). IsRising (paths_of r.hits)) d.rows (kept_row w) (r.ordered (ordered_front rows offered_row o)).hits (k.rising (last_rises rows offered_row o));
      };
    }

    row_less : asks_for word steps ≡ false → d.hits ≡ [] → KeepsRows steps d.rows (rows ++ offered_row ∷ [])
    row_less unwanted none = record {
      wanted = λ row has asked. ⊎_elim
          (λ (old : Contains rows row). r.wanted row old asked)
          (λ (same : offered_row ≡ row). absurd (false≢true (sym unwanted ∙ ap (λ (r : Row). asks_for r.word steps) same ∙ asked)))
          (Contains-push_cases rows offered_row row has);
      paths = λ every p has. ⊎_elim
          (λ (old : HasPath rows p). r.paths every p old)
          (λ (here : Contains (paths_of hits) p). ⊎_elim
          (λ (row : HasPath d.rows p). row)
          (λ (kept : Contains (paths_of d.hits) p). no_element p (HasPath d.rows p) (subst (λ (l : List Hit). Contains (paths_of l) p) none kept))
          (path_here every p here))
          (path_cases rows offered_row p has);
      rows = λ row has. let s = r.rows row has in (s.0, Contains-append_left rows (offered_row ∷ []) s.0 s.1, s.2);
      ordered = λ o. r.ordered (ordered_front rows offered_row o);
    }

    pub rows_push : (wanted : Bool) (w : List ℕ) (new : Drafted) → wanted ≡ asks_for word steps → w ≡ word → KeepsRow wanted d w new → KeepsRows steps new.rows (rows ++ offered_row ∷ []) × (new.hits ≡ [])
    rows_push wanted w new is same (inl more) = (subst (λ (e : Drafted). KeepsRows steps e.rows (rows ++ offered_row ∷ [])) (sym more) (row_more w same), ap (λ (e : Drafted). e.hits) more)
    rows_push wanted w new is same (inr less) = (subst (λ (e : Drafted). KeepsRows steps e.rows (rows ++ offered_row ∷ [])) (sym less.2) (row_less (sym is ∙ less.0) less.1), ap (λ (e : Drafted). e.hits) less.2 ∙ less.1)

-- all rows have ended
pub rows_serve : {steps : List Step} {kept offered : List Row} → KeepsRows steps kept offered → Serves steps kept offered
rows_serve {steps} {kept} {offered} r = record {
  files = λ w asked p. (
    (λ has. let s = r.rows has.0 has.1 in (s.0, s.1, sym s.2.word ∙ has.2, paths_among has.0.hits s.0.hits s.2.hits p has.3)),
    (λ has. (has.0, r.wanted has.0 has.1 (ap (λ (v : List ℕ). asks_for v steps) has.2 ∙ asked), has.2, has.3)),
  );
  paths = λ every p. ((λ has. let s = r.rows has.0 has.1 in (s.0, s.1, paths_among has.0.hits s.0.hits s.2.hits p has.2)), r.paths every p);
}

-- no hit is the last
pub none_last : (hs : List Hit) → slice_get (paths_of hs) (length hs - 1) ≡ None → hs ≡ []
none_last [] e = refl
none_last (h ∷ hs) e = absurd (none_some (sym e ∙ slice_get-get_or (paths_of (h ∷ hs)) (length (h ∷ hs) - 1) [] (omega (arith, length-map (h ∷ hs) path))))
  where
    none_some : {X : Type 0} {x : X} → None ≡ Some x → ⊥
    none_some e = cc

-- what came last
last_push : {X : Type 0} (xs : List X) (x : X) (n : ℕ) → n ≡ length xs → slice_get (xs ++ x ∷ []) n ≡ Some x
last_push xs x n is = slice_get-get_or (xs ++ x ∷ []) n x (omega (arith, is, length_push xs x)) ∙ ap Some (get_or_push xs x x n (sym is))

pub last_skipped_is : (t : Offered) (p : List ℕ) → last_skipped (with_skipped p t) ≡ Some p
last_skipped_is t p = last_push t.skipped p (length (t.skipped ++ p ∷ []) - 1) (omega (arith, length_push t.skipped p))

pub last_path_is : (t : Offered) (h : Hit) → last_path (with_hit h t) ≡ Some h.path
last_path_is t h =
    let n = length (t.hits ++ h ∷ []) - 1 in
    ap (λ (l : List (List ℕ)). slice_get l n) (paths_push t.hits h) ∙ last_push (paths_of t.hits) h.path n (omega (arith, length_push t.hits h, length-map t.hits path))

pub last_word_is : (t : Offered) → last_word (with_end t) ≡ Some t.word
last_word_is t =
    let row : Row = record { word = t.word; hits = t.hits } in
    let n = length (t.rows ++ row ∷ []) - 1 in
    ap (λ (l : List (List ℕ)). slice_get l n) (words_push t.rows row) ∙ last_push (words_of t.rows) t.word n (omega (arith, length_push t.rows row, length-map t.rows word))
