-- The words of a map in their order.
use Rattle.std.proofs.Common.{◌≡◌, ℕ, ◌+◌, ◌<◌, ◌≤◌, Bool, true, false, cond, List, [], ◌∷◌, ◌++◌, length, get_or, take, map, arith, refl, sym, ap, subst, ◌∙◌, Some, None, Option, unwrap_or, slice_get, IsPermutation, nat_cmp, is_lt}
use Rattle.std.specs.List.{AllPairs, Contains, IsDistinct, AllByRecursion}
use Rattle.std.specs.Borrow.{Bor}
use Rattle.std.specs.Str.{bytes_eq}
use Rattle.std.specs.Map.{lookup, keys_of, IsKeyTest}
use Rattle.std.specs.declared.cmp.Ordering.{Ordering}
use Rattle.std.specs.declared.cmp.Ordering.TheVariants.{Less, Equal, Greater}
use Rattle.std.specs.Cmp.Lexicographic.{slice_cmp, bytes_decides, nat_list_eq_equiv, on_texts, on_texts_equal}
use Rattle.std.specs.List.Sorted.{IsSorted}
use Rattle.std.proofs.lemmas.List.{length-map, get_or-map, take_more, take_all, map-append}
use Rattle.std.proofs.lemmas.Option.{slice_get_within, unwrap_or-slice_get}
use Rattle.std.proofs.lemmas.List.Sorted.{sorted_far, ranks_by}
use Rattle.std.proofs.lemmas.Map.Keys.{IsDistinct-head, IsDistinct-tail, IsDistinct-cons, IsDistinct-from_apart, apart_from_distinct}
use Rattle.std.proofs.lemmas.Map.Views.{Contains-from_lookup, lookup-from_Contains}
use Rattle.indexmap.specs.IndexMap.{IndexMap}
use Rattle.indexmap.proofs.MapLemmas.{lookup_permutation}
use Rattle.word_index.specs.declared.rows.Place.{Place}
use Rattle.word_index.specs.declared.links.Link.{Link}
use Rattle.word_index.specs.Index.{IsBelow, IsRising}
use Rattle.word_index.specs.Links.{link_at, IsLinked, HasPlaces, HoldPlaces, places_from}
use Rattle.word_index.specs.Batch.{IsTableOf}
use Rattle.word_index.proofs.Below.{below_back, same_texts}
use Rattle.word_index.proofs.Chains.{linked_unique}
use Rattle.word_index.proofs.Images.{to_map, from_map}

abbrev pub same_text : Bor (List ℕ) → Bor (List ℕ) → Bool
same_text x y = bytes_eq x.now y.now

abbrev pub by_text : Bor (List ℕ) → Bor (List ℕ) → Ordering
by_text x y = slice_cmp nat_cmp x.now y.now

-- the words of the entries
abbrev pub texts_of : List (Bor (List ℕ) × Link) → List (List ℕ)
texts_of es = map (λ e. e.0.now) es

-- the entries with the texts of their keys
abbrev named : List (Bor (List ℕ) × Link) → List (List ℕ × Link)
named es = map (λ e. (e.0.now, e.1)) es

lookup_named : (es : List (Bor (List ℕ) × Link)) (w : List ℕ) → lookup (bytes_eq w) (named es) ≡ lookup (λ k. bytes_eq w k.now) es
lookup_named [] w = refl
lookup_named (e ∷ es) w = ap (λ r. cond (bytes_eq w e.0.now) (Some e.1) r) (lookup_named es w)

all_now : (k : Bor (List ℕ)) (ks : List (Bor (List ℕ))) → AllByRecursion (λ y. same_text k y ≡ false) ks → AllByRecursion (λ y. bytes_eq k.now y ≡ false) (map (λ k. k.now) ks)
all_now k [] h = tt
all_now k (y ∷ ks) h = (h.0, all_now k ks h.1)

distinct_now : (ks : List (Bor (List ℕ))) → IsDistinct same_text ks → IsDistinct bytes_eq (map (λ k. k.now) ks)
distinct_now [] h = IsDistinct-from_apart bytes_eq [] (λ i j d _ below. absurd (omega (arith, below)))
distinct_now (k ∷ ks) h = IsDistinct-cons bytes_eq k.now (map (λ k. k.now) ks) (all_now k ks (IsDistinct-head same_text k ks h)) (distinct_now ks (IsDistinct-tail same_text k ks h))

keys_named : (es : List (Bor (List ℕ) × Link)) → map (λ k. k.now) (keys_of es) ≡ keys_of (named es)
keys_named [] = refl
keys_named (e ∷ es) = ap (λ l. e.0.now ∷ l) (keys_named es)

pub texts_keys : (es : List (Bor (List ℕ) × Link)) → map (λ k. k.now) (keys_of es) ≡ texts_of es
texts_keys [] = refl
texts_keys (e ∷ es) = ap (λ l. e.0.now ∷ l) (texts_keys es)

-- texts in order that differ rise
below_apart : (u v : List ℕ) → is_lt (slice_cmp nat_cmp v u) ≡ false → bytes_eq u v ≡ false → IsBelow u v
below_apart u v later apart = by (slice_cmp nat_cmp v u) refl later
  where
    by : (o : Ordering) → slice_cmp nat_cmp v u ≡ o → is_lt o ≡ false → IsBelow u v
    by Less e h = cc
    by Equal e h = let same = (bytes_decides u v).1 (sym (same_texts v u e)) in cc
    by Greater e h = below_back v u e

keys_rise : (ks : List (Bor (List ℕ))) → IsSorted by_text ks → IsDistinct same_text ks → IsRising (map (λ k. k.now) ks)
keys_rise [] sorted distinct = λ i j d _ below. absurd (omega (arith, below))
keys_rise (k ∷ rest) sorted distinct = λ i j d before below.
    let ks = k ∷ rest in
    let f = λ (y : Bor (List ℕ)). y.now in
    let there : j < length ks = omega (arith, below, length-map ks f) in
    let here : i < length ks = omega (arith, before, there) in
    let later = sorted_far (λ a b. is_lt (by_text a b)) (ranks_by (on_texts f) (λ a. a)) ks sorted i j k (omega (arith, before)) there in
    let apart = apart_from_distinct bytes_eq (map f ks) i j d (distinct_now ks distinct) before below in
    let at_i = get_or-map f ks i k d here in
    let at_j = get_or-map f ks j k d there in
    rw (at_i, at_j) (below_apart (f (get_or ks i k)) (f (get_or ks j k)) later (rw (at_i, at_j) at apart))

pub texts_rise : (es : List (Bor (List ℕ) × Link)) → IsSorted by_text (keys_of es) → IsDistinct same_text (keys_of es) → IsRising (texts_of es)
texts_rise es sorted distinct = subst IsRising (texts_keys es) (keys_rise (keys_of es) sorted distinct)

-- entries in another order hold the same
module _ {S : Type 0} where
  pub holds_reordered : (m n : IndexMap (Bor (List ℕ)) Link S) (links : List Link) (f : List ℕ → List Place) → IsPermutation m.entries n.entries → IsDistinct same_text (keys_of n.entries) → HoldPlaces m links f → HoldPlaces n links f
  holds_reordered m n links f same distinct h w =
      let test : IsKeyTest same_text (λ k. bytes_eq w k.now) = λ x y e. ap (λ u. bytes_eq u y.now) ((bytes_decides w x.now).0 e) in
      let e = lookup_permutation (on_texts_equal (λ (k : Bor (List ℕ)). k.now)) m.entries n.entries same distinct (λ k. bytes_eq w k.now) test in
      subst (λ (o : Option Link). HasPlaces links o (f w)) (sym e) (h w)

  -- the word of an entry has the entry's link
  pub link_of_entry : (m : IndexMap (Bor (List ℕ)) Link S) → IsDistinct same_text (keys_of m.entries) → (e : Bor (List ℕ) × Link) → Contains m.entries e → link_at m e.0.now ≡ Some e.1
  link_of_entry m distinct e among =
      sym (lookup_named m.entries e.0.now)
      ∙ lookup-from_Contains nat_list_eq_equiv e.0.now e.1 (named m.entries) (subst (IsDistinct bytes_eq) (keys_named m.entries) (distinct_now (keys_of m.entries) distinct))
      (to_map (λ (e : Bor (List ℕ) × Link). (e.0.now, e.1)) m.entries e among)

  table_all : (m : IndexMap (Bor (List ℕ)) Link S) (links : List Link) (f : List ℕ → List Place) → HoldPlaces m links f → (w : List ℕ) → 0 < length (f w) → Contains (texts_of m.entries) w
  table_all m links f h w some = by (link_at m w) refl (h w)
    where
      by : (o : Option Link) → link_at m w ≡ o → HasPlaces links o (f w) → Contains (texts_of m.entries) w
      by None e k = absurd (omega (arith, some, ap length k))
      by (Some l) e k =
          let c = Contains-from_lookup (λ x y e. (bytes_decides x y).0 e) w l (named m.entries) (lookup_named m.entries w ∙ e) in
          let o = from_map (λ (e : Bor (List ℕ) × Link). (e.0.now, e.1)) m.entries (w, l) c in
          subst (Contains (texts_of m.entries)) (ap (λ (p : List ℕ × Link). p.0) o.2) (to_map (λ (e : Bor (List ℕ) × Link). e.0.now) m.entries o.0 o.1)

  table_some : (m : IndexMap (Bor (List ℕ)) Link S) (links : List Link) (f : List ℕ → List Place) → IsDistinct same_text (keys_of m.entries) → HoldPlaces m links f → (w : List ℕ) → Contains (texts_of m.entries) w → 0 < length (f w)
  table_some m links f distinct h w among =
      let o = from_map (λ (e : Bor (List ℕ) × Link). e.0.now) m.entries w among in
      let linked : IsLinked links o.0.1 (f w) = subst (λ (u : List ℕ). IsLinked links o.0.1 (f u)) o.2 (subst (λ (q : Option Link). HasPlaces links q (f o.0.0.now)) (link_of_entry m distinct o.0 o.1) (h o.0.0.now)) in
      omega (arith, ap length linked.is)

  pub table_of_map : (lows : List (List ℕ)) (m n : IndexMap (Bor (List ℕ)) Link S) (links : List Link) (ws : List (List ℕ)) (rows : List (List Place)) → HoldPlaces m links (λ w. places_from w 0 lows)
      → IsPermutation m.entries n.entries → IsSorted by_text (keys_of n.entries) → IsDistinct same_text (keys_of n.entries) → ws ≡ texts_of n.entries
      → ((f : List ℕ → List Place) → HoldPlaces n links f → rows ≡ map f ws) → IsTableOf lows ws rows
  table_of_map lows m n links ws rows h same sorted distinct is each =
      let k = holds_reordered m n links (λ w. places_from w 0 lows) same distinct h in
      record {
        rising = subst IsRising (sym is) (texts_rise n.entries sorted distinct);
        each = each (λ w. places_from w 0 lows) k;
        all = λ w some. subst (λ l. Contains l w) (sym is) (table_all n links (λ w. places_from w 0 lows) k w some);
        some = λ w among. table_some n links (λ w. places_from w 0 lows) distinct k w (subst (λ l. Contains l w) is among);
      }

-- the first entries are listed
pub record Lists {S : Type 0} (m : IndexMap (Bor (List ℕ)) Link S) (links : List Link) (at : ℕ) (ws : List (List ℕ)) (rows : List (List Place)) : Type 0 where
  pub words : ws ≡ texts_of (take at m.entries)
  pub places : (f : List ℕ → List Place) → HoldPlaces m links f → rows ≡ map f ws

pub lists_none : {S : Type 0} (m : IndexMap (Bor (List ℕ)) Link S) (links : List Link) → Lists m links 0 [] []
lists_none m links = record { words = refl; places = λ f h. refl }

module _ {S : Type 0} {m : IndexMap (Bor (List ℕ)) Link S} {links : List Link} {at : ℕ} {ws : List (List ℕ)} {rows : List (List Place)} (l : Lists m links at ws rows) where
  -- the next entry is listed
  pub lists_next : (k : Bor (List ℕ)) (last : Link) (row : List Place) → slice_get m.entries at ≡ Some (k, last) → link_at m k.now ≡ Some last → IsLinked links last row → Lists m links (at + 1) (ws ++ k.now ∷ []) (rows ++ row ∷ [])
  lists_next k last row here found linked =
      let e : Bor (List ℕ) × Link = (k, last) in
      let within = slice_get_within m.entries at e here in
      let is : get_or m.entries at e ≡ e = sym (unwrap_or-slice_get m.entries at e) ∙ ap (λ (o : Option (Bor (List ℕ) × Link)). unwrap_or o e) here in
      let more : take (at + 1) m.entries ≡ take at m.entries ++ e ∷ [] = take_more m.entries at e within ∙ ap (λ (x : Bor (List ℕ) × Link). take at m.entries ++ x ∷ []) is in
      record {
        words = ap (λ l. l ++ k.now ∷ []) l.words ∙ sym (map-append (λ (x : Bor (List ℕ) × Link). x.0.now) (take at m.entries) (e ∷ [])) ∙ ap texts_of (sym more);
        places = λ f h.
            let same = linked_unique links last row (f k.now) linked (subst (λ (o : Option Link). HasPlaces links o (f k.now)) found (h k.now)) in
            (λ i. l.places f h i ++ same i ∷ []) ∙ sym (map-append f ws (k.now ∷ []));
      }

  pub lists_all : length m.entries ≤ at → ws ≡ texts_of m.entries
  lists_all end = l.words ∙ ap texts_of (take_all at m.entries end)
