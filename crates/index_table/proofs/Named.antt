-- Paths with their numbers, before and after they are sorted.
use Rattle.std.proofs.Common.{◌≡◌, ℕ, ◌<◌, ◌≤◌, true, false, List, [], ◌∷◌, ◌++◌, length, get_or, map, arith, refl, sym, ap, subst, ◌∙◌, ⊎_elim, inl, inr, Some, IsPermutation, String, nat_cmp, is_lt, position, All}
use Rattle.std.specs.List.{Contains, IsDistinct}
use Rattle.std.specs.Str.{bytes_eq}
use Rattle.std.specs.String.{string_bytes, string_eq, string_cmp, string_cmp_total}
use Rattle.std.specs.Map.{keys_of}
use Rattle.std.specs.declared.cmp.Ordering.{Ordering}
use Rattle.std.specs.declared.cmp.Ordering.TheVariants.{Less, Equal, Greater}
use Rattle.std.specs.Cmp.Lexicographic.{slice_cmp, bytes_decides}
use Rattle.std.specs.List.Sorted.{IsSorted}
use Rattle.std.proofs.lemmas.Bool.{cases_lt}
use Rattle.std.proofs.lemmas.List.{length-map, get_or-map, get_or_default, get_or_push, get_or_append_left, map-append, length_push}
use Rattle.std.proofs.lemmas.List.Elements.{Contains-get_or}
use Rattle.std.proofs.lemmas.List.Quantifiers.{position-Some}
use Rattle.std.proofs.lemmas.List.Sorted.{sorted_far, ranks_by, IsPermutation-sym, IsPermutation-map, Contains-permutation, length_permutation}
use Rattle.std.proofs.lemmas.Map.Keys.{apart_from_distinct}
use Rattle.word_index.specs.Index.{IsBelow, IsRising}
use Rattle.word_index.proofs.Below.{below_back, same_texts}
use Rattle.index_table.specs.Paths.{texts, values, AreNumbered, Grows, AreRanks, IsRanked}

-- texts in order that differ rise
below_apart : (u v : List ℕ) → is_lt (slice_cmp nat_cmp v u) ≡ false → bytes_eq u v ≡ false → IsBelow u v
below_apart u v later apart = by (slice_cmp nat_cmp v u) refl later
  where
    by : (o : Ordering) → slice_cmp nat_cmp v u ≡ o → is_lt o ≡ false → IsBelow u v
    by Less e h = cc
    by Equal e h = let same = (bytes_decides u v).1 (sym (same_texts v u e)) in cc
    by Greater e h = below_back v u e

module _ {A : Type 0} where
  pub value_at : (es : List (String A × ℕ)) (k : ℕ) (d : String A × ℕ) → k < length es → get_or (values es) k 0 ≡ (get_or es k d).1
  value_at es k d h = get_or-map (λ (e : String A × ℕ). e.1) es k d 0 h

  pub text_at : (es : List (String A × ℕ)) (k : ℕ) (d : String A × ℕ) → k < length es → get_or (texts es) k [] ≡ string_bytes (get_or es k d).0
  text_at es k d h = get_or-map (λ (e : String A × ℕ). string_bytes e.0) es k d [] h

  keys_rise : (ks : List (String A)) → IsSorted string_cmp ks → IsDistinct string_eq ks → IsRising (map string_bytes ks)
  keys_rise [] sorted distinct = λ i j d _ below. absurd (omega (arith, below))
  keys_rise (k ∷ rest) sorted distinct = λ i j d before below.
      let ks = k ∷ rest in
      let there : j < length ks = omega (arith, below, length-map ks string_bytes) in
      let here : i < length ks = omega (arith, before, there) in
      let later = sorted_far (λ a b. is_lt (string_cmp a b)) (ranks_by string_cmp_total (λ a. a)) ks sorted i j k (omega (arith, before)) there in
      let apart = apart_from_distinct string_eq ks i j k distinct before there in
      rw (get_or-map string_bytes ks i k d here, get_or-map string_bytes ks j k d there) (below_apart (string_bytes (get_or ks i k)) (string_bytes (get_or ks j k)) later apart)

  pub texts_keys : (es : List (String A × ℕ)) → map string_bytes (keys_of es) ≡ texts es
  texts_keys [] = refl
  texts_keys (e ∷ es) = ap (λ l. string_bytes e.0 ∷ l) (texts_keys es)

  -- the number of an entry is its place
  place_of : (es : List (String A × ℕ)) → AreNumbered es → (e : String A × ℕ) → Contains es e → get_or es e.1 e ≡ e
  place_of es numbered e h =
      let at : h.0 ≡ e.1 = sym (numbered h.0 h.1) ∙ value_at es h.0 e h.1 ∙ ap (λ (x : String A × ℕ). x.1) h.2 in
      subst (λ n. get_or es n e ≡ e) at h.2

  pub record IsFound (old new : List (String A × ℕ)) (n q : ℕ) : Type 0 where
    pub within : q < length new
    pub same : get_or (texts new) q [] ≡ get_or (texts old) n []

  pub found_by : (old new : List (String A × ℕ)) → AreNumbered old → IsPermutation old new → (ranks : List ℕ) → AreRanks (values new) ranks → (n : ℕ) → n < length old → IsFound old new n (get_or ranks n 0)
  found_by [] new numbered same ranks are n h = absurd (omega (arith, h))
  found_by (d ∷ rest) new numbered same ranks are n h =
      let old = d ∷ rest in
      let e = get_or old n d in
      let number : e.1 ≡ n = sym (value_at old n d h) ∙ numbered n h in
      let in_new = Contains-permutation old new e same (Contains-get_or old n d h) in
      let at : get_or (values new) in_new.0 0 ≡ n = value_at new in_new.0 e in_new.1 ∙ ap (λ (x : String A × ℕ). x.1) in_new.2 ∙ number in
      let many : length (values new) ≡ length new = length-map new (λ (e : String A × ℕ). e.1) in
      let r = are in_new.0 (omega (arith, in_new.1, many)) in
      let low : get_or ranks n 0 < length (values new) = subst (λ v. get_or ranks v 0 < length (values new)) at r.0 in
      let back : get_or (values new) (get_or ranks n 0) 0 ≡ n = subst (λ v. get_or (values new) (get_or ranks v 0) 0 ≡ v) at r.1 in
      let q = get_or ranks n 0 in
      let inside : q < length new = omega (arith, low, many) in
      let f = get_or new q e in
      let f_number : f.1 ≡ n = sym (value_at new q e inside) ∙ back in
      let f_old = Contains-permutation new old f (IsPermutation-sym old new same) (Contains-get_or new q e inside) in
      let f_at : get_or old n f ≡ f = subst (λ m. get_or old m f ≡ f) f_number (place_of old numbered f f_old) in
      let f_is : e ≡ f = get_or_default old n d f h ∙ f_at in
      record { within = inside; same = text_at new q e inside ∙ ap (λ (x : String A × ℕ). string_bytes x.0) (sym f_is) ∙ sym (text_at old n d h) }

  pub ranked : (old new : List (String A × ℕ)) → AreNumbered old → IsPermutation old new → IsSorted string_cmp (keys_of new) → IsDistinct string_eq (keys_of new) → (ranks : List ℕ) → AreRanks (values new) ranks
      → (ns ms : List ℕ) → All (λ n. n < length old) ns → ms ≡ map (λ n. get_or ranks n 0) ns → IsRanked old new ns ms
  ranked old new numbered same sorted distinct ranks are ns ms within is =
      let to = IsPermutation-map (λ (e : String A × ℕ). string_bytes e.0) old new same in
      record {
        rising = subst IsRising (texts_keys new) (keys_rise (keys_of new) sorted distinct);
        many = length_permutation old new same;
        ranks = ranks;
        numbers = is;
        within = λ k d h. (found_by old new numbered same ranks are (get_or ns k d) (within k d h)).within;
        same = λ k d h. (found_by old new numbered same ranks are (get_or ns k d) (within k d h)).same;
        members = λ p. (Contains-permutation (texts new) (texts old) p (IsPermutation-sym (texts old) (texts new) to), Contains-permutation (texts old) (texts new) p to);
      }

  -- a path that is there
  pub grows_there : (es : List (String A × ℕ)) (path : List ℕ) → AreNumbered es → (at n : ℕ) → Some at ≡ position (λ k. bytes_eq path (string_bytes k)) (keys_of es) → n ≡ at → Grows es es path n
  grows_there [] path numbered at n found is = cc
  grows_there (d ∷ rest) path numbered at n found is =
      let es = d ∷ rest in
      let h = position-Some (λ (k : String A). bytes_eq path (string_bytes k)) (keys_of es) at d.0 (sym found) in
      let within : at < length es = omega (arith, h.0, length-map es (λ (e : String A × ℕ). e.0)) in
      let key : get_or (keys_of es) at d.0 ≡ (get_or es at d).0 = get_or-map (λ (e : String A × ℕ). e.0) es at d d.0 within in
      let same : path ≡ string_bytes (get_or es at d).0 = (bytes_decides path (string_bytes (get_or es at d).0)).0 (subst (λ k. bytes_eq path (string_bytes k) ≡ true) key h.1) in
      record { numbered = numbered; within = omega (arith, is, within); here = ap (λ m. get_or (texts es) m []) is ∙ text_at es at d within ∙ sym same; rest = inl refl }

  -- a path that is added
  pub grows_new : (es new : List (String A × ℕ)) (path : List ℕ) → AreNumbered es → (key : String A) → string_bytes key ≡ path → (n : ℕ) → n ≡ length es → new ≡ es ++ (key, n) ∷ [] → Grows es new path n
  grows_new es new path numbered key text n is made = rw made (record {
    numbered = λ k below.
        let many : length (values es) ≡ length es = length-map es (λ (e : String A × ℕ). e.1) in
        let all : values (es ++ (key, n) ∷ []) ≡ values es ++ n ∷ [] = map-append (λ (e : String A × ℕ). e.1) es ((key, n) ∷ []) in
        ap (λ l. get_or l k 0) all ∙ ⊎_elim
        (λ (lt : k < length es). get_or_append_left (values es) (n ∷ []) 0 k (omega (arith, lt, many)) ∙ numbered k lt)
        (λ (ge : length es ≤ k). let last : length (values es) ≡ k = omega (arith, many, below, length_push es (key, n)) in get_or_push (values es) n 0 k last ∙ omega (arith, is, last, many))
        (cases_lt k (length es));
    within = omega (arith, is, length_push es (key, n));
    here =
        let many : length (texts es) ≡ n = length-map es (λ (e : String A × ℕ). string_bytes e.0) ∙ sym is in
        ap (λ l. get_or l n []) (map-append (λ (e : String A × ℕ). string_bytes e.0) es ((key, n) ∷ [])) ∙ get_or_push (texts es) (string_bytes key) [] n many ∙ text;
    rest = inr (map-append (λ (e : String A × ℕ). string_bytes e.0) es ((key, n) ∷ []) ∙ ap (λ t. texts es ++ t ∷ []) text, is);
  })
