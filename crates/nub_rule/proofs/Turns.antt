-- Slots that a seat holds, when they are turned.
use Rattle.std.proofs.Common.{true, false, ◌≡◌, ◌≢◌, ℕ, ◌+◌, ◌<◌, cond, eqb, List, [], ◌∷◌, ◌++◌, map, refl, sym, ap, ◌∙◌, subst, arith, Some, None, eq-eqb, ne_eqb}
use mathlib.Core.Logic.{dite}
use native.Mathlib.Decide.{ℕ_discrete}
use mathlib.Core.List.{map-append}
use Rattle.atomic_table.specs.Table.{turned, rest}
use Rattle.nub_rule.specs.Slots.{find, place, IsDistinct, Below, turned_hand, starts_with}

module _ {S : Type 0} where
  pub find-here : (k : ℕ) (x : ℕ × S) (xs : List (ℕ × S)) → x.0 ≡ k → find k (x ∷ xs) ≡ Some x.1
  find-here k x xs e = ap (λ b. cond b (Some x.1) (find k xs)) (eq-eqb x.0 k e)

  pub find-else : (k : ℕ) (x : ℕ × S) (xs : List (ℕ × S)) → x.0 ≢ k → find k (x ∷ xs) ≡ find k xs
  find-else k x xs ne = ap (λ b. cond b (Some x.1) (find k xs)) (ne_eqb x.0 k ne)

  pub find-snoc : (k : ℕ) (xs : List (ℕ × S)) (y : ℕ × S) → y.0 ≢ k → find k (xs ++ y ∷ []) ≡ find k xs
  find-snoc k [] y ne = find-else k y [] ne
  find-snoc k (x ∷ xs) y ne = ap (λ o. cond (eqb x.0 k) (Some x.1) o) (find-snoc k xs y ne)

  pub find-last : (k : ℕ) (xs : List (ℕ × S)) (y : ℕ × S) → y.0 ≡ k → find k xs ≡ None → find k (xs ++ y ∷ []) ≡ Some y.1
  find-last k [] y e none_there = find-here k y [] e
  find-last k (x ∷ xs) y e none_there = dite (ℕ_discrete x.0 k)
      (λ is. let t : Some x.1 ≡ None = sym (find-here k x xs is) ∙ none_there in absurd cc)
      (λ ne. find-else k x (xs ++ y ∷ []) ne ∙ find-last k xs y e (sym (find-else k x xs ne) ∙ none_there))

  pub place-snoc : (k : ℕ) (xs : List (ℕ × S)) (y : ℕ × S) (s : S) → find k xs ≡ Some s → place k (xs ++ y ∷ []) ≡ place k xs
  place-snoc k [] y s e = absurd cc
  place-snoc k (x ∷ xs) y s e = dite (ℕ_discrete x.0 k)
      (λ is. ap (λ b. cond b 0 (1 + place k (xs ++ y ∷ []))) (eq-eqb x.0 k is) ∙ sym (ap (λ b. cond b 0 (1 + place k xs)) (eq-eqb x.0 k is)))
      (λ ne. ap (λ (n : ℕ). cond (eqb x.0 k) 0 (1 + n)) (place-snoc k xs y s (sym (find-else k x xs ne) ∙ e)))

  -- a turn that brings k nearer
  pub turns_find : (k : ℕ) (xs : List (ℕ × S)) → IsDistinct xs → find k (turned xs) ≡ find k xs
  turns_find k [] d = refl
  turns_find k (x ∷ xs) d = dite (ℕ_discrete x.0 k)
      (λ is. find-last k xs x is (subst (λ (z : ℕ). find z xs ≡ None) is d.0) ∙ sym (find-here k x xs is))
      (λ ne. find-snoc k xs x ne ∙ sym (find-else k x xs ne))

  distinct-snoc : (xs : List (ℕ × S)) (y : ℕ × S) → find y.0 xs ≡ None → IsDistinct xs → IsDistinct (xs ++ y ∷ [])
  distinct-snoc [] y none_there d = (refl, tt)
  distinct-snoc (x ∷ xs) y none_there d = let ne : x.0 ≢ y.0 = λ e. let t : Some x.1 ≡ None = sym (find-here y.0 x xs e) ∙ none_there in absurd cc in
      (find-snoc x.0 xs y (λ e. ne (sym e)) ∙ d.0, distinct-snoc xs y (sym (find-else y.0 x xs ne) ∙ none_there) d.1)

  pub turns_distinct : (xs : List (ℕ × S)) → IsDistinct xs → IsDistinct (turned xs)
  turns_distinct [] d = tt
  turns_distinct (x ∷ xs) d = distinct-snoc xs x d.0 d.1

  pub turns_nearer : (k : ℕ) (x : ℕ × S) (xs : List (ℕ × S)) (s : S) → x.0 ≢ k → find k (x ∷ xs) ≡ Some s → place k (turned (x ∷ xs)) < place k (x ∷ xs)
  turns_nearer k x xs s ne e = let p = place-snoc k xs x s (sym (find-else k x xs ne) ∙ e) in let q : place k (x ∷ xs) ≡ 1 + place k xs = ap (λ b. cond b 0 (1 + place k xs)) (ne_eqb x.0 k ne) in omega arith

  abbrev pub keys : List (ℕ × S) → List ℕ
  keys = map (λ x. x.0)

  pub first_of : (k : ℕ) (xs : List (ℕ × S)) (s : S) (ks : List ℕ) → keys xs ≡ k ∷ ks → find k xs ≡ Some s → xs ≡ (k, s) ∷ rest xs
  first_of k [] s ks e f = absurd cc
  first_of k (x ∷ xs) s ks e f = let same : x.0 ≡ k = cc in let t : Some x.1 ≡ Some s = sym (find-here k x xs same) ∙ f in let u : x.1 ≡ s = cc in λ i. (same i, u i) ∷ xs

  pub nearer : (k : ℕ) (xs ys : List (ℕ × S)) (s : S) (hand : List ℕ) → ys ≡ turned xs → keys xs ≡ hand → starts_with hand k ≡ false → find k xs ≡ Some s → place k ys < place k xs
  nearer k [] ys s hand e is ne f = absurd cc
  nearer k (x ∷ xs) ys s hand e is ne f = subst (λ (l : List (ℕ × S)). place k l < place k (x ∷ xs)) (sym e) (turns_nearer k x xs s (λ z. let a : eqb x.0 k ≡ false = ap (λ l. starts_with l k) is ∙ ne in let b = eq-eqb x.0 k z in absurd (let c : true ≡ false = sym b ∙ a in cc)) f)

  pub keys_turned : (xs ys : List (ℕ × S)) (hand : List ℕ) → ys ≡ turned xs → keys xs ≡ hand → keys ys ≡ turned_hand hand
  keys_turned [] ys hand e is = ap keys e ∙ ap turned_hand is
  keys_turned (x ∷ xs) ys hand e is = ap keys e ∙ (map-append (λ (z : ℕ × S). z.0) xs (x ∷ []) ∙ ap turned_hand is)

  -- the slot that the hand begins with
  pub first_by : (k : ℕ) (xs : List (ℕ × S)) (s : S) (hand : List ℕ) → keys xs ≡ hand → starts_with hand k ≡ true → find k xs ≡ Some s → xs ≡ (k, s) ∷ rest xs
  first_by k [] s hand e is f = absurd cc
  first_by k (x ∷ xs) s hand e is f = first_of k (x ∷ xs) s (keys xs) (let a : eqb x.0 k ≡ true = ap (λ l. starts_with l k) e ∙ is in dite (ℕ_discrete x.0 k) (λ z. (λ i. z i ∷ keys xs)) (λ ne. let c : true ≡ false = sym a ∙ ne_eqb x.0 k ne in absurd cc)) f

  below-snoc : (n : ℕ) (xs : List (ℕ × S)) (y : ℕ × S) → y.0 < n → Below n xs → Below n (xs ++ y ∷ [])
  below-snoc n [] y h low = (h, tt)
  below-snoc n (x ∷ xs) y h low = (low.0, below-snoc n xs y h low.1)

  pub turns_below : (n : ℕ) (xs : List (ℕ × S)) → Below n xs → Below n (turned xs)
  turns_below n [] low = tt
  turns_below n (x ∷ xs) low = below-snoc n xs x low.0 low.1
