-- Facts of each element of a list, and functions that are changed at one place.
use Rattle.std.proofs.Common.{◌≡◌, ◌≢◌, ℕ, zero, suc, ◌+◌, ◌<◌, ◌≤◌, cond, List, [], ◌∷◌, ◌++◌, map, length, set, refl, sym, ap, ◌∙◌, inl, inr, ◌⊎◌, ⊎_elim, subst, subst₂, arith, eq-eqb, ne_eqb}
use Rattle.std.specs.List.{range_with_len}
use mathlib.Core.Option.{some, some-injective, some-ne-none}
use Rattle.std.proofs.lemmas.List.{length-map}
use lib.ListN.{get_elem?}
use Rattle.atomic_table.proofs.Lists.{at_set, at_map}
use Rattle.larch_actions.specs.Actions.{put}
use Rattle.nub_rule.specs.Items.{Each}

at_within_of : {A : Type 0} (l : List A) (i : ℕ) (a : A) → get_elem? l i ≡ some a → i < length l
at_within_of [] i a e = absurd (some-ne-none a (sym e))
at_within_of (x ∷ xs) zero a e = omega arith
at_within_of (x ∷ xs) (suc i) a e = let r = at_within_of xs i a e in omega arith

module _ {A : Type 0} where
  append_nil : (xs : List A) → xs ++ [] ≡ xs
  append_nil [] = refl
  append_nil (x ∷ xs) = λ i. x ∷ append_nil xs i

  pub put-here : (f : ℕ → A) (k : ℕ) (x : A) → put f k x k ≡ x
  put-here f k x = ap (λ b. cond b x (f k)) (eq-eqb k k refl)

  pub put-else : (f : ℕ → A) (k j : ℕ) (x : A) → j ≢ k → put f k x j ≡ f j
  put-else f k j x ne = ap (λ b. cond b x (f j)) (ne_eqb j k ne)

  pub put-at : (f : ℕ → A) (k : ℕ) (x : A) (j : ℕ) → j ≡ k → put f k x j ≡ x
  put-at f k x j e = ap (put f k x) e ∙ put-here f k x

  pub each-set : (P Q : ℕ → A → Type 0) (xs : List A) (n : ℕ) (y : A) → Q n y → ((k : ℕ) (x : A) → k ≢ n → get_elem? xs k ≡ some x → P k x → Q k x) → Each P xs → Each Q (set xs n y)
  each-set P Q xs n y own others all k x at = ⊎_elim (λ (t : (k ≡ n) × (y ≡ x)). subst₂ Q (sym t.0) t.1 own) (λ (t : (k ≢ n) × (get_elem? xs k ≡ some x)). others k x t.0 t.1 (all k x t.1)) (at_set xs n k y x at)

  pub at_new : (l : List A) (a b : A) (j : ℕ) → get_elem? (l ++ a ∷ []) j ≡ some b → (get_elem? l j ≡ some b) ⊎ ((j ≡ length l) × (a ≡ b))
  at_new [] a b zero e = inr (refl, some-injective a b e)
  at_new [] a b (suc j) e = absurd (some-ne-none b (sym e))
  at_new (x ∷ xs) a b zero e = inl e
  at_new (x ∷ xs) a b (suc j) e = ⊎_elim (λ (t : get_elem? xs j ≡ some b). inl t) (λ (t : (j ≡ length xs) × (a ≡ b)). inr (ap suc t.0, t.1)) (at_new xs a b j e)

  pub at_within : (l : List A) (i : ℕ) (a : A) → get_elem? l i ≡ some a → i < length l
  at_within [] i a e = absurd (some-ne-none a (sym e))
  at_within (x ∷ xs) zero a e = omega arith
  at_within (x ∷ xs) (suc i) a e = let r = at_within xs i a e in omega arith

  pub at_below : (l : List A) (i : ℕ) → i < length l → (a : A) × (get_elem? l i ≡ some a)
  at_below [] i h = absurd (omega arith)
  at_below (x ∷ xs) zero h = (x, refl)
  at_below (x ∷ xs) (suc i) h = at_below xs i (omega arith)

  pub same_at : (l : List A) (i : ℕ) (a b : A) → get_elem? l i ≡ some a → get_elem? l i ≡ some b → a ≡ b
  same_at l i a b e f = some-injective a b (sym e ∙ f)

  pub each-snoc : (P : ℕ → A → Type 0) (xs zs : List A) (n : ℕ) (y : A) → zs ≡ xs ++ y ∷ [] → length xs ≡ n → P n y → Each P xs → Each P zs
  each-snoc P xs zs n y is long last all i x at = ⊎_elim (λ (t : get_elem? xs i ≡ some x). all i x t) (λ (t : (i ≡ length xs) × (y ≡ x)). subst₂ P (sym (t.0 ∙ long)) t.1 last)
      (at_new xs y x i (ap (λ l. get_elem? l i) (sym is) ∙ at))

  pub each-none : (P : ℕ → A → Type 0) (xs : List A) → xs ≡ [] → Each P xs
  each-none P xs none i x at = absurd (some-ne-none x (sym at ∙ ap (λ l. get_elem? l i) none))

  -- a list that was read to its end
  pub all_read : (all ys rest : List A) → all ≡ ys ++ rest → length rest ≡ 0 → ys ≡ all
  all_read all ys [] is end = sym (is ∙ append_nil ys)
  all_read all ys (x ∷ xs) is end = absurd (omega arith)

  at_next : (xs ys : List A) (y : A) → get_elem? (xs ++ y ∷ ys) (length xs) ≡ some y
  at_next [] ys y = refl
  at_next (x ∷ xs) ys y = at_next xs ys y

  pub at_middle : (xs ys zs : List A) (y : A) → zs ≡ xs ++ y ∷ ys → get_elem? zs (length xs) ≡ some y
  at_middle xs ys zs y e = ap (λ l. get_elem? l (length xs)) e ∙ at_next xs ys y

  pub none_past : (l : List A) (i : ℕ) (a : A) → length l ≤ i → get_elem? l i ≡ some a → ⊥
  none_past l i a h e = let t = at_within l i a e in omega arith

  pub same_elements : (xs ys : List A) → length xs ≡ length ys → ((i : ℕ) (x : A) → get_elem? xs i ≡ some x → get_elem? ys i ≡ some x) → xs ≡ ys
  same_elements [] [] e h = refl
  same_elements [] (y ∷ ys) e h = absurd (omega arith)
  same_elements (x ∷ xs) [] e h = absurd (omega arith)
  same_elements (x ∷ xs) (y ∷ ys) e h = λ k. sym (some-injective y x (h 0 x refl)) k ∷ same_elements xs ys (omega arith) (λ i a at. h (suc i) a at) k

  pub each-map : {B : Type 0} (f : A → B) (P : ℕ → B → Type 0) (xs : List A) → Each (λ n x. P n (f x)) xs → Each P (map f xs)
  each-map f P xs all n y at = let t = at_below xs n (subst (λ (z : ℕ). n < z) (length-map xs f) (at_within_of (map f xs) n y at)) in
      subst (P n) (some-injective (f t.0) y (sym (at_map f xs n t.0 t.1) ∙ at)) (all n t.0 t.1)

  pub at_firsts : (f : ℕ → A) (a n i : ℕ) → i < n → get_elem? (map f (range_with_len a n)) i ≡ some (f (a + i))
  at_firsts f a zero i h = absurd (omega arith)
  at_firsts f a (suc n) zero h = let e : a ≡ a + 0 = omega arith in ap (λ (z : ℕ). some (f z)) e
  at_firsts f a (suc n) (suc i) h = let e : (a + 1) + i ≡ a + suc i = omega arith in at_firsts f (a + 1) n i (omega arith) ∙ ap (λ (z : ℕ). some (f z)) e
