-- The threads of a list by their numbers.
use Rattle.std.proofs.Common.{◌≡◌, ◌≢◌, ℕ, zero, suc, ◌+◌, ◌<◌, cond, List, [], ◌∷◌, ◌++◌, length, get_or, refl, sym, ap, ◌∙◌, arith, length-append, eq-eqb, ne_eqb, Some}
use Rattle.std.specs.List.{remove}
use mathlib.Core.Logic.{dite}
use mathlib.Core.Option.{some, some-injective, some-ne-none}
use native.Mathlib.Decide.{ℕ_discrete}
use lib.ListN.{get_elem?}
use Rattle.larch_actions.specs.declared.event.Life.TheVariants.{Unborn, Live, Ended}
use Rattle.nub_rule.specs.Forks.{AreAll, IsOver, IsUnborn, MayComeBack, in_order, with_number}
use Rattle.nub_rule.specs.Items.{Each}
use Rattle.nub_rule.specs.Known.{Known}
use Rattle.atomic_table.proofs.Lists.{at_longer}
use Rattle.nub_rule.proofs.Each.{at_within, same_at}
use Rattle.nub_rule.proofs.Ends.{none-got}

ended-no-longer : Ended ≡ Live → ⊥
ended-no-longer e = cc

unborn-not-yet : Unborn ≡ Live → ⊥
unborn-not-yet e = cc

nil-no-cons : {A : Type 0} (x : A) (xs : List A) → x ∷ xs ≡ [] → ⊥
nil-no-cons x xs e = cc

same-head : {A : Type 0} (x y : A) (xs ys : List A) → x ∷ xs ≡ y ∷ ys → x ≡ y
same-head x y xs ys e = cc

same-tail : {A : Type 0} (x y : A) (xs ys : List A) → x ∷ xs ≡ y ∷ ys → xs ≡ ys
same-tail x y xs ys e = cc

pub place-some : (i j : ℕ) → Some i ≡ Some j → i ≡ j
place-some i j e = cc

module _ {A : Type 0} where
  pub at-or : (xs : List A) (i : ℕ) (d : A) → i < length xs → get_elem? xs i ≡ some (get_or xs i d)
  at-or [] i d low = absurd (omega arith)
  at-or (x ∷ xs) zero d low = refl
  at-or (x ∷ xs) (suc i) d low = at-or xs i d (omega arith)

  -- the element that was read at the place
  pub read-at : (xs : List A) (i : ℕ) (x : A) → i < length xs → x ≡ get_or xs i x → get_elem? xs i ≡ some x
  read-at xs i x low is = at-or xs i x low ∙ ap some (sym is)

  pub or-at : (xs : List A) (i : ℕ) (x d : A) → get_elem? xs i ≡ some x → get_or xs i d ≡ x
  or-at xs i x d at = some-injective (get_or xs i d) x (sym (at-or xs i d (at_within xs i x at)) ∙ at)

module _ {T H W : Type 0} where
  -- one more place was looked at
  pub looked-more : (n i : ℕ) (ks : List (Known T H W)) (k : Known T H W) → get_elem? ks i ≡ some k → k.number ≢ n → ((j : ℕ) (x : Known T H W) → j < i → get_elem? ks j ≡ some x → x.number ≢ n) → (j : ℕ) (x : Known T H W) → j < i + 1 → get_elem? ks j ≡ some x → x.number ≢ n
  looked-more n i ks k at ne before j x low there = dite (ℕ_discrete j i)
      (λ e z. ne (ap (λ (y : Known T H W). y.number) (same_at ks i k x at ((λ h. get_elem? ks (sym e h)) ∙ there)) ∙ z))
      (λ other. before j x (omega arith) there)

  with-here : (n : ℕ) (k : Known T H W) (ks : List (Known T H W)) → k.number ≡ n → with_number n (k ∷ ks) ≡ k ∷ with_number n ks
  with-here n k ks is = ap (λ b. cond b (k ∷ with_number n ks) (with_number n ks)) (eq-eqb k.number n is)

  with-else : (n : ℕ) (k : Known T H W) (ks : List (Known T H W)) → k.number ≢ n → with_number n (k ∷ ks) ≡ with_number n ks
  with-else n k ks ne = ap (λ b. cond b (k ∷ with_number n ks) (with_number n ks)) (ne_eqb k.number n ne)

  -- of two lists, those of the first come first
  pub with-both : (n : ℕ) (ks js : List (Known T H W)) → with_number n (ks ++ js) ≡ with_number n ks ++ with_number n js
  with-both n [] js = refl
  with-both n (k ∷ ks) js = dite (ℕ_discrete k.number n)
      (λ is. with-here n k (ks ++ js) is ∙ (ap (λ l. k ∷ l) (with-both n ks js) ∙ ap (λ l. l ++ with_number n js) (sym (with-here n k ks is))))
      (λ ne. with-else n k (ks ++ js) ne ∙ (with-both n ks js ∙ ap (λ l. l ++ with_number n js) (sym (with-else n k ks ne))))

  -- one of another number was taken out
  pub with-removed : (n : ℕ) (ks : List (Known T H W)) (i : ℕ) (k : Known T H W) → get_elem? ks i ≡ some k → k.number ≢ n → with_number n (remove ks i) ≡ with_number n ks
  with-removed n [] i k at ne = absurd (some-ne-none k (sym at))
  with-removed n (x ∷ xs) zero k at ne = sym (with-else n x xs (λ e. ne (ap (λ (z : Known T H W). z.number) (sym (some-injective x k at)) ∙ e)))
  with-removed n (x ∷ xs) (suc i) k at ne = dite (ℕ_discrete x.number n)
      (λ is. with-here n x (remove xs i) is ∙ (ap (λ l. x ∷ l) (with-removed n xs i k at ne) ∙ sym (with-here n x xs is)))
      (λ other. with-else n x (remove xs i) other ∙ (with-removed n xs i k at ne ∙ sym (with-else n x xs other)))

  -- who stands in the list is among those with its number
  some-with : (n : ℕ) (ks : List (Known T H W)) (i : ℕ) (k : Known T H W) → get_elem? ks i ≡ some k → k.number ≡ n → with_number n ks ≡ [] → ⊥
  some-with n [] i k at is none = some-ne-none k (sym at)
  some-with n (x ∷ xs) zero k at is none = nil-no-cons x (with_number n xs) (sym (with-here n x xs (ap (λ (z : Known T H W). z.number) (some-injective x k at) ∙ is)) ∙ none)
  some-with n (x ∷ xs) (suc i) k at is none = dite (ℕ_discrete x.number n)
      (λ here. nil-no-cons x (with_number n xs) (sym (with-here n x xs here) ∙ none))
      (λ other. some-with n xs i k at is (sym (with-else n x xs other) ∙ none))

  -- and is the one, where there is one
  pub the-one : (n : ℕ) (ks : List (Known T H W)) (i : ℕ) (k one : Known T H W) → get_elem? ks i ≡ some k → k.number ≡ n → with_number n ks ≡ one ∷ [] → k ≡ one
  the-one n [] i k one at is there = absurd (some-ne-none k (sym at))
  the-one n (x ∷ xs) zero k one at is there = let e = some-injective x k at in sym e ∙ same-head x one (with_number n xs) [] (sym (with-here n x xs (ap (λ (z : Known T H W). z.number) e ∙ is)) ∙ there)
  the-one n (x ∷ xs) (suc i) k one at is there = dite (ℕ_discrete x.number n)
      (λ here. absurd (some-with n xs i k at is (same-tail x one (with_number n xs) [] (sym (with-here n x xs here) ∙ there))))
      (λ other. the-one n xs i k one at is (sym (with-else n x xs other) ∙ there))

  -- the one stands in the list and has the number
  pub one-there : (n : ℕ) (ks : List (Known T H W)) (one : Known T H W) → with_number n ks ≡ one ∷ [] → (i : ℕ) × (get_elem? ks i ≡ some one) × (one.number ≡ n)
  one-there n [] one there = absurd (nil-no-cons one [] (sym there))
  one-there n (x ∷ xs) one there = dite (ℕ_discrete x.number n)
      (λ here. let e = same-head x one (with_number n xs) [] (sym (with-here n x xs here) ∙ there) in (0, ap some e, ap (λ (z : Known T H W). z.number) (sym e) ∙ here))
      (λ other. let r = one-there n xs one (sym (with-else n x xs other) ∙ there) in (suc r.0, r.1, r.2))

  -- of two lists: the one that is found in the first, or in the second where the first has none
  pub first-one : (n : ℕ) (ks js : List (Known T H W)) (i : ℕ) (k found one : Known T H W) → get_elem? ks i ≡ some k → k.number ≡ n → found ≡ k → with_number n (ks ++ js) ≡ one ∷ [] → with_number n (ks ++ js) ≡ found ∷ []
  first-one n ks js i k found one at is same there = there ∙ ap (λ (z : Known T H W). z ∷ []) (sym (the-one n (ks ++ js) i k one (at_longer ks js i k at) is there) ∙ sym same)

  pub second-one : (n : ℕ) (ks js : List (Known T H W)) (i : ℕ) (k found one : Known T H W) → with_number n ks ≡ [] → get_elem? js i ≡ some k → k.number ≡ n → found ≡ k → with_number n (ks ++ js) ≡ one ∷ [] → with_number n (ks ++ js) ≡ found ∷ []
  second-one n ks js i k found one none at is same there =
      let following : with_number n js ≡ one ∷ [] = ap (λ l. l ++ with_number n js) (sym none) ∙ (sym (with-both n ks js) ∙ there) in
      there ∙ ap (λ (z : Known T H W). z ∷ []) (sym (the-one n js i k one at is following) ∙ sym same)

  pub first-removed : (n : ℕ) (ks js new : List (Known T H W)) (i : ℕ) (k : Known T H W) → new ≡ remove ks i → get_elem? ks i ≡ some k → k.number ≢ n → with_number n (new ++ js) ≡ with_number n (ks ++ js)
  first-removed n ks js new i k is at ne = with-both n new js ∙ (ap (λ l. l ++ with_number n js) (ap (with_number n) is ∙ with-removed n ks i k at ne) ∙ sym (with-both n ks js))

  pub second-removed : (n : ℕ) (ks js new : List (Known T H W)) (i : ℕ) (k : Known T H W) → new ≡ remove js i → get_elem? js i ≡ some k → k.number ≢ n → with_number n (ks ++ new) ≡ with_number n (ks ++ js)
  second-removed n ks js new i k is at ne = with-both n ks new ∙ (ap (λ l. with_number n ks ++ l) (ap (with_number n) is ∙ with-removed n js i k at ne) ∙ sym (with-both n ks js))

  pub nowhere : (n : ℕ) (ks js : List (Known T H W)) (one : Known T H W) → with_number n ks ≡ [] → with_number n js ≡ [] → with_number n (ks ++ js) ≡ one ∷ [] → ⊥
  nowhere n ks js one none none' there = nil-no-cons one [] (sym there ∙ (with-both n ks js ∙ (λ i. none i ++ none' i)))

  -- nobody with the number is among the first of a list
  pub none-yet : (n : ℕ) (ks : List (Known T H W)) → Each (λ _ k. k.number ≢ n) ks → with_number n ks ≡ []
  none-yet n [] none = refl
  none-yet n (k ∷ ks) none = with-else n k ks (none 0 k refl) ∙ none-yet n ks (λ i. none (suc i))

  pub in-order-more : (n : ℕ) (ks : List (Known T H W)) (one : Known T H W) → with_number n ks ≡ one ∷ [] → in_order (n + 1) ks ≡ in_order n ks ++ one ∷ []
  in-order-more n ks one there = let e : n + 1 ≡ suc n = omega arith in ap (λ (z : ℕ). in_order z ks) e ∙ ap (λ l. in_order n ks ++ l) there

  pub in-order-long : (n : ℕ) (ks : List (Known T H W)) → AreAll n ks → length (in_order n ks) ≡ n
  in-order-long zero ks all = refl
  in-order-long (suc n) ks all = let one = all n (omega arith) in
      length-append (in_order n ks) (with_number n ks) ∙ (let r = in-order-long n ks (λ i low. all i (omega arith)) in let e = ap length one.1 in omega arith)

  pub over-back : (k : Known T H W) → IsOver k → MayComeBack k
  over-back k o = record { life = λ e. ended-no-longer (sym o.life ∙ e); none = o.none; spin = o.spin; wait = o.wait; child = o.child }

  pub unborn-back : (begin : W → ℕ → H) (k : Known T H W) → IsUnborn begin k → MayComeBack k
  unborn-back begin k u = record {
    life = λ e. unborn-not-yet (sym (ap (λ (z : Known T H W). z.life) u.is) ∙ e);
    none = λ m x h. none-got 64 m x (ap (λ (z : Known T H W). get_elem? z.held m) (sym u.is) ∙ h);
    spin = ap (λ (z : Known T H W). z.spin) u.is;
    wait = ap (λ (z : Known T H W). z.wait) u.is;
    child = ap (λ (z : Known T H W). z.child) u.is;
  }
