-- Threads of a list by their numbers, and a number summed over them.
use Rattle.std.proofs.Common.{◌≡◌, Bool, true, false, cond, eqb, ltb, ℕ, zero, suc, ◌+◌, ◌<◌, List, [], ◌∷◌, ◌++◌, length, take, ◌≤◌, arith, sym, ap, ◌∙◌, refl, ◌≢◌, add-one, eq-eqb, ne_eqb}
use Rattle.std.specs.List.{All}
use Rattle.std.proofs.lemmas.Bool.{lt-ltb}
use Rattle.std.proofs.lemmas.Bool.Decides.{nat_tests}
use Rattle.std.proofs.lemmas.List.Elements.{All-head, All-tail}
use Rattle.nub_rule.specs.Forks.{in_order, with_number}
use Rattle.nub_rule.specs.Items.{Each}
use Rattle.nub_rule.specs.Known.{Known}
use Rattle.nub.specs.Totals.{is_number, times, total}
use mathlib.Core.Option.{some, some-injective, some-ne-none}
use lib.ListN.{get_elem?}

-- of two lists
pub total_both : {A : Type 0} (f : A → ℕ) (xs ys : List A) → total f (xs ++ ys) ≡ total f xs + total f ys
total_both f [] ys = omega arith
total_both f (x ∷ xs) ys = let h = total_both f xs ys in omega arith

next-below : (a n x : ℕ) → cond (ltb a (suc n)) x 0 ≡ cond (ltb a n) x 0 + cond (eqb a n) x 0
next-below a n x = grind (arith, nat_tests)

never-below : (a x : ℕ) → cond (ltb a 0) x 0 ≡ 0
never-below a x = grind (arith, nat_tests)

module _ {T H W : Type 0} (f : Known T H W → ℕ) where
  step-with : (b : Bool) (k : Known T H W) (ks : List (Known T H W)) (n : ℕ) → total f ks ≡ n → total f (cond b (k ∷ ks) ks) ≡ cond b (f k) 0 + n
  step-with true k ks n e = ap (λ m. f k + m) e
  step-with false k ks n e = omega arith

  total-with : (n : ℕ) (ks : List (Known T H W)) → total f (with_number n ks) ≡ total (λ k. cond (eqb k.number n) (f k) 0) ks
  total-with n [] = refl
  total-with n (k ∷ ks) = step-with (eqb k.number n) k (with_number n ks) (total (λ k. cond (eqb k.number n) (f k) 0) ks) (total-with n ks)

  total-next : (n : ℕ) (ks : List (Known T H W)) → total (λ k. cond (ltb k.number (suc n)) (f k) 0) ks ≡ total (λ k. cond (ltb k.number n) (f k) 0) ks + total (λ k. cond (eqb k.number n) (f k) 0) ks
  total-next n [] = refl
  total-next n (k ∷ ks) = let a = next-below k.number n (f k) in let b = total-next n ks in omega arith

  none-below : (ks : List (Known T H W)) → total (λ k. cond (ltb k.number 0) (f k) 0) ks ≡ 0
  none-below [] = refl
  none-below (k ∷ ks) = let a = never-below k.number (f k) in let h = none-below ks in omega arith

  total-below : (n : ℕ) (ks : List (Known T H W)) → total f (in_order n ks) ≡ total (λ k. cond (ltb k.number n) (f k) 0) ks
  total-below zero ks = sym (none-below ks)
  total-below (suc n) ks =
      let a = total_both f (in_order n ks) (with_number n ks) in
      let b = total-below n ks in
      let c = total-with n ks in
      let d = total-next n ks in
      omega arith

  all-below : (n : ℕ) (ks : List (Known T H W)) → All (λ k. k.number < n) ks → total (λ k. cond (ltb k.number n) (f k) 0) ks ≡ total f ks
  all-below n [] low = refl
  all-below n (k ∷ ks) low =
      let here : cond (ltb k.number n) (f k) 0 ≡ f k = ap (λ b. cond b (f k) 0) (lt-ltb k.number n (All-head (λ k. k.number < n) k ks low)) in
      let rest = all-below n ks (All-tail (λ k. k.number < n) k ks low) in
      omega arith

  -- the order of the threads doesn't matter
  pub total_in_order : (n : ℕ) (ks : List (Known T H W)) → All (λ k. k.number < n) ks → total f (in_order n ks) ≡ total f ks
  total_in_order n ks low = total-below n ks ∙ all-below n ks low

module _ {T H W : Type 0} where
  single : (ks : List (Known T H W)) → total (λ k. 1) ks ≡ 1 → (k : Known T H W) × (ks ≡ k ∷ [])
  single [] e = absurd (omega arith)
  single (k ∷ []) e = (k, refl)
  single (k ∷ j ∷ ks) e = absurd (omega arith)

  -- where one has the number
  pub one_with : (n : ℕ) (ks : List (Known T H W)) → times n ks ≡ 1 → (k : Known T H W) × (with_number n ks ≡ k ∷ [])
  one_with n ks one = single (with_number n ks) (total-with (λ k. 1) n ks ∙ one)

  numbered-from : (a : ℕ) (ks : List (Known T H W)) → Each (λ j k. k.number ≡ a + j) ks → (i : ℕ) → times i ks ≡ cond (ltb i a) 0 (cond (ltb i (a + length ks)) 1 0)
  numbered-from a [] each i = grind (arith, nat_tests)
  numbered-from a (k ∷ ks) each i =
      let first : k.number ≡ a + 0 = each 0 k refl in
      let rest = numbered-from (a + 1) ks (λ j x at. let h = each (suc j) x at in omega arith) i in
      grind (arith, nat_tests)

  -- of the threads of a package each number stands there once
  pub times_opened : (first : Known T H W) (rights : List (Known T H W)) → first.number ≡ 0 → Each (λ n k. k.number ≡ n + 1) rights → (i : ℕ) → times i (first ∷ rights) ≡ cond (ltb i (length rights + 1)) 1 0
  times_opened first rights lowest each i =
      let rest = numbered-from 1 rights (λ j k at. let e = each j k at in omega arith) i in
      grind (arith, nat_tests)

  -- one more of those looked at, which has the number or hasn't, and all
  times_more : (n : ℕ) (ks : List (Known T H W)) (i : ℕ) (k : Known T H W) → get_elem? ks i ≡ some k → times n (take (suc i) ks) ≡ times n (take i ks) + is_number n k
  times_more n [] i k at = absurd (some-ne-none k (sym at))
  times_more n (x ∷ ks) zero k at = let e = ap (is_number n) (some-injective x k at) in omega arith
  times_more n (x ∷ ks) (suc i) k at = let h = times_more n ks i k at in omega arith

  next_take : (n : ℕ) (ks : List (Known T H W)) (i : ℕ) (k : Known T H W) → get_elem? ks i ≡ some k → times n (take (i + 1) ks) ≡ times n (take i ks) + is_number n k
  next_take n ks i k at = ap (λ (j : ℕ). times n (take j ks)) (add-one i) ∙ times_more n ks i k at

  pub counted_here : (n : ℕ) (ks : List (Known T H W)) (i : ℕ) (k : Known T H W) (c d : ℕ) → get_elem? ks i ≡ some k → k.number ≡ n → d ≡ c + 1 → (c ≡ times n (take i ks)) × (c ≤ i)
      → (d ≡ times n (take (i + 1) ks)) × (d ≤ i + 1)
  counted_here n ks i k c d at is more h =
      let e = next_take n ks i k at in let one : is_number n k ≡ 1 = ap (λ b. cond b 1 0) (eq-eqb k.number n is) in let a = h.0 in let b = h.1 in (omega arith, omega arith)

  pub counted_else : (n : ℕ) (ks : List (Known T H W)) (i : ℕ) (k : Known T H W) (c d : ℕ) → get_elem? ks i ≡ some k → k.number ≢ n → d ≡ c → (c ≡ times n (take i ks)) × (c ≤ i)
      → (d ≡ times n (take (i + 1) ks)) × (d ≤ i + 1)
  counted_else n ks i k c d at ne same h =
      let e = next_take n ks i k at in let none : is_number n k ≡ 0 = ap (λ b. cond b 1 0) (ne_eqb k.number n ne) in let a = h.0 in let b = h.1 in (omega arith, omega arith)

  times_all : (n : ℕ) (ks : List (Known T H W)) (i : ℕ) → length ks ≤ i → times n (take i ks) ≡ times n ks
  times_all n [] zero all = refl
  times_all n [] (suc i) all = refl
  times_all n (x ∷ ks) zero all = absurd (omega arith)
  times_all n (x ∷ ks) (suc i) all = let h = times_all n ks i (omega arith) in omega arith

  pub counted_all : (n : ℕ) (ks : List (Known T H W)) (i c : ℕ) → length ks ≤ i → c ≡ times n (take i ks) → c ≡ times n ks
  counted_all n ks i c all is = is ∙ times_all n ks i all

  -- where one alone has the number, it is once there
  pub once_with : (n : ℕ) (ks : List (Known T H W)) (k : Known T H W) → with_number n ks ≡ k ∷ [] → times n ks ≡ 1
  once_with n ks k one = sym (total-with (λ k. 1) n ks) ∙ ap (total (λ k. 1)) one
