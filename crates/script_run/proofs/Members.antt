-- The members of lists of threads, and how many have a number.
use Rattle.std.proofs.Common.{◌≡◌, ◌≢◌, ◌<◌, ◌≤◌, ◌+◌, inl, inr, ℕ, zero, suc, List, [], ◌∷◌, ◌++◌, map, length, take, drop, sym, ap, ◌∙◌, refl, append-nil, arith}
use Rattle.std.proofs.lemmas.Bool.{eq-eqb, ne_eqb}
use Rattle.std.proofs.lemmas.Bool.Decides.{eqb_tells}
use mathlib.Core.Logic.{dite}
use mathlib.Core.Option.{some, some-injective, some-ne-none}
use native.Mathlib.Decide.{ℕ_discrete}
use lib.ListN.{get_elem?}
use Rattle.atomic_table.proofs.Lists.{at_longer}
use Rattle.nub_rule.specs.Forks.{AreAll, in_order, with_number}
use Rattle.nub_rule.specs.Items.{Each}
use Rattle.nub_rule.proofs.Each.{at_middle}
use Rattle.nub_rule.proofs.Ordering.{in-order-long}
use Rattle.script_run.specs.Placing.{occurs, numbers_of}
use Rattle.script_run.specs.Playing.{Player}
use Rattle.script_run.proofs.Putting.{occurs_here, occurs_else}

module _ {A : Type 0} where
  pub single : (xs : List A) → length xs ≡ 1 → (x : A) × (xs ≡ x ∷ [])
  single [] e = absurd (omega arith)
  single (x ∷ []) e = (x, refl)
  single (x ∷ y ∷ xs) e = absurd (omega arith)

  pub nothing : (xs : List A) → length xs ≡ 0 → xs ≡ []
  nothing [] e = refl
  nothing (x ∷ xs) e = absurd (omega arith)

  pub each_both : (P : A → Type 0) (xs ys : List A) → Each (λ _ x. P x) xs → Each (λ _ x. P x) ys → Each (λ _ x. P x) (xs ++ ys)
  each_both P [] ys a b i x at = b i x at
  each_both P (y ∷ xs) ys a b zero x at = a 0 x at
  each_both P (y ∷ xs) ys a b (suc i) x at = each_both P xs ys (λ j. a (suc j)) b i x at

  pub each_first : (P : A → Type 0) (xs ys : List A) → Each (λ _ x. P x) (xs ++ ys) → Each (λ _ x. P x) xs
  each_first P [] ys e i x at = absurd (some-ne-none x (sym at))
  each_first P (y ∷ xs) ys e zero x at = e 0 x at
  each_first P (y ∷ xs) ys e (suc i) x at = each_first P xs ys (λ j. e (suc j)) i x at

  pub each_second : (P : A → Type 0) (xs ys : List A) → Each (λ _ x. P x) (xs ++ ys) → Each (λ _ x. P x) ys
  each_second P [] ys e i x at = e i x at
  each_second P (y ∷ xs) ys e i x at = each_second P xs ys (λ j. e (suc j)) i x at

  take_whole : (xs : List A) → take (length xs) xs ≡ xs
  take_whole [] = refl
  take_whole (x ∷ xs) = ap (λ l. x ∷ l) (take_whole xs)

  drop_whole : (xs ys : List A) → length xs ≡ length ys → drop (length xs) ys ≡ []
  drop_whole [] [] e = refl
  drop_whole [] (y ∷ ys) e = absurd (omega arith)
  drop_whole (x ∷ xs) [] e = absurd (omega arith)
  drop_whole (x ∷ xs) (y ∷ ys) e = drop_whole xs ys (omega arith)

  -- a whole list that was written back
  pub written : (n : ℕ) (xs ys : List A) → n ≡ length ys → length xs ≡ length ys → take n (xs ++ drop (length xs) ys) ≡ xs
  written n xs ys e long =
      ap (λ l. take n (xs ++ l)) (drop_whole xs ys long) ∙ (ap (take n) (append-nil xs) ∙ (ap (λ i. take i xs) (e ∙ sym long) ∙ take_whole xs))

pub mapped_at : {A B : Type 0} (f : A → B) (xs : List A) (i : ℕ) (x : A) → get_elem? xs i ≡ some x → get_elem? (map f xs) i ≡ some (f x)
mapped_at f [] i x at = absurd (some-ne-none x (sym at))
mapped_at f (y ∷ xs) zero x at = ap (λ z. some (f z)) (some-injective y x at)
mapped_at f (y ∷ xs) (suc i) x at = mapped_at f xs i x at

pub length_with : (n : ℕ) (ks : List Player) → length (with_number n ks) ≡ occurs n (numbers_of ks)
length_with n [] = refl
length_with n (k ∷ ks) =
    let ih = length_with n ks in
    elim (eqb_tells k.number n) [ inl p ↦ rw p.0 (omega (arith, ih)) | inr p ↦ rw p.0 ih ]

-- threads whose numbers go up from s on
AreFrom : ℕ → List Player → Type 0
AreFrom s ks = (i : ℕ) (k : Player) → get_elem? ks i ≡ some k → k.number ≡ s + i

from_next : (s : ℕ) (k : Player) (ks : List Player) → AreFrom s (k ∷ ks) → AreFrom (s + 1) ks
unfolding AreFrom
from_next s k ks from i x at = let e = from (suc i) x at in omega (arith, e)

first_from : (s : ℕ) (k : Player) (ks : List Player) → AreFrom s (k ∷ ks) → k.number ≡ s
unfolding AreFrom
first_from s k ks from = let e = from 0 k refl in omega (arith, e)

above : (s n : ℕ) → s ≤ n → s ≢ n → s + 1 ≤ n
above s n low ne = omega arith

none_before : (s n : ℕ) (ks : List Player) → AreFrom s ks → n < s → occurs n (numbers_of ks) ≡ 0
none_before s n [] from low = refl
none_before s n (k ∷ ks) from low =
    let e = first_from s k ks from in
    occurs_else n k.number (numbers_of ks) (λ z. omega (arith, e, z)) ∙ none_before (s + 1) n ks (from_next s k ks from) (omega arith)

once_among : (s n : ℕ) (ks : List Player) → AreFrom s ks → s ≤ n → n < s + length ks → occurs n (numbers_of ks) ≡ 1
once_among s n [] from low high = absurd (omega arith)
once_among s n (k ∷ ks) from low high =
    let e = first_from s k ks from in
    dite (ℕ_discrete k.number n)
    (λ same. let a = occurs_here n k.number (numbers_of ks) same in let b = none_before (s + 1) n ks (from_next s k ks from) (omega (arith, e, same)) in omega (arith, a, b))
    (λ other. occurs_else n k.number (numbers_of ks) other ∙ once_among (s + 1) n ks (from_next s k ks from) (above s n low (λ z. other (e ∙ z))) (omega arith))

-- of the rights to begin all threads but the first, each stands once
pub rights_once : (n threads : ℕ) (ks : List Player) → ((i : ℕ) (k : Player) → get_elem? ks i ≡ some k → k.number ≡ i + 1) → length ks + 1 ≡ threads → 1 ≤ n → n < threads → occurs n (numbers_of ks) ≡ 1
unfolding AreFrom
rights_once n threads ks own count low high = once_among 1 n ks (λ i k at. let e = own i k at in omega (arith, e)) low (omega (arith, count, high))

pub first_no_right : (ks : List Player) → ((i : ℕ) (k : Player) → get_elem? ks i ≡ some k → k.number ≡ i + 1) → occurs 0 (numbers_of ks) ≡ 0
unfolding AreFrom
first_no_right ks own = none_before 1 0 ks (λ i k at. let e = own i k at in omega (arith, e)) (omega arith)

-- who is of a list is of those with its number, and these are of the list
into_with : (n : ℕ) (ks : List Player) (i : ℕ) (k : Player) → get_elem? ks i ≡ some k → k.number ≡ n → (j : ℕ) × (get_elem? (with_number n ks) j ≡ some k)
into_with n [] i k at own = absurd (some-ne-none k (sym at))
into_with n (x ∷ xs) zero k at own =
    let e = some-injective x k at in
    let same : x.number ≡ n = ap (λ (z : Player). z.number) e ∙ own in
    (0, rw (eq-eqb x.number n same) at)
into_with n (x ∷ xs) (suc i) k at own =
    let r = into_with n xs i k at own in
    elim (eqb_tells x.number n) [ inl p ↦ (suc r.0, rw p.0 r.1) | inr p ↦ (r.0, rw p.0 r.1) ]

out_here : (n : ℕ) (x : Player) (xs : List Player) (j : ℕ) (k : Player) → ((i : ℕ) (y : Player) → get_elem? (with_number n xs) i ≡ some y → (z : ℕ) × (get_elem? xs z ≡ some y)) → get_elem? (x ∷ with_number n xs) j ≡ some k → (i : ℕ) × (get_elem? (x ∷ xs) i ≡ some k)
out_here n x xs zero k out at = (0, at)
out_here n x xs (suc j) k out at = let r = out j k at in (suc r.0, r.1)

out_with : (n : ℕ) (ks : List Player) (j : ℕ) (k : Player) → get_elem? (with_number n ks) j ≡ some k → (i : ℕ) × (get_elem? ks i ≡ some k)
out_with n [] j k at = absurd (some-ne-none k (sym at))
out_with n (x ∷ xs) j k at = dite (ℕ_discrete x.number n)
    (λ same. out_here n x xs j k (out_with n xs) (rw (eq-eqb x.number n same) at at))
    (λ other. let r = out_with n xs j k (rw (ne_eqb x.number n other) at at) in (suc r.0, r.1))

-- what holds of each of a list holds of each of one with the same threads by their numbers
pub each_alike : (P : Player → Type 0) (ks js : List Player) → ((n : ℕ) → with_number n js ≡ with_number n ks) → Each (λ _ k. P k) ks → Each (λ _ k. P k) js
each_alike P ks js same each i k at =
    let j = into_with k.number js i k at refl in
    let r = out_with k.number ks j.0 k (ap (λ l. get_elem? l j.0) (sym (same k.number)) ∙ j.1) in
    each r.0 k r.1

-- the thread at a place of all in order
pub in_order_at : (n : ℕ) (ks : List Player) → AreAll n ks → (i : ℕ) → i < n → (k : Player) × (with_number i ks ≡ k ∷ []) × (get_elem? (in_order n ks) i ≡ some k)
in_order_at zero ks all i low = absurd (omega arith)
in_order_at (suc n) ks all i low = dite (ℕ_discrete i n)
    (λ last.
    let one = all n (omega arith) in
    let long = in-order-long n ks (λ j under. all j (omega arith)) in
    (one.0, ap (λ z. with_number z ks) last ∙ one.1, ap (get_elem? (in_order (suc n) ks)) (last ∙ sym long) ∙ at_middle (in_order n ks) [] (in_order (suc n) ks) one.0 (ap (λ l. in_order n ks ++ l) one.1)))
    (λ before.
    let r = in_order_at n ks (λ j under. all j (omega arith)) i (omega arith) in
    (r.0, r.1, at_longer (in_order n ks) (with_number n ks) i r.0 r.2))
