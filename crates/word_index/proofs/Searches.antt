-- Looking for texts in rising lists.
use Rattle.std.proofs.Common.{◌≡◌, false, true, ℕ, ◌+◌, ◌<◌, ◌≤◌, List, [], ◌∷◌, length, get_or, arith, refl, sym, ap, subst, ◌∙◌, ⊎_elim, nat_cmp}
use Rattle.std.specs.List.{Contains}
use Rattle.std.specs.declared.cmp.Ordering.{Ordering}
use Rattle.std.specs.declared.cmp.Ordering.TheVariants.{Less, Equal}
use Rattle.std.specs.Cmp.Lexicographic.{slice_cmp}
use Rattle.std.proofs.lemmas.Bool.{cases_lt}
use Rattle.std.proofs.lemmas.Cmp.{nat_list_cmp_total, tied_itself}
use Rattle.std.proofs.lemmas.List.{get_or_default}
use Rattle.std.proofs.lemmas.List.Elements.{Contains-get_or}
use Rattle.word_index.specs.Index.{IsBelow, IsRising}
use Rattle.word_index.proofs.Below.{below_trans}

-- a test is not both
pub never : {P : Type 0} → false ≡ true → P
never h = cc

pub not_below : (x y : List ℕ) → x ≡ y → IsBelow x y → ⊥
not_below x y same less =
    let level : slice_cmp nat_cmp x y ≡ Equal = subst (λ z. slice_cmp nat_cmp x z ≡ Equal) same (tied_itself nat_list_cmp_total x) in
    let no : Less ≡ Equal = sym less ∙ level in
    cc

-- the element where it is found, at the default that the lists here use
pub found : (xs : List (List ℕ)) (p : List ℕ) → (h : Contains xs p) → get_or xs h.0 [] ≡ p
found xs p h = get_or_default xs h.0 [] p h.1 ∙ h.2

-- elements of a rising list before and after a place
pub before_place : (xs : List (List ℕ)) → IsRising xs → (k m : ℕ) (p : List ℕ) → k < m + 1 → m < length xs → IsBelow (get_or xs m []) p → IsBelow (get_or xs k []) p
before_place xs rise k m p near within less = ⊎_elim
    (λ (lt : k < m). below_trans (get_or xs k []) (get_or xs m []) p (rise k m [] lt within) less)
    (λ (ge : m ≤ k). let same : m ≡ k = omega arith in subst (λ n. IsBelow (get_or xs n []) p) same less)
    (cases_lt k m)

after_place : (xs : List (List ℕ)) → IsRising xs → (k m : ℕ) (p : List ℕ) → m ≤ k → k < length xs → IsBelow p (get_or xs m []) → IsBelow p (get_or xs k [])
after_place xs rise k m p near within less = ⊎_elim
    (λ (lt : m < k). below_trans p (get_or xs m []) (get_or xs k []) less (rise m k [] lt within))
    (λ (ge : k ≤ m). let same : m ≡ k = omega arith in subst (λ n. IsBelow p (get_or xs n [])) same less)
    (cases_lt m k)

-- the text stands nowhere before low, and nowhere from high on
pub record Searching (xs : List (List ℕ)) (p : List ℕ) (low high : ℕ) : Type 0 where
  pub order : low ≤ high
  pub within : high ≤ length xs
  pub before : (k : ℕ) → k < low → IsBelow (get_or xs k []) p
  pub following : (k : ℕ) → high ≤ k → k < length xs → IsBelow p (get_or xs k [])

pub searching_all : (xs : List (List ℕ)) (p : List ℕ) → Searching xs p 0 (length xs)
searching_all xs p = record { order = omega arith; within = omega arith; before = λ k below. absurd (omega (arith, below)); following = λ k far below. absurd (omega (arith, far, below)) }

module _ {xs : List (List ℕ)} {p : List ℕ} {low high : ℕ} (s : Searching xs p low high) where
  pub searching_above : IsRising xs → (m : ℕ) → low ≤ m → m < high → IsBelow (get_or xs m []) p → Searching xs p (m + 1) high
  searching_above rise m from below less = record {
    order = omega arith;
    within = s.within;
    before = λ k near. before_place xs rise k m p near (omega (arith, below, s.within)) less;
    following = s.following;
  }

  pub searching_under : IsRising xs → (m : ℕ) → low ≤ m → m < high → IsBelow p (get_or xs m []) → Searching xs p low m
  searching_under rise m from below less = record {
    order = from;
    within = omega (arith, below, s.within);
    before = s.before;
    following = λ k far within. after_place xs rise k m p far within less;
  }

  pub searched_all : high ≤ low → Contains xs p → ⊥
  searched_all ended h = ⊎_elim
      (λ (lt : h.0 < low). not_below (get_or xs h.0 []) p (found xs p h) (s.before h.0 lt))
      (λ (ge : low ≤ h.0). not_below p (get_or xs h.0 []) (sym (found xs p h)) (s.following h.0 (omega (arith, ge, ended)) h.1))
      (cases_lt h.0 low)

-- of two rising lists, what stands before the places i and j is not in the other
pub record Apart (xs ys : List (List ℕ)) (i j : ℕ) : Type 0 where
  pub in_x : i ≤ length xs
  pub in_y : j ≤ length ys
  pub of_x : (k : ℕ) → k < i → Contains ys (get_or xs k []) → ⊥
  pub of_y : (k : ℕ) → k < j → Contains xs (get_or ys k []) → ⊥

pub apart_none : (xs ys : List (List ℕ)) → Apart xs ys 0 0
apart_none xs ys = record { in_x = omega arith; in_y = omega arith; of_x = λ k below _. absurd (omega (arith, below)); of_y = λ k below _. absurd (omega (arith, below)) }

-- the next text of the first list is less than all that is left of the other
pub apart_first : {xs ys : List (List ℕ)} {i j : ℕ} → IsRising ys → Apart xs ys i j → i < length xs → IsBelow (get_or xs i []) (get_or ys j []) → Apart xs ys (i + 1) j
apart_first {xs} {ys} {i} {j} rise a here less = record {
  in_x = omega arith;
  in_y = a.in_y;
  of_x = λ k near there. ⊎_elim
      (λ (lt : k < i). a.of_x k lt there)
      (λ (ge : i ≤ k).
      let same : i ≡ k = omega arith in
      let at : Contains ys (get_or xs i []) = subst (λ n. Contains ys (get_or xs n [])) (sym same) there in
      ⊎_elim
      (λ (lt : at.0 < j). a.of_y at.0 lt (subst (Contains xs) (sym (found ys (get_or xs i []) at)) (Contains-get_or xs i [] here)))
      (λ (far : j ≤ at.0). not_below (get_or xs i []) (get_or ys at.0 []) (sym (found ys (get_or xs i []) at)) (after_place ys rise at.0 j (get_or xs i []) far at.1 less))
      (cases_lt at.0 j))
      (cases_lt k i);
  of_y = a.of_y;
}

pub apart_flip : {xs ys : List (List ℕ)} {i j : ℕ} → Apart xs ys i j → Apart ys xs j i
apart_flip a = record { in_x = a.in_y; in_y = a.in_x; of_x = a.of_y; of_y = a.of_x }

-- no text of a list that was passed whole is in the other
pub apart_all : {xs ys : List (List ℕ)} {i j : ℕ} → Apart xs ys i j → length xs ≤ i → (p : List ℕ) → Contains xs p → Contains ys p → ⊥
apart_all {xs} {ys} {i} {j} a ended p here there =
    a.of_x here.0 (omega (arith, here.1, ended)) (subst (Contains ys) (sym (found xs p here)) there)
