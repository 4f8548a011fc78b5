-- Members of lists of different numbers.
use Rattle.std.proofs.Common.{◌≡◌, ◌≢◌, ℕ, zero, suc, ◌+◌, ◌<◌, ◌≤◌, true, false, cond, inl, inr, List, [], ◌∷◌, ◌++◌, length, take, get_or, refl, sym, ap, subst, ◌∙◌, arith, ne_eqb}
use Rattle.larch_actions.specs.Sets.{mem, without}
use Rattle.larch_actions.proofs.Sets.{mem-here, mem-else, mem-snoc, mem-gone, mem-without}
use Rattle.lock_order.specs.Order.{AreDistinct}
use Rattle.lock_order.proofs.Numbers.{both_ways, same_or}

-- a number that is no member of a longer list
pub mem-apart : (n x : ℕ) (xs : List ℕ) → mem n (x ∷ xs) ≡ false → (x ≢ n) × (mem n xs ≡ false)
mem-apart n x xs e =
    elim (same_or x n) [
      | inl p ↦ absurd (both_ways (mem n (x ∷ xs)) (mem-here n x xs p.0) e)
      | inr p ↦ (p.0, sym (mem-else n x xs p.0) ∙ e)
    ]

pub absent : (n x : ℕ) (xs : List ℕ) → x ≢ n → mem n xs ≡ false → mem n (x ∷ xs) ≡ false
absent n x xs ne e = mem-else n x xs ne ∙ e

-- a member of a longer list is its first, or a member of the rest
pub mem-either : {A : Type 0} (n x : ℕ) (xs : List ℕ) → mem n (x ∷ xs) ≡ true → (x ≡ n → A) → (mem n xs ≡ true → A) → A
mem-either n x xs e here there =
    elim (same_or x n) [
      | inl p ↦ here p.0
      | inr p ↦ there (sym (mem-else n x xs p.0) ∙ e)
    ]

pub mem-there : (n x : ℕ) (xs : List ℕ) → mem n xs ≡ true → mem n (x ∷ xs) ≡ true
mem-there n x xs e =
    elim (same_or x n) [
      | inl p ↦ mem-here n x xs p.0
      | inr p ↦ mem-else n x xs p.0 ∙ e
    ]

pub mem-last_either : {A : Type 0} (n x : ℕ) (xs : List ℕ) → mem n (xs ++ x ∷ []) ≡ true → (x ≡ n → A) → (mem n xs ≡ true → A) → A
mem-last_either n x xs e here there =
    elim (same_or x n) [
      | inl p ↦ here p.0
      | inr p ↦ there (sym (mem-snoc n x xs p.0) ∙ e)
    ]

pub distinct-snoc : (xs : List ℕ) (n : ℕ) → mem n xs ≡ false → AreDistinct xs → AreDistinct (xs ++ n ∷ [])
distinct-snoc [] n out d = (refl, tt)
distinct-snoc (x ∷ xs) n out d =
    let p = mem-apart n x xs out in
    (mem-snoc x n xs (λ e. p.0 (sym e)) ∙ d.0, distinct-snoc xs n p.1 d.1)

pub mem-take : (n k : ℕ) (xs : List ℕ) → mem n (take k xs) ≡ true → mem n xs ≡ true
mem-take n zero xs e = absurd (let f : false ≡ true = e in cc)
mem-take n (suc k) [] e = e
mem-take n (suc k) (x ∷ xs) e = mem-either n x (take k xs) e (mem-here n x xs) (λ h. mem-there n x xs (mem-take n k xs h))

absent-take : (n k : ℕ) (xs : List ℕ) → mem n xs ≡ false → mem n (take k xs) ≡ false
absent-take n zero xs e = refl
absent-take n (suc k) [] e = refl
absent-take n (suc k) (x ∷ xs) e = let p = mem-apart n x xs e in absent n x (take k xs) p.0 (absent-take n k xs p.1)

pub distinct-take : (k : ℕ) (xs : List ℕ) → AreDistinct xs → AreDistinct (take k xs)
distinct-take zero xs d = tt
distinct-take (suc k) [] d = tt
distinct-take (suc k) (x ∷ xs) d = (absent-take x k xs d.0, distinct-take k xs d.1)

-- the number at a place is a member
pub mem-at : (xs : List ℕ) (k d : ℕ) → k < length xs → mem (get_or xs k d) xs ≡ true
mem-at [] k d h = absurd (omega arith)
mem-at (x ∷ xs) zero d h = mem-here x x xs refl
mem-at (x ∷ xs) (suc k) d h = mem-there (get_or xs k d) x xs (mem-at xs k d (omega arith))

without-absent : (t : ℕ) (xs : List ℕ) → mem t xs ≡ false → without t xs ≡ xs
without-absent t [] e = refl
without-absent t (x ∷ xs) e =
    let p = mem-apart t x xs e in
    ap (λ b. cond b (without t xs) (x ∷ without t xs)) (ne_eqb x t p.0) ∙ ap (λ l. x ∷ l) (without-absent t xs p.1)

distinct-without : (t : ℕ) (xs : List ℕ) → AreDistinct xs → AreDistinct (without t xs)
distinct-without t [] d = tt
distinct-without t (x ∷ xs) d =
    elim (same_or x t) [
      | inl p ↦ subst AreDistinct (sym (ap (λ b. cond b (without t xs) (x ∷ without t xs)) p.1)) (distinct-without t xs d.1)
      | inr p ↦ subst AreDistinct (sym (ap (λ b. cond b (without t xs) (x ∷ without t xs)) p.1)) (mem-without x t xs p.0 ∙ d.0, distinct-without t xs d.1)
    ]

length-without : (t : ℕ) (xs : List ℕ) → AreDistinct xs → length xs ≤ length (without t xs) + 1
length-without t [] d = omega arith
length-without t (x ∷ xs) d =
    elim (same_or x t) [
      | inl p ↦
          let a : without t xs ≡ xs = without-absent t xs (ap (λ (z : ℕ). mem z xs) (sym p.0) ∙ d.0) in
          let f : length (without t (x ∷ xs)) ≡ length xs = ap (λ b. length (cond b (without t xs) (x ∷ without t xs))) p.1 ∙ ap (λ l. length l) a in omega arith
      | inr p ↦
          let h = length-without t xs d.1 in
          let f : length (without t (x ∷ xs)) ≡ length (x ∷ without t xs) = ap (λ b. length (cond b (without t xs) (x ∷ without t xs))) p.1 in omega arith
    ]

-- there are not more different numbers below n than n
pub pigeons : (n : ℕ) (xs : List ℕ) → AreDistinct xs → ((t : ℕ) → mem t xs ≡ true → t < n) → length xs ≤ n
pigeons zero [] d low = omega arith
pigeons zero (x ∷ xs) d low = let h = low x (mem-here x x xs refl) in absurd (omega arith)
pigeons (suc n) xs d low =
    let long = length-without n xs d in
    let h = pigeons n (without n xs) (distinct-without n xs d) (λ t there.
    let ne : t ≢ n = λ e. both_ways (mem n (without n xs)) (subst (λ z. mem z (without n xs) ≡ true) e there) (mem-gone n xs) in
    let up = low t (sym (mem-without t n xs ne) ∙ there) in omega arith)
    in omega arith

-- there is room for a number below n that isn't there
pub room_for : (n k : ℕ) (xs : List ℕ) → AreDistinct xs → ((t : ℕ) → mem t xs ≡ true → t < n) → k < n → mem k xs ≡ false → length xs < n
room_for n k xs d low here out =
    let h = pigeons n (k ∷ xs) (out, d) (λ t there. mem-either t k xs there (λ e. subst (λ z. z < n) e here) (low t)) in omega arith

-- a number that is at no place is no member
pub absent_from : (xs : List ℕ) (n : ℕ) → ((j : ℕ) → j < length xs → get_or xs j 0 ≡ n → ⊥) → mem n xs ≡ false
absent_from [] n h = refl
absent_from (x ∷ xs) n h = absent n x xs (λ e. h 0 (omega arith) e) (absent_from xs n (λ j low e. h (suc j) (omega arith) e))
