-- Distinct slots with numbers below n are at most n.
use Rattle.std.proofs.Common.{◌≡◌, ◌≢◌, ℕ, zero, suc, ◌+◌, ◌<◌, ◌≤◌, cond, eqb, List, [], ◌∷◌, length, refl, sym, ap, ◌∙◌, subst, arith, Some, None, eq-eqb, ne_eqb}
use Rattle.std.proofs.lemmas.List.{length-map}
use mathlib.Core.Logic.{dite}
use native.Mathlib.Decide.{ℕ_discrete}
use Rattle.nub_rule.specs.Slots.{find, IsDistinct, Below}
use Rattle.nub_rule.proofs.Turns.{find-here, find-else, keys}

module _ {S : Type 0} where
  abbrev without : ℕ → List (ℕ × S) → List (ℕ × S)
  without k [] = []
  without k (x ∷ xs) = cond (eqb x.0 k) xs (x ∷ without k xs)

  without-here : (k : ℕ) (x : ℕ × S) (xs : List (ℕ × S)) → x.0 ≡ k → without k (x ∷ xs) ≡ xs
  without-here k x xs e = ap (λ b. cond b xs (x ∷ without k xs)) (eq-eqb x.0 k e)

  without-else : (k : ℕ) (x : ℕ × S) (xs : List (ℕ × S)) → x.0 ≢ k → without k (x ∷ xs) ≡ x ∷ without k xs
  without-else k x xs ne = ap (λ b. cond b xs (x ∷ without k xs)) (ne_eqb x.0 k ne)

  shorter : (k : ℕ) (xs : List (ℕ × S)) → length xs ≤ length (without k xs) + 1
  shorter k [] = omega arith
  shorter k (x ∷ xs) = dite (ℕ_discrete x.0 k)
      (λ e. let h = ap length (without-here k x xs e) in omega arith)
      (λ ne. let h = ap length (without-else k x xs ne) in let t = shorter k xs in omega arith)

  finds : (j k : ℕ) (xs : List (ℕ × S)) → j ≢ k → find j (without k xs) ≡ find j xs
  finds j k [] ne = refl
  finds j k (x ∷ xs) ne = dite (ℕ_discrete x.0 k)
      (λ e. ap (find j) (without-here k x xs e) ∙ sym (find-else j x xs (λ z. ne (sym z ∙ e))))
      (λ other. ap (find j) (without-else k x xs other) ∙ ap (λ o. cond (eqb x.0 j) (Some x.1) o) (finds j k xs ne))

  gone_now : (k : ℕ) (xs : List (ℕ × S)) → IsDistinct xs → find k (without k xs) ≡ None
  gone_now k [] d = refl
  gone_now k (x ∷ xs) d = dite (ℕ_discrete x.0 k)
      (λ e. ap (find k) (without-here k x xs e) ∙ subst (λ (z : ℕ). find z xs ≡ None) e d.0)
      (λ ne. ap (find k) (without-else k x xs ne) ∙ (find-else k x (without k xs) ne ∙ gone_now k xs d.1))

  distinct : (k : ℕ) (xs : List (ℕ × S)) → IsDistinct xs → IsDistinct (without k xs)
  distinct k [] d = tt
  distinct k (x ∷ xs) d = dite (ℕ_discrete x.0 k)
      (λ e. subst IsDistinct (sym (without-here k x xs e)) d.1)
      (λ ne. subst IsDistinct (sym (without-else k x xs ne)) (finds x.0 k xs ne ∙ d.0, distinct k xs d.1))

  below-find : (n : ℕ) (xs : List (ℕ × S)) → Below n xs → (k : ℕ) (s : S) → find k xs ≡ Some s → k < n
  below-find n [] low k s f = absurd cc
  below-find n (x ∷ xs) low k s f = dite (ℕ_discrete x.0 k) (λ e. subst (λ (z : ℕ). z < n) e low.0) (λ ne. below-find n xs low.1 k s (sym (find-else k x xs ne) ∙ f))

  room : (n : ℕ) (xs : List (ℕ × S)) → IsDistinct xs → ((k : ℕ) (s : S) → find k xs ≡ Some s → k < n) → length xs ≤ n
  room zero [] d low = omega arith
  room zero (x ∷ xs) d low = let h = low x.0 x.1 (find-here x.0 x xs refl) in absurd (omega arith)
  room (suc n) xs d low = let t = room n (without n xs) (distinct n xs d) (λ k s f. dite (ℕ_discrete k n)
      (λ e. let u : Some s ≡ None = sym f ∙ (ap (λ (z : ℕ). find z (without n xs)) e ∙ gone_now n xs d) in absurd cc)
      (λ ne. let h = low k s (sym (finds k n xs ne) ∙ f) in omega arith)) in let u = shorter n xs in omega arith

  -- there is room for one more, whose number is below n too
  pub room_for : (n k : ℕ) (x : S) (xs : List (ℕ × S)) (ks : List ℕ) → IsDistinct xs → Below n xs → k < n → find k xs ≡ None → keys xs ≡ ks → length ks < n
  room_for n k x xs ks d low h free e = let t = room n ((k, x) ∷ xs) (free, d) (below-find n ((k, x) ∷ xs) (h, low)) in let u = ap length e in let v = length-map xs (λ (z : ℕ × S). z.0) in omega arith

  pub hand_fits : (n : ℕ) (xs : List (ℕ × S)) (ks : List ℕ) → IsDistinct xs → Below n xs → keys xs ≡ ks → length ks ≤ n
  hand_fits n xs ks d low e = let t = room n xs d (below-find n xs low) in let u = ap length e in let v = length-map xs (λ (z : ℕ × S). z.0) in omega arith
