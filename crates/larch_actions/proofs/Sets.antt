-- Sets of threads as bits, and as lists.
use Rattle.std.proofs.Common.{not, set, length, get_or, zero, suc, min, ◌+◌, ◌*◌, ◌/◌, ◌%◌, ◌≤◌, ◌⊎◌, bit_and, inl, inr, ⊎_elim, subst, w64, ◌≡◌, ◌≢◌, ◌^◌, ◌<◌, ℕ, Bool, true, false, cond, eqb, List, [], ◌∷◌, ◌++◌, refl, sym, ap, ◌∙◌, arith, eq-eqb, ne_eqb}
use Rattle.std.specs.Int.{bit_at, bit_not}
use Rattle.std.specs.Int.Bits.{bit_or}
use Rattle.std.proofs.lemmas.Nat.Bits.{bit_at_or, bit_at-lt, bit_at-zero, bit_at-pow_same, bit_at-pow_other, bit_at_set_same, bit_at_set_other, same_from_bits, same_from_bits_below, bit_at_clear_same, bit_at_clear_other, bit_at_above, bit_at_and}
use mathlib.Core.Logic.{dite}
use native.Mathlib.Decide.{ℕ_discrete}
use Rattle.std.proofs.lemmas.Nat.{and_le_l}
use Rattle.std.proofs.lemmas.List.{length-set, get_or-set_same, get_or-set_other}
use Rattle.std.proofs.Math.Nat.{min-le_left, min-le_right, min-eq_left}
use Rattle.larch_actions.specs.Sets.{mem, without, word_of, bit_of, words_of, set_of, in_set}
use Rattle.larch_actions.specs.Actions.{MayLeave}
use mathlib.Core.Option.{some, some-injective, some-ne-none}
use lib.ListN.{get_elem?}

module _ {A : Type 0} where
  pub at_set : (l : List A) (i j : ℕ) (a b : A) → get_elem? (set l i a) j ≡ some b → ((j ≡ i) × (a ≡ b)) ⊎ ((j ≢ i) × (get_elem? l j ≡ some b))
  at_set [] i j a b e = absurd (some-ne-none b (sym e))
  at_set (x ∷ xs) zero zero a b e = inl (refl, some-injective a b e)
  at_set (x ∷ xs) zero (suc j) a b e = inr ((λ h. omega arith), e)
  at_set (x ∷ xs) (suc i) zero a b e = inr ((λ h. omega arith), e)
  at_set (x ∷ xs) (suc i) (suc j) a b e = ⊎_elim (λ t. inl (ap suc t.0, t.1)) (λ t. let n = t.0 in inr ((λ h. n (omega arith)), t.1)) (at_set xs i j a b e)

  pub at_index : (l : List A) (i : ℕ) (a : A) → i < length l → a ≡ get_or l i a → get_elem? l i ≡ some a
  at_index [] i a h e = absurd (omega arith)
  at_index (x ∷ xs) zero a h e = ap some (sym e)
  at_index (x ∷ xs) (suc i) a h e = at_index xs i a (omega arith) e

pub mem-here : (t x : ℕ) (xs : List ℕ) → x ≡ t → mem t (x ∷ xs) ≡ true
mem-here t x xs is = ap (λ b. cond b true (mem t xs)) (eq-eqb x t is)

pub mem-else : (t x : ℕ) (xs : List ℕ) → x ≢ t → mem t (x ∷ xs) ≡ mem t xs
mem-else t x xs ne = ap (λ b. cond b true (mem t xs)) (ne_eqb x t ne)

-- each thread has a word and a bit of its own
at_word : (t : ℕ) → ((word_of t ≡ t / 64) × (bit_of t ≡ t % 64)) ⊎ (256 ≤ t)
at_word t = ⊎_elim
    (λ (low : t < 256). inl (let w : word_of t ≡ t / 64 = min-eq_left (omega (arith, low)) in (w, omega (arith, w, low))))
    (λ (high : 256 ≤ t). inr high)
    (below t)
  where
    below : (t : ℕ) → (t < 256) ⊎ (256 ≤ t)
    below t = grind arith

pub word_low : (t : ℕ) → word_of t < 4
word_low t = let few = min-le_right (t / 64) 3 in omega (arith, few)

pub word_at : (t : ℕ) → t < 256 → word_of t ≡ t / 64
word_at t low = min-eq_left (omega (arith, low))

pub bit_at_place : (t : ℕ) → t < 256 → bit_of t ≡ t % 64
bit_at_place t low = let w = word_at t low in omega (arith, w, low)

starts_low : (t : ℕ) → 64 * word_of t ≤ t
starts_low t = let few = min-le_left (t / 64) 3 in omega (arith, few)

same_place : (x t : ℕ) → word_of x ≡ word_of t → bit_of x ≡ bit_of t → x ≡ t
same_place x t w b = let a = starts_low x in let c = starts_low t in omega (arith, w, b, a, c)

-- a word of bits that has one more
in_word-more : (t x n : ℕ) → eqb (bit_at (bit_or (2 ^ x) n) t) 1 ≡ cond (eqb x t) true (eqb (bit_at n t) 1)
in_word-more t x n = let o = bit_at_or (2 ^ x) n t in let low = bit_at-lt n t in dite (ℕ_discrete x t)
    (λ e. let here : bit_at (2 ^ x) t ≡ 1 = ap (λ i. bit_at (2 ^ x) i) (sym e) ∙ bit_at-pow_same x in let one : bit_at (bit_or (2 ^ x) n) t ≡ 1 = omega arith in
    ap (λ b. eqb b 1) one ∙ sym (ap (λ b. cond b true (eqb (bit_at n t) 1)) (eq-eqb x t e)))
    (λ ne. let there = bit_at-pow_other x t (λ i. ne (sym i)) in let same : bit_at (bit_or (2 ^ x) n) t ≡ bit_at n t = omega arith in
    ap (λ b. eqb b 1) same ∙ sym (ap (λ b. cond b true (eqb (bit_at n t) 1)) (ne_eqb x t ne)))

-- a set one word of which was changed at one bit
changed_at : (ws : List ℕ) (x t v : ℕ) (b : Bool) → length ws ≡ 4
    → ((k : ℕ) → eqb (bit_at v k) 1 ≡ cond (eqb (bit_of x) k) b (eqb (bit_at (get_or ws (word_of x) 0) k) 1))
    → eqb (bit_at (get_or (set ws (word_of x) v) (word_of t) 0) (bit_of t)) 1 ≡ cond (eqb x t) b (eqb (bit_at (get_or ws (word_of t) 0) (bit_of t)) 1)
changed_at ws x t v b four h = dite (ℕ_discrete (word_of t) (word_of x))
    (λ (e : word_of t ≡ word_of x). let low = word_low x in
    ap (λ i. eqb (bit_at (get_or (set ws (word_of x) v) i 0) (bit_of t)) 1) e ∙ (ap (λ n. eqb (bit_at n (bit_of t)) 1) (get_or-set_same ws (word_of x) v 0 (omega (arith, low, four)))
    ∙ (h (bit_of t) ∙ (ap (λ i. cond (eqb (bit_of x) (bit_of t)) b (eqb (bit_at (get_or ws i 0) (bit_of t)) 1)) (sym e) ∙ ap (λ z. cond z b (eqb (bit_at (get_or ws (word_of t) 0) (bit_of t)) 1)) (dite (ℕ_discrete x t)
    (λ is. eq-eqb (bit_of x) (bit_of t) (ap bit_of is) ∙ sym (eq-eqb x t is))
    (λ ne. ne_eqb (bit_of x) (bit_of t) (λ at. ne (same_place x t (sym e) at)) ∙ sym (ne_eqb x t ne)))))))
    (λ (ne : word_of t ≢ word_of x).
    ap (λ n. eqb (bit_at n (bit_of t)) 1) (get_or-set_other ws (word_of x) (word_of t) v 0 ne)
    ∙ sym (ap (λ z. cond z b (eqb (bit_at (get_or ws (word_of t) 0) (bit_of t)) 1)) (ne_eqb x t (λ is. ne (ap word_of (sym is))))))

words-four : (xs : List ℕ) → length (words_of xs) ≡ 4
words-four [] = refl
words-four (x ∷ xs) = length-set (words_of xs) (word_of x) (bit_or (2 ^ bit_of x) (get_or (words_of xs) (word_of x) 0)) ∙ words-four xs

none_there : (i k : ℕ) → eqb (bit_at (get_or (words_of []) i 0) k) 1 ≡ false
none_there i k = ap (λ n. eqb (bit_at n k) 1) (zeros i) ∙ ap (λ b. eqb b 1) (bit_at-zero k)
  where
    zeros : (i : ℕ) → get_or (words_of []) i 0 ≡ 0
    zeros zero = refl
    zeros (suc zero) = refl
    zeros (suc (suc zero)) = refl
    zeros (suc (suc (suc zero))) = refl
    zeros (suc (suc (suc (suc i)))) = refl

pub in_set-none : (t : ℕ) → in_set (set_of []) t ≡ false
in_set-none t = none_there (word_of t) (bit_of t)

pub in_set-of : (t : ℕ) (xs : List ℕ) → in_set (set_of xs) t ≡ mem t xs
in_set-of t [] = in_set-none t
in_set-of t (x ∷ xs) = let w = get_or (words_of xs) (word_of x) 0 in
    changed_at (words_of xs) x t (bit_or (2 ^ bit_of x) w) true (words-four xs) (λ k. in_word-more k (bit_of x) w) ∙ ap (λ b. cond (eqb x t) true b) (in_set-of t xs)

pub mem-last : (t : ℕ) (xs : List ℕ) → mem t (xs ++ t ∷ []) ≡ true
mem-last t [] = mem-here t t [] refl
mem-last t (x ∷ xs) = ap (λ b. cond (eqb x t) true b) (mem-last t xs) ∙ same (eqb x t)
  where
    same : (b : Bool) → cond b true true ≡ true
    same true = refl
    same false = refl

pub mem-snoc : (t n : ℕ) (xs : List ℕ) → n ≢ t → mem t (xs ++ n ∷ []) ≡ mem t xs
mem-snoc t n [] ne = mem-else t n [] ne
mem-snoc t n (x ∷ xs) ne = ap (λ b. cond (eqb x t) true b) (mem-snoc t n xs ne)

in_word-insert : (n t k : ℕ) → t < 64 → eqb (bit_at (bit_or n (1 * 2 ^ t % 18446744073709551616)) k) 1 ≡ cond (eqb t k) true (eqb (bit_at n k) 1)
in_word-insert n t k low = dite (ℕ_discrete t k)
    (λ e. ap (λ b. eqb b 1) (ap (bit_at (bit_or n (1 * 2 ^ t % 18446744073709551616))) (sym e) ∙ bit_at_set_same w64 n t low) ∙ sym (ap (λ b. cond b true (eqb (bit_at n k) 1)) (eq-eqb t k e)))
    (λ ne. ap (λ b. eqb b 1) (bit_at_set_other w64 n t low k (λ z. ne (sym z))) ∙ sym (ap (λ b. cond b true (eqb (bit_at n k) 1)) (ne_eqb t k ne)))

below_or : (k : ℕ) → (k < 64) ⊎ (64 ≤ k)
below_or k = grind arith

kept_bit : (n t k : ℕ) → t < 64 → n < 2 ^ 64 → (t ≡ k → ⊥) → bit_at (bit_and n (bit_not w64 (1 * 2 ^ t % 18446744073709551616))) k ≡ bit_at n k
kept_bit n t k low fits ne = ⊎_elim
    (λ (lt : k < 64). bit_at_clear_other w64 n t low k lt (λ z. ne (sym z)))
    (λ (ge : 64 ≤ k). let gone = bit_at_above n 64 k fits ge in let both = bit_at_and n (bit_not w64 (1 * 2 ^ t % 18446744073709551616)) k in omega arith)
    (below_or k)

-- a word of bits that has one less
in_word-remove : (n t k : ℕ) → t < 64 → n < 2 ^ 64 → eqb (bit_at (bit_and n (bit_not w64 (1 * 2 ^ t % 18446744073709551616))) k) 1 ≡ cond (eqb t k) false (eqb (bit_at n k) 1)
in_word-remove n t k low fits = let mask = bit_not w64 (1 * 2 ^ t % 18446744073709551616) in dite (ℕ_discrete t k)
    (λ e. ap (λ b. eqb b 1) (ap (bit_at (bit_and n mask)) (sym e) ∙ bit_at_clear_same w64 n t low) ∙ sym (ap (λ b. cond b false (eqb (bit_at n k) 1)) (eq-eqb t k e)))
    (λ ne. ap (λ b. eqb b 1) (kept_bit n t k low fits ne) ∙ sym (ap (λ b. cond b false (eqb (bit_at n k) 1)) (ne_eqb t k ne)))

is_one : (b : ℕ) → eqb b 1 ≡ true → b ≡ 1
is_one b e = dite (ℕ_discrete b 1) (λ i. i) (λ ne. absurd (let f : false ≡ true = sym (ne_eqb b 1 ne) ∙ e in cc))

is_zero : (b : ℕ) → b < 2 → eqb b 1 ≡ false → b ≡ 0
is_zero b low e = dite (ℕ_discrete b 1) (λ i. absurd (let f : true ≡ false = sym (eq-eqb b 1 i) ∙ e in cc)) (λ ne. omega arith)

-- the first k bits of two numbers agree, or there is one at which they differ
differ : (a b k : ℕ) → ((i : ℕ) → i < k → bit_at a i ≡ bit_at b i) ⊎ ((i : ℕ) × (i < k) × (bit_at a i ≢ bit_at b i))
differ a b zero = inl (λ i low. absurd (omega arith))
differ a b (suc k) = ⊎_elim
    (λ (h : (i : ℕ) → i < k → bit_at a i ≡ bit_at b i). dite (ℕ_discrete (bit_at a k) (bit_at b k))
    (λ e. inl (λ i low. dite (ℕ_discrete i k) (λ is. ap (bit_at a) is ∙ (e ∙ ap (bit_at b) (sym is))) (λ ne. h i (omega arith))))
    (λ ne. inr (k, omega arith, ne)))
    (λ (h : (i : ℕ) × (i < k) × (bit_at a i ≢ bit_at b i)). inr (h.0, omega (arith, h.1), h.2))
    (differ a b k)

-- two words that aren't the same differ at a bit
apart : (a b : ℕ) → a < 2 ^ 64 → b < 2 ^ 64 → a ≢ b → (i : ℕ) × (i < 64) × (bit_at a i ≢ bit_at b i)
apart a b lo hi ne = ⊎_elim (λ h. absurd (ne (same_from_bits_below 64 a b lo hi h))) (λ h. h) (differ a b 64)

pub mem-gone : (t : ℕ) (xs : List ℕ) → mem t (without t xs) ≡ false
mem-gone t [] = refl
mem-gone t (x ∷ xs) = dite (ℕ_discrete x t)
    (λ e. ap (λ b. mem t (cond b (without t xs) (x ∷ without t xs))) (eq-eqb x t e) ∙ mem-gone t xs)
    (λ ne. ap (λ b. mem t (cond b (without t xs) (x ∷ without t xs))) (ne_eqb x t ne) ∙ (mem-else t x (without t xs) ne ∙ mem-gone t xs))

pub mem-without : (j t : ℕ) (xs : List ℕ) → j ≢ t → mem j (without t xs) ≡ mem j xs
mem-without j t [] other = refl
mem-without j t (x ∷ xs) other = dite (ℕ_discrete x t)
    (λ e. ap (λ b. mem j (cond b (without t xs) (x ∷ without t xs))) (eq-eqb x t e) ∙ (mem-without j t xs other ∙ sym (mem-else j x xs (λ z. other (sym z ∙ e)))))
    (λ ne. ap (λ b. mem j (cond b (without t xs) (x ∷ without t xs))) (ne_eqb x t ne) ∙ ap (λ b. cond (eqb x j) true b) (mem-without j t xs other))

module _ (ws : List ℕ) (t : ℕ) (low : t < 256) (four : length ws ≡ 4) where
  abbrev pub one_more : ℕ → ℕ → ℕ
  one_more i b = bit_or (get_or ws i 0) (1 * 2 ^ b % 18446744073709551616)

  abbrev pub one_less : ℕ → ℕ → ℕ
  one_less i b = bit_and (get_or ws i 0) (bit_not w64 (1 * 2 ^ b % 18446744073709551616))

  bit_low : bit_of t < 64
  bit_low = let b = bit_at_place t low in omega (arith, b)

  -- the set with t, and without it
  pub put_in : (k : ℕ) → in_set (record { words = set ws (t / 64) (one_more (t / 64) (t % 64)) }) k ≡ cond (eqb t k) true (in_set (record { words = ws }) k)
  put_in k = subst (λ (i : ℕ). in_set (record { words = set ws i (one_more i (t % 64)) }) k ≡ cond (eqb t k) true (in_set (record { words = ws }) k)) (word_at t low)
      (subst (λ (b : ℕ). in_set (record { words = set ws (word_of t) (one_more (word_of t) b) }) k ≡ cond (eqb t k) true (in_set (record { words = ws }) k)) (bit_at_place t low)
      (changed_at ws t k (one_more (word_of t) (bit_of t)) true four (λ j. in_word-insert (get_or ws (word_of t) 0) (bit_of t) j bit_low)))

  pub taken_out : get_or ws (t / 64) 0 < 2 ^ 64 → (k : ℕ) → in_set (record { words = set ws (t / 64) (one_less (t / 64) (t % 64)) }) k ≡ cond (eqb t k) false (in_set (record { words = ws }) k)
  taken_out fits k = subst (λ (i : ℕ). in_set (record { words = set ws i (one_less i (t % 64)) }) k ≡ cond (eqb t k) false (in_set (record { words = ws }) k)) (word_at t low)
      (subst (λ (b : ℕ). in_set (record { words = set ws (word_of t) (one_less (word_of t) b) }) k ≡ cond (eqb t k) false (in_set (record { words = ws }) k)) (bit_at_place t low)
      (changed_at ws t k (one_less (word_of t) (bit_of t)) false four (λ j. in_word-remove (get_or ws (word_of t) 0) (bit_of t) j bit_low (subst (λ (i : ℕ). get_or ws i 0 < 2 ^ 64) (sym (word_at t low)) fits))))

  pub is_in : eqb (bit_at (get_or ws (t / 64) 0) (t % 64)) 1 ≡ in_set (record { words = ws }) t
  is_in = let w = word_at t low in let b = bit_at_place t low in (λ i. eqb (bit_at (get_or ws (sym w i) 0) (sym b i)) 1)

  same_word : (n b : ℕ) → b < 64 → bit_or n (1 * 2 ^ b % 18446744073709551616) ≡ bit_or (2 ^ b) n
  same_word n b less = same_from_bits (bit_or n (1 * 2 ^ b % 18446744073709551616)) (bit_or (2 ^ b) n) (λ k. dite (ℕ_discrete k b)
      (λ i. let one : bit_at (bit_or n (1 * 2 ^ b % 18446744073709551616)) k ≡ 1 = ap (bit_at (bit_or n (1 * 2 ^ b % 18446744073709551616))) i ∙ bit_at_set_same w64 n b less in
      let c = bit_at_or (2 ^ b) n k in let d : bit_at (2 ^ b) k ≡ 1 = ap (bit_at (2 ^ b)) i ∙ bit_at-pow_same b in let f = bit_at-lt n k in omega arith)
      (λ ne. let one = bit_at_set_other w64 n b less k ne in let c = bit_at_or (2 ^ b) n k in let d = bit_at-pow_other b k ne in omega arith))

  pub grows : (xs : List ℕ) → ws ≡ words_of xs → set ws (t / 64) (one_more (t / 64) (t % 64)) ≡ words_of (t ∷ xs)
  grows xs e = subst (λ (i : ℕ). set ws i (one_more i (t % 64)) ≡ words_of (t ∷ xs)) (word_at t low)
      (subst (λ (b : ℕ). set ws (word_of t) (one_more (word_of t) b) ≡ words_of (t ∷ xs)) (bit_at_place t low)
      (ap (set ws (word_of t)) (same_word (get_or ws (word_of t) 0) (bit_of t) bit_low) ∙ ap (λ (vs : List ℕ). set vs (word_of t) (bit_or (2 ^ bit_of t) (get_or vs (word_of t) 0))) e))

-- the thread whose bit is this one of this word
thread_at : (i b : ℕ) → i < 4 → b < 64 → (word_of (64 * i + b) ≡ i) × (bit_of (64 * i + b) ≡ b)
thread_at i b low less = let w = word_at (64 * i + b) (omega (arith, low, less)) in let c = bit_at_place (64 * i + b) (omega (arith, low, less)) in
    (omega (arith, w, less), omega (arith, c, less))

there : (ws : List ℕ) (i b : ℕ) → i < 4 → b < 64 → in_set (record { words = ws }) (64 * i + b) ≡ eqb (bit_at (get_or ws i 0) b) 1
there ws i b low less = let h = thread_at i b low less in (λ j. eqb (bit_at (get_or ws (h.0 j) 0) (h.1 j)) 1)

-- none of the first i words has a bit, or one that isn't 0 has one
abbrev pub AreNone : List ℕ → ℕ → Type 0
AreNone ws i = (j : ℕ) → j < i → get_or ws j 0 ≡ 0

pub none_in : (ws : List ℕ) → AreNone ws 4 → (t : ℕ) → in_set (record { words = ws }) t ≡ false
none_in ws h t = ap (λ n. eqb (bit_at n (bit_of t)) 1) (h (word_of t) (word_low t)) ∙ ap (λ b. eqb b 1) (bit_at-zero (bit_of t))

pub some_in : (ws : List ℕ) (i : ℕ) → i < 4 → get_or ws i 0 < 2 ^ 64 → get_or ws i 0 ≢ 0 → (t : ℕ) × (in_set (record { words = ws }) t ≡ true)
some_in ws i low fits ne = let h = apart (get_or ws i 0) 0 fits (omega arith) ne in let z = bit_at-zero h.0 in let b = bit_at-lt (get_or ws i 0) h.0 in let n = h.2 in
    (64 * i + h.0, there ws i h.0 low h.1 ∙ eq-eqb (bit_at (get_or ws i 0) h.0) 1 (is_set (bit_at (get_or ws i 0) h.0) (bit_at 0 h.0) b z n))
  where
    is_set : (x y : ℕ) → x < 2 → y ≡ 0 → x ≢ y → x ≡ 1
    is_set x y lo z n = dite (ℕ_discrete x 1) (λ i. i) (λ no. absurd (n (omega (arith, lo, z, no))))

-- each of the first i words is in the other set's
abbrev pub AreWithin : List ℕ → List ℕ → ℕ → Type 0
AreWithin ws vs i = (j : ℕ) → j < i → bit_and (get_or ws j 0) (get_or vs j 0) ≡ get_or ws j 0

pub within_in : (ws vs : List ℕ) → AreWithin ws vs 4 → (t : ℕ) → in_set (record { words = ws }) t ≡ true → in_set (record { words = vs }) t ≡ true
within_in ws vs h t is = let a = get_or ws (word_of t) 0 in let b = get_or vs (word_of t) 0 in let one = is_one (bit_at a (bit_of t)) is in
    let both = bit_at_and a b (bit_of t) in let same = ap (λ n. bit_at n (bit_of t)) (h (word_of t) (word_low t)) in let low = bit_at-lt b (bit_of t) in
    eq-eqb (bit_at b (bit_of t)) 1 (ones (bit_at a (bit_of t)) (bit_at b (bit_of t)) one (sym both ∙ same) low)
  where
    ones : (x y : ℕ) → x ≡ 1 → min x y ≡ x → y < 2 → y ≡ 1
    ones x y one e low = let few = min-le_right x y in omega (arith, few, e, one, low)

-- the first i words are the same
abbrev pub AreSame : List ℕ → List ℕ → ℕ → Type 0
AreSame ws vs i = (j : ℕ) → j < i → get_or ws j 0 ≡ get_or vs j 0

pub same_in : (ws vs : List ℕ) → AreSame ws vs 4 → (t : ℕ) → in_set (record { words = ws }) t ≡ in_set (record { words = vs }) t
same_in ws vs h t = ap (λ n. eqb (bit_at n (bit_of t)) 1) (h (word_of t) (word_low t))

-- a word of one set that isn't in the other's, or isn't the other's, tells a thread
pub some_out : (ws vs : List ℕ) (i : ℕ) → i < 4 → get_or ws i 0 < 2 ^ 64 → bit_and (get_or ws i 0) (get_or vs i 0) ≢ get_or ws i 0
    → (t : ℕ) × (in_set (record { words = ws }) t ≡ true) × (in_set (record { words = vs }) t ≡ false)
some_out ws vs i low fits ne = let a = get_or ws i 0 in let b = get_or vs i 0 in let few = and_le_l a b in
    let h = apart (bit_and a b) a (omega (arith, few, fits)) fits ne in
    let both = bit_at_and a b h.0 in let la = bit_at-lt a h.0 in let lb = bit_at-lt b h.0 in
    let bits = outside (bit_at a h.0) (bit_at b h.0) la lb (λ e. h.2 (both ∙ e)) in
    (64 * i + h.0, there ws i h.0 low h.1 ∙ eq-eqb (bit_at a h.0) 1 bits.0, there vs i h.0 low h.1 ∙ ne_eqb (bit_at b h.0) 1 (λ is. let z = bits.1 in omega (arith, z, is)))
  where
    outside : (x y : ℕ) → x < 2 → y < 2 → min x y ≢ x → (x ≡ 1) × (y ≡ 0)
    outside x y lx ly ne = dite (ℕ_discrete y 0)
        (λ z. (dite (ℕ_discrete x 1) (λ i. i) (λ no. absurd (ne (let f = min-le_left x y in omega (arith, f, lx, no)))), z))
        (λ nz. absurd (ne (min-eq_left (omega (arith, lx, ly, nz)))))

pub some_apart : (ws vs : List ℕ) (i : ℕ) → i < 4 → get_or ws i 0 < 2 ^ 64 → get_or vs i 0 < 2 ^ 64 → get_or ws i 0 ≢ get_or vs i 0
    → (t : ℕ) × (in_set (record { words = ws }) t ≢ in_set (record { words = vs }) t)
some_apart ws vs i low fa fb ne = let a = get_or ws i 0 in let b = get_or vs i 0 in let h = apart a b fa fb ne in let la = bit_at-lt a h.0 in let lb = bit_at-lt b h.0 in
    (64 * i + h.0, λ e. h.2 (same_bit (bit_at a h.0) (bit_at b h.0) la lb (sym (there ws i h.0 low h.1) ∙ (e ∙ there vs i h.0 low h.1))))
  where
    same_bit : (x y : ℕ) → x < 2 → y < 2 → eqb x 1 ≡ eqb y 1 → x ≡ y
    same_bit x y lx ly e = dite (ℕ_discrete x 1)
        (λ one. one ∙ sym (is_one y (sym e ∙ eq-eqb x 1 one)))
        (λ no. let z = is_zero y ly (sym e ∙ ne_eqb x 1 no) in omega (arith, lx, no, z))

-- a Signal may leave what is within a set and isn't the same
pub leaves-part : (old left : ℕ → Bool) → ((t : ℕ) → left t ≡ true → old t ≡ true) → (t : ℕ) × (left t ≢ old t) → MayLeave old left
leaves-part old left within out = let h = other (old out.0) (left out.0) (within out.0) out.1 in inr (within, (out.0, h.0, h.1))
  where
    other : (x y : Bool) → (y ≡ true → x ≡ true) → y ≢ x → (x ≡ true) × (y ≡ false)
    other true true h ne = absurd (ne refl)
    other true false h ne = (refl, refl)
    other false true h ne = absurd (let f : false ≡ true = h refl in cc)
    other false false h ne = absurd (ne refl)

-- and no other
pub leaves-within : (old left : ℕ → Bool) → MayLeave old left → (t : ℕ) × (left t ≡ true) → (s : ℕ) × (left s ≡ true) × (old s ≡ false) → ⊥
leaves-within old left may kept out = ⊎_elim
    (λ (h : (t : ℕ) → left t ≡ false). let f : true ≡ false = sym kept.1 ∙ h kept.0 in cc)
    (λ (h : ((t : ℕ) → left t ≡ true → old t ≡ true) × ((t : ℕ) × (old t ≡ true) × (left t ≡ false))). let f : true ≡ false = sym (h.0 out.0 out.1) ∙ out.2 in cc)
    may

pub leaves-apart : (old left : ℕ → Bool) → MayLeave old left → (t : ℕ) × (left t ≡ true) → ((t : ℕ) → left t ≡ old t) → ⊥
leaves-apart old left may kept same = ⊎_elim
    (λ (h : (t : ℕ) → left t ≡ false). let f : true ≡ false = sym kept.1 ∙ h kept.0 in cc)
    (λ (h : ((t : ℕ) → left t ≡ true → old t ≡ true) × ((t : ℕ) × (old t ≡ true) × (left t ≡ false))). let f : true ≡ false = sym h.1.1 ∙ (sym (same h.1.0) ∙ h.1.2) in cc)
    may

pub not-true : (b : Bool) → (b ≡ true → ⊥) → not b ≡ true
not-true true h = absurd (h refl)
not-true false h = refl
