-- Sets of mutexes as bits of a number.
use Rattle.std.proofs.Common.{w64, ◌≡◌, ◌≢◌, ℕ, ◌*◌, ◌%◌, ◌^◌, ◌<◌, ◌≤◌, ◌&&◌, ◌||◌, ◌⊎◌, true, false, cond, not, eqb, bit_and, inl, inr, refl, sym, ap, ◌∙◌, arith}
use Rattle.std.specs.Int.{bit_at, bit_not, trailing_zeros}
use Rattle.std.specs.Int.Bits.{bit_or}
use Rattle.std.proofs.lemmas.Nat.{and_le_l}
use Rattle.std.proofs.lemmas.Nat.Bits.{bit_at_and, bit_at_or, bit_at_not, bit_at-lt, bit_at-zero, bit_at_ones, bit_at_above, bit_at_set_same, bit_at_set_other, bit_at_clear_same, bit_at_clear_other, bit_at-trailing_zeros}
use Rattle.lock_order.proofs.Numbers.{same_or, both_ways}

is_one : (b : ℕ) → eqb b 1 ≡ true → b ≡ 1
is_one b e = elim (same_or b 1) [ inl p ↦ p.0 | inr p ↦ both_ways (eqb b 1) e p.1 ]

bit_or_not : (n k : ℕ) → (bit_at n k ≡ 1) ⊎ (bit_at n k ≡ 0)
bit_or_not n k = let low = bit_at-lt n k in elim (same_or (bit_at n k) 1) [ inl p ↦ inl p.0 | inr p ↦ let ne = p.0 in inr (omega arith) ]

pub none-bits : (n k : ℕ) → n ≡ 0 → eqb (bit_at n k) 1 ≡ false
none-bits n k z = ap (λ b. eqb b 1) (ap (λ m. bit_at m k) z ∙ bit_at-zero k)

pub all-bits : (k : ℕ) → k < 64 → eqb (bit_at 18446744073709551615 k) 1 ≡ true
all-bits k low = ap (λ b. eqb b 1) (bit_at_ones 64 k low)

pub and-bits : (a b k : ℕ) → eqb (bit_at (bit_and a b) k) 1 ≡ (eqb (bit_at a k) 1 && eqb (bit_at b k) 1)
and-bits a b k =
    ap (λ n. eqb n 1) (bit_at_and a b k) ∙
    elim (bit_or_not a k) [
      | inl p ↦ elim (bit_or_not b k) [
        | inl q ↦ rw (p, q) refl
        | inr q ↦ rw (p, q) refl
      ]
      | inr p ↦ elim (bit_or_not b k) [
        | inl q ↦ rw (p, q) refl
        | inr q ↦ rw (p, q) refl
      ]
    ]

pub or-bits : (a b k : ℕ) → eqb (bit_at (bit_or a b) k) 1 ≡ (eqb (bit_at a k) 1 || eqb (bit_at b k) 1)
or-bits a b k =
    ap (λ n. eqb n 1) (bit_at_or a b k) ∙
    elim (bit_or_not a k) [
      | inl p ↦ elim (bit_or_not b k) [
        | inl q ↦ rw (p, q) refl
        | inr q ↦ rw (p, q) refl
      ]
      | inr p ↦ elim (bit_or_not b k) [
        | inl q ↦ rw (p, q) refl
        | inr q ↦ rw (p, q) refl
      ]
    ]

below_or : (k : ℕ) → (k < 64) ⊎ (64 ≤ k)
below_or k = grind arith

not-bits : (a b k : ℕ) → a < 2 ^ 64 → b < 2 ^ 64 → eqb (bit_at (bit_and a (bit_not w64 b)) k) 1 ≡ (eqb (bit_at a k) 1 && not (eqb (bit_at b k) 1))
not-bits a b k fa fb =
    and-bits a (bit_not w64 b) k ∙
    elim (below_or k) [
      | inl low ↦
          let flip = bit_at_not w64 b k fb low in
          elim (bit_or_not b k) [
            | inl q ↦ rw (flip, q) refl
            | inr q ↦ rw (flip, q) refl
          ]
      | inr high ↦
          let gone : bit_at a k ≡ 0 = bit_at_above a 64 k fa high in rw gone refl
    ]

pub minus-bits : (a b k : ℕ) → a < 2 ^ 64 → b < 2 ^ 64 → eqb (bit_at (bit_and a (bit_not w64 b)) k) 1 ≡ (eqb (bit_at a k) 1 && not (eqb (bit_at b k) 1))
minus-bits a b k fa fb = not-bits a b k fa fb

pub first-bit : (n : ℕ) → n ≢ 0 → n < 2 ^ 64 → (eqb (bit_at n (trailing_zeros w64 n)) 1 ≡ true) × (trailing_zeros w64 n < 64)
first-bit n some fits = let h = bit_at-trailing_zeros w64 n (omega arith) fits in (ap (λ b. eqb b 1) h.1, h.0)

-- a set with a member is not 0
pub some-bits : (n k : ℕ) → eqb (bit_at n k) 1 ≡ true → n ≢ 0
some-bits n k e z = both_ways (eqb (bit_at n k) 1) e (none-bits n k z)

-- without one of its bits a number is less
pub fewer-bits : (n t : ℕ) → t < 64 → eqb (bit_at n t) 1 ≡ true → bit_and n (bit_not w64 (1 * 2 ^ t % 18446744073709551616)) < n
fewer-bits n t low e =
    let less = bit_and n (bit_not w64 (1 * 2 ^ t % 18446744073709551616)) in
    let le : less ≤ n = and_le_l n (bit_not w64 (1 * 2 ^ t % 18446744073709551616)) in
    let gone : bit_at less t ≡ 0 = bit_at_clear_same w64 n t low in
    elim (same_or less n) [
      | inl p ↦ let one = is_one (bit_at n t) e in let zero : bit_at n t ≡ 0 = sym (ap (λ m. bit_at m t) p.0) ∙ gone in absurd (omega arith)
      | inr p ↦ let ne = p.0 in omega arith
    ]

-- what the test for 0 tells
pub none_or_some : (n : ℕ) → n < 2 ^ 64 → (eqb n 0 ≡ true → (k : ℕ) → eqb (bit_at n k) 1 ≡ false) × (eqb n 0 ≡ false → (k : ℕ) × (eqb (bit_at n k) 1 ≡ true))
none_or_some n fits = (
  λ e k. elim (same_or n 0) [ inl p ↦ none-bits n k p.0 | inr p ↦ both_ways (eqb n 0) e p.1 ],
  λ e. elim (same_or n 0) [ inl p ↦ both_ways (eqb n 0) p.1 e | inr p ↦ (trailing_zeros w64 n, (first-bit n p.0 fits).0) ],
)

-- one bit more
pub with-bit : (n t k : ℕ) → t < 64 → eqb (bit_at (bit_or n (1 * 2 ^ t % 18446744073709551616)) k) 1 ≡ cond (eqb t k) true (eqb (bit_at n k) 1)
with-bit n t k low =
    elim (same_or t k) [
      | inl p ↦ ap (λ b. eqb b 1) (ap (bit_at (bit_or n (1 * 2 ^ t % 18446744073709551616))) (sym p.0) ∙ bit_at_set_same w64 n t low) ∙ sym (ap (λ b. cond b true (eqb (bit_at n k) 1)) p.1)
      | inr p ↦ ap (λ b. eqb b 1) (bit_at_set_other w64 n t low k (λ z. p.0 (sym z))) ∙ sym (ap (λ b. cond b true (eqb (bit_at n k) 1)) p.1)
    ]

kept_bit : (n t k : ℕ) → t < 64 → n < 2 ^ 64 → (t ≡ k → ⊥) → bit_at (bit_and n (bit_not w64 (1 * 2 ^ t % 18446744073709551616))) k ≡ bit_at n k
kept_bit n t k low fits ne =
    elim (below_or k) [
      | inl lt ↦ bit_at_clear_other w64 n t low k lt (λ z. ne (sym z))
      | inr ge ↦ let gone = bit_at_above n 64 k fits ge in let both = bit_at_and n (bit_not w64 (1 * 2 ^ t % 18446744073709551616)) k in omega arith
    ]

-- one bit less
pub without-bit : (n t k : ℕ) → t < 64 → n < 2 ^ 64 → eqb (bit_at (bit_and n (bit_not w64 (1 * 2 ^ t % 18446744073709551616))) k) 1 ≡ cond (eqb t k) false (eqb (bit_at n k) 1)
without-bit n t k low fits =
    let mask = bit_not w64 (1 * 2 ^ t % 18446744073709551616) in
    elim (same_or t k) [
      | inl p ↦ ap (λ b. eqb b 1) (ap (bit_at (bit_and n mask)) (sym p.0) ∙ bit_at_clear_same w64 n t low) ∙ sym (ap (λ b. cond b false (eqb (bit_at n k) 1)) p.1)
      | inr p ↦ ap (λ b. eqb b 1) (kept_bit n t k low fits p.0) ∙ sym (ap (λ b. cond b false (eqb (bit_at n k) 1)) p.1)
    ]
