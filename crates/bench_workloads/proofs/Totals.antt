-- A number summed over a list by the places of its elements, and sums of numbers in a row.
use Rattle.std.proofs.Common.{◌≡◌, ℕ, zero, suc, ◌+◌, ◌*◌, ◌%◌, ◌<◌, ◌≤◌, List, [], ◌∷◌, length, arith, sym, ap, ◌∙◌, refl}
use Rattle.std.specs.List.{range_with_len}
use Rattle.std.proofs.Math.Nat.{add-mod-mod, mod-add-mod}
use Rattle.std.proofs.lemmas.List.Sums.{sum_by-cons}
use mathlib.Core.Option.{some}
use lib.ListN.{get_elem?}
use Rattle.nub.specs.Totals.{total}
use Rattle.bench_workloads.specs.Passing.{numbers_sum}

module _ {A : Type 0} (f : A → ℕ) where
  -- the parts of the first are those of a row, which G adds up, and each other one's part is d
  pub total_sides : (G : ℕ → ℕ → ℕ) → ((i : ℕ) → G i 0 ≡ 0) → ((i n : ℕ) → G i (suc n) ≡ G i 1 + G (suc i) n) → (d a : ℕ) (xs : List A) → a ≤ length xs
      → ((k : ℕ) (x : A) → get_elem? xs k ≡ some x → k < a → f x ≡ G k 1) → ((k : ℕ) (x : A) → get_elem? xs k ≡ some x → a ≤ k → f x ≡ d) → total f xs + a * d ≡ G 0 a + length xs * d
  total_sides G none more d zero [] long first others = let e = none 0 in omega arith
  total_sides G none more d (suc a) [] long first others = absurd (omega arith)
  total_sides G none more d zero (x ∷ xs) long first others =
      let rest = total_sides G none more d zero xs (omega arith) (λ k y at low. absurd (omega arith)) (λ k y at high. others (suc k) y at (omega arith)) in
      let here = others 0 x refl (omega arith) in
      omega arith
  total_sides G none more d (suc a) (x ∷ xs) long first others =
      let rest = total_sides (λ k. G (suc k)) (λ i. none (suc i)) (λ i. more (suc i)) d a xs (omega arith)
      (λ k y at low. first (suc k) y at (omega arith)) (λ k y at high. others (suc k) y at (omega arith)) in
      let here = first 0 x refl (omega arith) in
      let all = more 0 a in
      omega arith

  -- where each of the first has 1 at the most and the others have none, and who stands at j hasn't either
  pub fewer : (a j : ℕ) (xs : List A) → ((k : ℕ) (x : A) → get_elem? xs k ≡ some x → f x ≤ 1) → ((k : ℕ) (x : A) → get_elem? xs k ≡ some x → a ≤ k → f x ≡ 0)
      → ((x : A) → get_elem? xs j ≡ some x → f x ≡ 0) → j < a → total f xs < a
  fewer zero j xs one others none low = absurd (omega arith)
  fewer (suc a) j [] one others none low = omega arith
  fewer (suc a) zero (x ∷ xs) one others none low =
      let rest = fewer (suc a) a xs (λ k. one (suc k)) (λ k y at high. others (suc k) y at (omega arith)) (λ y at. others (suc a) y at (omega arith)) (omega arith) in
      let here = none x refl in
      omega arith
  fewer (suc a) (suc j) (x ∷ xs) one others none low =
      let rest = fewer a j xs (λ k. one (suc k)) (λ k y at high. others (suc k) y at (omega arith)) none (omega arith) in
      let here = one 0 x refl in
      omega arith

  -- each part may be taken modulo w
  pub total-mod : (w : ℕ) (xs : List A) → total (λ x. f x % w) xs % w ≡ total f xs % w
  total-mod w [] = refl
  total-mod w (x ∷ xs) =
      let rest = total (λ y. f y % w) xs in
      mod-add-mod (f x) w rest ∙ (sym (add-mod-mod (f x) rest w) ∙ (ap (λ n. (f x + n) % w) (total-mod w xs) ∙ add-mod-mod (f x) (total f xs) w))

-- a row in two parts
numbers-parts : (first a b next all : ℕ) → next ≡ first + a → all ≡ a + b → numbers_sum first all ≡ numbers_sum first a + numbers_sum next b
numbers-parts first zero b next all is both =
    let x : next ≡ first = omega arith in
    let y : all ≡ b = omega arith in
    ap (numbers_sum first) y ∙ (sym (ap (λ n. numbers_sum n b) x) ∙ omega arith)
numbers-parts first (suc a) b next all is both =
    let x : all ≡ suc (a + b) = omega arith in
    let less = numbers-parts (first + 1) a b next (a + b) (omega arith) refl in
    let whole = sum_by-cons (λ (n : ℕ). n) first (range_with_len (first + 1) (a + b)) in
    let part = sum_by-cons (λ (n : ℕ). n) first (range_with_len (first + 1) a) in
    ap (numbers_sum first) x ∙ omega arith

-- one more number
pub numbers-more : (first k : ℕ) → numbers_sum first (k + 1) ≡ numbers_sum first k + (first + k)
numbers-more first k = numbers-parts first k 1 (first + k) (k + 1) refl refl ∙ ap (λ n. numbers_sum first k + n) (sum_by-cons (λ (n : ℕ). n) (first + k) [] ∙ omega arith)

-- one more row of so many numbers
pub rows-more : (times i n : ℕ) → numbers_sum (i * times) (suc n * times) ≡ numbers_sum (i * times) (1 * times) + numbers_sum (suc i * times) (n * times)
rows-more times i n = numbers-parts (i * times) (1 * times) (n * times) (suc i * times) (suc n * times) (omega arith) (omega arith)
