-- The sum of the first numbers.
use Rattle.std.proofs.Common.{◌≡◌, ℕ, zero, suc, ◌+◌, ◌*◌, ◌/◌, arith}
use Rattle.std.specs.List.{fold, range_with_len}
use Rattle.command_jobs.specs.Values.{sum_to}

-- a sum, and n numbers from a on
twice : (n a s : ℕ) → 2 * fold (λ t x. t + x) s (range_with_len a n) + n ≡ 2 * s + n * (2 * a + n)
twice zero a s = omega arith
twice (suc n) a s = omega (arith, twice n (a + 1) (s + a))

half : (s p : ℕ) → 2 * s ≡ p → p / 2 ≡ s
half s p e = omega (arith, e)

pub formula : (n : ℕ) → n * (n + 1) / 2 ≡ sum_to n
formula n = half (sum_to n) (n * (n + 1)) (omega (arith, twice (n + 1) 0 0))
