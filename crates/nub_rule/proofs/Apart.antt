-- The words of two threads are different ones.
use Rattle.std.proofs.Common.{◌≡◌, ℕ, ◌<◌, arith}
use Rattle.nub_rule.specs.Places.{most_threads, thread_at}

pub thread-of : (t u : ℕ) → t < most_threads → u < most_threads → thread_at t ≡ thread_at u → t ≡ u
thread-of t u low low' e = omega arith
