-- Sets of mutexes.
use Rattle.std.specs.Prelude.{ℕ, Bool, eqb}
use Rattle.std.specs.Int.{bit_at}
use Rattle.lock_order.specs.declared.mutex_set.MutexSet.{MutexSet}

-- the mutex m is in the set
abbrev pub in_mutexes : MutexSet → ℕ → Bool
in_mutexes s m = eqb (bit_at s.bits m) 1
