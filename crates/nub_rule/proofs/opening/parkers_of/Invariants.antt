use Rattle.std.proofs.Common.{◌≡◌, ◌≤◌, length, vec_len, vec_capacity}
use Rattle.nub_rule.proofs.opening.parkers_of.Given as goal

abbrev pub invariant-loop-i : goal.invariant-loop-i
invariant-loop-i l = (length l.parkers.items ≡ l._i) × (vec_len l.unparkers ≡ l._i) × (l.count ≤ vec_capacity l.parkers) × (l.count ≤ vec_capacity l.unparkers)
