use Rattle.std.proofs.Common.{◌≡◌, ◌<◌, ◌≤◌, ◌+◌, ◌-◌, ℕ, List}
use Rattle.larch_actions.specs.Sets.{set_of}
use Rattle.exact_text.specs.Reading.{as_value}
use Rattle.trace_core.specs.Names.{tail_at, set_from, onto}
use Rattle.trace_core.proofs.names.tail.Given as goal

abbrev pub invariant-loop-name : goal.invariant-loop-name
invariant-loop-name l = record {
  below : l.least < l.bound;
  same :
      (fuel : ℕ) × (seen : List ℕ) × (l.bound ≤ l.least + fuel) × (l.left ≡ set_of seen)
      × (as_value (λ ts. set_of (onto seen ts)) (tail_at fuel l.least l.bound) l.rest ≡ as_value set_from (tail_at l.bound 0 l.bound) l.bytes);
}

abbrev pub decreases-loop-name : goal.decreases-loop-name
decreases-loop-name l = l.bound - l.least
