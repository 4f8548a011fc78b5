-- Taking away mutexes that are in no cycle.
use Rattle.std.proofs.Common.{◌≡◌, ℕ, ◌<◌, ◌&&◌, Bool, true, false, cond, eqb, inl, inr, List, [], ◌∷◌, refl, ap, ◌∙◌, arith}
use Rattle.larch_actions.proofs.Sets.{mem-here}
use Rattle.lock_order.specs.declared.mutex_set.MutexSet.{MutexSet}
use Rattle.lock_order.specs.declared.lock_graph.LockGraph.{LockGraph}
use Rattle.lock_order.specs.Sets.{in_mutexes}
use Rattle.lock_order.specs.Order.{IsCycle}
use Rattle.lock_order.specs.Kept.{Before, stands}
use Rattle.lock_order.specs.Circles.{HoldsCycles, IsForemost, AreLow}
use Rattle.lock_order.proofs.Numbers.{both_ways, same_or}
use Rattle.lock_order.proofs.Rings.{ring-before, ring-after}

pub both_true : (b c : Bool) → b ≡ true → c ≡ true → (b && c) ≡ true
both_true b c p q = rw (p, q) refl

pub and_first : (b c : Bool) → (b && c) ≡ true → b ≡ true
and_first true c e = refl
and_first false c e = e

pub and_second : (b c : Bool) → (b && c) ≡ true → c ≡ true
and_second true c e = e
and_second false c e = absurd (let f : false ≡ true = e in cc)

-- at first all are in
pub holds_all : (k : LockGraph) (set : MutexSet) → AreLow k → ((m : ℕ) → m < 64 → in_mutexes set m ≡ true) → HoldsCycles k set
holds_all k set low all = λ ms c m e. let after = ring-after (Before k) ms m c.ring e in all m (low m after.0 after.1)

-- a mutex before which none of them stands is in no cycle
pub holds_rest : (k : LockGraph) (set set' : MutexSet) (n : ℕ) → HoldsCycles k set → IsForemost k set n
    → ((m : ℕ) → in_mutexes set' m ≡ cond (eqb n m) false (in_mutexes set m)) → HoldsCycles k set'
holds_rest k set set' n all out less = λ ms c m e.
    elim (same_or n m) [
      | inl p ↦
          let before = ring-before (Before k) ms m c.ring e in
          let stood : stands k before.0 n ≡ true = ap (λ z. stands k before.0 z) p.0 ∙ before.2 in
          both_ways (stands k before.0 n && in_mutexes set before.0) (both_true (stands k before.0 n) (in_mutexes set before.0) stood (all ms c before.0 before.1)) (out before.0)
      | inr p ↦ less m ∙ ap (λ b. cond b false (in_mutexes set m)) p.1 ∙ all ms c m e
    ]

-- where none is left there is no cycle
pub no_cycle : (k : LockGraph) (set : MutexSet) (ms : List ℕ) → HoldsCycles k set → ((m : ℕ) → in_mutexes set m ≡ false) → IsCycle (Before k) ms → ⊥
no_cycle k set [] all none c = let two = c.two in omega arith
no_cycle k set (m ∷ ms) all none c = both_ways (in_mutexes set m) (all (m ∷ ms) c m (mem-here m m ms refl)) (none m)

-- before each of the set below j stands one of the set
abbrev pub IsKnotBelow : ℕ → LockGraph → MutexSet → Type 0
IsKnotBelow j k set = (n : ℕ) → n < j → in_mutexes set n ≡ true → (m : ℕ) × (in_mutexes set m ≡ true) × Before k m n
