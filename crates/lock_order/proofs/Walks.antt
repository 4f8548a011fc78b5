-- The walk back through a core, and the turns of a circle.
use Rattle.std.proofs.Common.{◌≡◌, ℕ, zero, suc, ◌+◌, ◌<◌, ◌≤◌, true, false, List, [], ◌∷◌, ◌++◌, length, length-append, take, get_or, nat_lt, refl, sym, subst, arith}
use Rattle.std.specs.List.{remove, IsFirstBest}
use Rattle.std.proofs.lemmas.Bool.Decides.{nat_tests}
use Rattle.std.proofs.lemmas.List.{length-take}
use Rattle.larch_actions.specs.Sets.{mem}
use Rattle.larch_actions.proofs.Sets.{mem-here}
use Rattle.lock_order.specs.declared.mutex_set.MutexSet.{MutexSet}
use Rattle.lock_order.specs.declared.lock_graph.LockGraph.{LockGraph}
use Rattle.lock_order.specs.Sets.{in_mutexes}
use Rattle.lock_order.specs.Order.{first_or, AreDistinct, IsCycle}
use Rattle.lock_order.specs.Kept.{Before}
use Rattle.lock_order.specs.Circles.{IsCircle, IsLeast}
use Rattle.lock_order.proofs.Members.{mem-either, mem-there, mem-last_either, mem-take, distinct-take, distinct-snoc, room_for}
use Rattle.lock_order.proofs.Rings.{ring-turned, Path, ring_to}

-- The path so far is one of different mutexes of the core, to whose first the next leads.
pub record IsWalk (k : LockGraph) (core : MutexSet) (next : ℕ) (path : List ℕ) : Type 0 where
  pub leads : Path (Before k) (next ∷ path)
  pub distinct : AreDistinct path
  pub within : (m : ℕ) → mem m path ≡ true → in_mutexes core m ≡ true
  pub low : (m : ℕ) → mem m path ≡ true → m < 64
  pub next_within : in_mutexes core next ≡ true
  pub next_low : next < 64

pub starts : (k : LockGraph) (core : MutexSet) (m : ℕ) → in_mutexes core m ≡ true → m < 64 → IsWalk k core m []
starts k core m here low = record {
  leads = (tt, tt);
  distinct = tt;
  within = λ n e. absurd (let f : false ≡ true = e in cc);
  low = λ n e. absurd (let f : false ≡ true = e in cc);
  next_within = here;
  next_low = low;
}

pub goes : (k : LockGraph) (core : MutexSet) (m n : ℕ) (path : List ℕ) → IsWalk k core m path → mem m path ≡ false
    → in_mutexes core n ≡ true → n < 64 → Before k n m → IsWalk k core n (m ∷ path)
goes k core m n path w new here low before = record {
  leads = (before, w.leads);
  distinct = (new, w.distinct);
  within = λ j e. mem-either j m path e (λ is. subst (λ z. in_mutexes core z ≡ true) is w.next_within) (w.within j);
  low = λ j e. mem-either j m path e (λ is. subst (λ z. z < 64) is w.next_low) (w.low j);
  next_within = here;
  next_low = low;
}

pub room : (k : LockGraph) (core : MutexSet) (m : ℕ) (path : List ℕ) → IsWalk k core m path → mem m path ≡ false → length path < 64
room k core m path w new = room_for 64 m path w.distinct w.low w.next_low new

pub closes : (k : LockGraph) (core : MutexSet) (m j : ℕ) (path : List ℕ) → IsWalk k core m path → j < length path → get_or path j 0 ≡ m → IsCircle k (take (j + 1) path)
closes k core m j path w low at = record {
  some = omega (arith, length-take (j + 1) path);
  distinct = distinct-take (j + 1) path w.distinct;
  low = λ n e. w.low n (mem-take n (j + 1) path e);
  ring = ring_to (Before k) path j m low at w.leads;
}

-- a circle turned by one
pub turned : (k : LockGraph) (x : ℕ) (xs : List ℕ) → IsCircle k (x ∷ xs) → IsCircle k (xs ++ x ∷ [])
turned k x xs c = record {
  some = omega (arith, length-append xs (x ∷ []));
  distinct = distinct-snoc xs x c.distinct.0 c.distinct.1;
  low = λ m e. mem-last_either m x xs e (λ is. c.low m (mem-here m x xs is)) (λ h. c.low m (mem-there m x xs h));
  ring = ring-turned (Before k) x xs c.ring;
}

-- a circle without self-loops is a cycle
pub is_cycle : (k : LockGraph) (ms : List ℕ) → ((m : ℕ) → Before k m m → ⊥) → IsCircle k ms → IsCycle (Before k) ms
is_cycle k [] irr c = absurd (let s = c.some in omega arith)
is_cycle k (x ∷ []) irr c = absurd (irr x c.ring.0)
is_cycle k (x ∷ y ∷ ys) irr c = record { two = omega arith; distinct = c.distinct; ring = c.ring }

-- One more turn: what is true of a circle whose least mutex is at a place.
pub record IsTurning (k : LockGraph) (ms : List ℕ) (j : ℕ) : Type 0 where
  pub circle : IsCircle k ms
  pub within : j < length ms
  pub least : IsLeast (get_or ms j 0) ms

at_prefix : (xs : List ℕ) (x j : ℕ) → j < length xs → get_or (xs ++ x ∷ []) j 0 ≡ get_or xs j 0
at_prefix [] x j low = absurd (omega arith)
at_prefix (y ∷ ys) x zero low = refl
at_prefix (y ∷ ys) x (suc j) low = at_prefix ys x j (omega arith)

pub turns : (k : LockGraph) (ms : List ℕ) (m j : ℕ) → IsTurning k ms (suc j) → m ≡ get_or ms 0 m → IsTurning k (remove ms 0 ++ m ∷ []) j
turns k [] m j t is = absurd (let low = t.within in omega arith)
turns k (x ∷ xs) m j t is =
    let low : j < length xs = (let within = t.within in omega arith) in
    let here : get_or (xs ++ x ∷ []) j 0 ≡ get_or xs j 0 = at_prefix xs x j low in
    let next : IsTurning k (xs ++ x ∷ []) j = record {
      circle = turned k x xs t.circle;
      within = omega (arith, length-append xs (x ∷ []));
      least = λ n e. subst (λ z. z ≤ n) (sym here) (t.least n (mem-last_either n x xs e (mem-here n x xs) (mem-there n x xs)));
    } in
    subst (λ z. IsTurning k (xs ++ z ∷ []) j) (sym is) next

pub turned_whole : (k : LockGraph) (ms : List ℕ) → IsTurning k ms 0 → IsLeast (first_or 0 ms) ms
turned_whole k [] t = λ n e. absurd (let f : false ≡ true = e in cc)
turned_whole k (x ∷ xs) t = t.least

mem_place : (m : ℕ) (xs : List ℕ) → mem m xs ≡ true → (j : ℕ) × (j < length xs) × (get_or xs j 0 ≡ m)
mem_place m [] e = absurd (let f : false ≡ true = e in cc)
mem_place m (x ∷ xs) e = mem-either m x xs e
    (λ is. (0, omega arith, is))
    (λ h. let p = mem_place m xs h in (suc p.0, (let low = p.1 in omega arith), p.2))

pub turning_starts : (k : LockGraph) (ms : List ℕ) (j : ℕ) → IsCircle k ms → IsFirstBest nat_lt ms (length ms) j → IsTurning k ms j
turning_starts k ms j c b = record {
  circle = c;
  within = b.0;
  least = λ m e. let p = mem_place m ms e in let le = b.1 p.0 0 p.1 in subst (λ z. get_or ms j 0 ≤ z) p.2 (not_less (get_or ms p.0 0) (get_or ms j 0) le);
}
  where
    not_less : (a b : ℕ) → nat_lt a b ≡ false → b ≤ a
    not_less a b e = grind (arith, nat_tests)
