-- From the mutexes of a circle to the edges that are told.
use Rattle.std.proofs.Common.{◌≡◌, ℕ, zero, suc, ◌+◌, ◌<◌, ◌≤◌, ◌⊎◌, inl, inr, add-one, List, [], ◌∷◌, ◌++◌, length, take, get_or, refl, sym, ap, subst, ◌∙◌, arith}
use Rattle.std.specs.List.{AllByRecursion}
use Rattle.larch_actions.specs.declared.event.Event.{Event}
use Rattle.larch_actions.specs.Actions.{Spec}
use Rattle.larch_actions.proofs.Sets.{mem-here}
use Rattle.lock_order.specs.declared.answer.Edge.{Edge}
use Rattle.lock_order.specs.declared.lock_graph.LockGraph.{LockGraph}
use Rattle.lock_order.specs.Order.{first_or, Chain, Ring, StandsBefore, IsFirst, outers, HasCycle, AreDistinct, IsCycle, ReportsCycle}
use Rattle.lock_order.specs.Kept.{Before, IsKept}
use Rattle.lock_order.specs.Circles.{first_of, links, IsLeast}
use Rattle.lock_order.proofs.Members.{mem-there}

pub length-links : (k : LockGraph) (ms : List ℕ) (back : ℕ) → length (links k ms back) ≡ length ms
length-links k [] back = refl
length-links k (m ∷ ms) back = ap suc (length-links k ms back)

outers-links : (k : LockGraph) (ms : List ℕ) (back : ℕ) → outers (links k ms back) ≡ ms
outers-links k [] back = refl
outers-links k (m ∷ ms) back = ap (λ l. m ∷ l) (outers-links k ms back)

-- one more, not the last
pub links-inner : (k : LockGraph) (ms : List ℕ) (back j : ℕ) → suc j < length ms → take (suc j) (links k ms back) ≡ take j (links k ms back) ++ first_of k (get_or ms j 0) (get_or ms (suc j) 0) ∷ []
links-inner k [] back j low = absurd (omega arith)
links-inner k (m ∷ []) back j low = absurd (omega arith)
links-inner k (m ∷ n ∷ ns) back zero low = refl
links-inner k (m ∷ n ∷ ns) back (suc j) low = ap (λ l. first_of k m n ∷ l) (links-inner k (n ∷ ns) back j (omega arith))

-- the last
pub links-last : (k : LockGraph) (ms : List ℕ) (back j : ℕ) → suc j ≡ length ms → take (suc j) (links k ms back) ≡ take j (links k ms back) ++ first_of k (get_or ms j 0) back ∷ []
links-last k [] back j at = absurd (omega arith)
links-last k (m ∷ []) back zero at = refl
links-last k (m ∷ []) back (suc j) at = absurd (omega arith)
links-last k (m ∷ n ∷ ns) back zero at = absurd (omega arith)
links-last k (m ∷ n ∷ ns) back (suc j) at = ap (λ l. first_of k m n ∷ l) (links-last k (n ∷ ns) back j (omega arith))

first_at : (ms : List ℕ) → 0 < length ms → get_or ms 0 0 ≡ first_or 0 ms
first_at [] low = absurd (omega arith)
first_at (m ∷ ms) low = refl

-- one more nesting, of the mutex at the place and the one after it, or after the last the first
pub links_more : (k : LockGraph) (ms : List ℕ) (j inner : ℕ) → j < length ms
    → ((j + 1 < length ms) × (inner ≡ get_or ms (j + 1) 0)) ⊎ ((length ms ≤ j + 1) × (inner ≡ get_or ms 0 0))
    → take (j + 1) (links k ms (first_or 0 ms)) ≡ take j (links k ms (first_or 0 ms)) ++ first_of k (get_or ms j 0) inner ∷ []
links_more k ms j inner low (inl h) =
    let within : suc j < length ms = (let l = h.0 in omega arith) in
    let next : inner ≡ get_or ms (suc j) 0 = rw add-one at h.1 in
    rw add-one (links-inner k ms (first_or 0 ms) j within ∙ ap (λ n. take j (links k ms (first_or 0 ms)) ++ first_of k (get_or ms j 0) n ∷ []) (sym next))
links_more k ms j inner low (inr h) =
    let last : suc j ≡ length ms = (let l = h.0 in omega arith) in
    let next : inner ≡ first_or 0 ms = h.1 ∙ first_at ms (omega arith) in
    rw add-one (links-last k ms (first_or 0 ms) j last ∙ ap (λ n. take j (links k ms (first_or 0 ms)) ++ first_of k (get_or ms j 0) n ∷ []) (sym next))

-- the inner mutex of a nesting is the outer one of the next
abbrev Linked : Edge → Edge → Type 0
Linked n k = n.inner.0 ≡ k.outer.0

head_of : (k : LockGraph) (ms : List ℕ) (b : ℕ) (back : Edge) → back.outer.0 ≡ b → first_or b ms ≡ (first_or back (links k ms b)).outer.0
head_of k [] b back e = sym e
head_of k (m ∷ ms) b back e = refl

chain-links : (k : LockGraph) (ms : List ℕ) (b : ℕ) (back : Edge) → back.outer.0 ≡ b → Chain Linked (links k ms b) back
chain-links k [] b back e = tt
chain-links k (m ∷ ms) b back e = (head_of k ms b back e, chain-links k ms b back e)

ring-links : (k : LockGraph) (ms : List ℕ) → Ring Linked (links k ms (first_or 0 ms))
ring-links k [] = tt
ring-links k (m ∷ ms) = chain-links k (m ∷ ms) m (first_of k m (first_or m ms)) refl

firsts-links : (es : List Event) (now : Spec) (k : LockGraph) (ms : List ℕ) (back : ℕ) → IsKept es now k → Chain (Before k) ms back → AllByRecursion (IsFirst es) (links k ms back)
firsts-links es now k [] back kept c = tt
firsts-links es now k (m ∷ ms) back kept c =
    let n = first_or back ms in
    (record { nests = kept.edge m n c.0; least = λ t p h. (kept.least m n t p h).1 }, firsts-links es now k ms back kept c.1)

ring_chain : (k : LockGraph) (ms : List ℕ) → Ring (Before k) ms → Chain (Before k) ms (first_or 0 ms)
ring_chain k [] r = tt
ring_chain k (m ∷ ms) r = r

all_least : (a : ℕ) (ms : List ℕ) → IsLeast a ms → AllByRecursion (λ m. a ≤ m) ms
all_least a [] h = tt
all_least a (m ∷ ms) h = (h m (mem-here m m ms refl), all_least a ms (λ n e. h n (mem-there n m ms e)))

-- a cycle of what is kept, its least mutex first, tells a cycle of the events
pub tells : (es : List Event) (now : Spec) (k : LockGraph) (ms : List ℕ) → IsKept es now k → IsCycle (Before k) ms → IsLeast (first_or 0 ms) ms → ReportsCycle es (links k ms (first_or 0 ms))
tells es now k ms kept c least =
    let same = outers-links k ms (first_or 0 ms) in
    let many = length-links k ms (first_or 0 ms) in record {
      two = omega (arith, c.two);
      distinct = subst AreDistinct (sym same) c.distinct;
      linked = ring-links k ms;
      firsts = firsts-links es now k ms (first_or 0 ms) kept (ring_chain k ms c.ring);
      least = subst (λ l. AllByRecursion (λ m. first_or 0 l ≤ m) l) (sym same) (all_least (first_or 0 ms) ms least);
    }

-- Back again: what tells a cycle shows that there is one.

head_outer : (ns : List Edge) (back : Edge) → (first_or back ns).outer.0 ≡ first_or back.outer.0 (outers ns)
head_outer [] back = refl
head_outer (n ∷ ns) back = refl

chain_reported : (es : List Event) (ns : List Edge) (back : Edge) → AllByRecursion (IsFirst es) ns → Chain Linked ns back → Chain (StandsBefore es) (outers ns) back.outer.0
chain_reported es [] back firsts linked = tt
chain_reported es (n ∷ ns) back firsts linked =
    let next = linked.0 ∙ head_outer ns back in
    (subst (StandsBefore es n.outer.0) next (n.thread.0, n.place, firsts.0.nests), chain_reported es ns back firsts.1 linked.1)

ring_reported : (es : List Event) (ns : List Edge) → AllByRecursion (IsFirst es) ns → Ring Linked ns → Ring (StandsBefore es) (outers ns)
ring_reported es [] firsts linked = tt
ring_reported es (n ∷ ns) firsts linked = chain_reported es (n ∷ ns) n firsts linked

length-outers : (ns : List Edge) → length (outers ns) ≡ length ns
length-outers [] = refl
length-outers (n ∷ ns) = ap suc (length-outers ns)

pub reports_cycle : (es : List Event) (ns : List Edge) → ReportsCycle es ns → HasCycle es
reports_cycle es ns t = (outers ns, record { two = (let many = length-outers ns in omega (arith, t.two)); distinct = t.distinct; ring = ring_reported es ns t.firsts t.linked })

chain-map : (R S : ℕ → ℕ → Type 0) → ((m n : ℕ) → R m n → S m n) → (ms : List ℕ) (back : ℕ) → Chain R ms back → Chain S ms back
chain-map R S f [] back c = tt
chain-map R S f (m ∷ ms) back c = (f m (first_or back ms) c.0, chain-map R S f ms back c.1)

ring-map : (R S : ℕ → ℕ → Type 0) → ((m n : ℕ) → R m n → S m n) → (ms : List ℕ) → Ring R ms → Ring S ms
ring-map R S f [] c = tt
ring-map R S f (m ∷ ms) c = chain-map R S f (m ∷ ms) m c

-- a cycle stays one where the same mutexes stand before others
pub cycle-map : (R S : ℕ → ℕ → Type 0) → ((m n : ℕ) → R m n → S m n) → (ms : List ℕ) → IsCycle R ms → IsCycle S ms
cycle-map R S f ms c = record { two = c.two; distinct = c.distinct; ring = ring-map R S f ms c.ring }

-- a cycle of the events is one of what is kept
pub kept_cycle : (es : List Event) (now : Spec) (k : LockGraph) (ms : List ℕ) → IsKept es now k → IsCycle (StandsBefore es) ms → IsCycle (Before k) ms
kept_cycle es now k ms kept c = cycle-map (StandsBefore es) (Before k) (λ m n s. (kept.least m n s.0 s.1 s.2).0) ms c
