-- A thread that has the mutex across its rounds, and the alerts that have ended its waits.
use Rattle.std.proofs.Common.{◌≡◌, ◌≤◌, ℕ, ◌+◌, cond, List, [], ◌∷◌, ◌++◌, length, Some, arith, ap, refl}
use Rattle.std.proofs.lemmas.List.Sums.{sum_by-append}
use Rattle.larch_actions.specs.declared.event.Event.{Event}
use Rattle.nub_rule.specs.Known.{Holds, Shape}
use Rattle.nub.specs.Holding.{IsHolding}
use Rattle.nub.specs.Rest.{Adds}
use Rattle.nub.proofs.Holding.{may_give}
use Rattle.sum_uses.specs.declared.added.Added.{Added}
use Rattle.sum_uses.specs.Sums.{GrowsAlike, IsAbove, added, grown}
use Rattle.sum_uses.proofs.Adding.{added_own, adding_grows}
use Rattle.bench_workloads.specs.Waking.{is_raise, raises}
use Rattle.bench_workloads.specs.Workloads.{HasRaised, IsInside, StaysInside, Worker}

raises-append : (xs ys : List Event) → raises (xs ++ ys) ≡ raises xs + raises ys
raises-append xs ys = sum_by-append (λ (e : Event). cond (is_raise e.action) 1 0) xs ys

-- who has made no call has no wait after it
pub none_raised : (es : List Event) → length es ≡ 0 → raises es ≡ 0
none_raised [] none = refl
none_raised (e ∷ es) none = absurd (omega arith)

-- what the events of a call show
pub raised_by : (es : List Event) (e : Event) (a b : Worker) → Adds es e a b → raises b.mine ≡ raises a.mine + (raises es + raises (e ∷ []))
raised_by es e a b adds =
    let all : raises b.mine ≡ raises ((a.mine ++ es) ++ e ∷ []) = ap raises adds.mine in
    let last = raises-append (a.mine ++ es) (e ∷ []) in
    let first = raises-append a.mine es in
    omega arith

module _ (p : Shape (Unit {0})) where
  -- who has just got the mutex has added nothing since
  pub took_inside : (n x times alerts : ℕ) (s : List Added) (b : Worker) → IsHolding p n 0 s x b × IsAbove 0 x s → added 0 s ≡ times → times ≤ 100000000000 → HasRaised alerts b → IsInside p n x times alerts b
  took_inside n x times alerts s b got sum few raised = record { got = x; share = s; holding = got.0; above = got.1; rises = omega arith; sum = omega arith; few = few; raised = raised }

  -- one addition
  pub one_more_inside : (n y times alerts : ℕ) (a : Worker) → IsInside p n y times alerts a → times + 1 ≤ 100000000000 → IsInside p n (y + 1) (times + 1) alerts a
  one_more_inside n y times alerts a i few =
      let rises = i.rises in
      let sum = i.sum in
      record { got = i.got; share = i.share; holding = i.holding; above = i.above; rises = omega arith; sum = omega arith; few = few; raised = i.raised }

  -- what the thread has added may be given back with the mutex
  pub may_inside : (n y times alerts : ℕ) (a : Worker) → IsInside p n y times alerts a
      → (z : ℕ) × Holds a 0 z × ((w : Unit {0}) (r : List Added) → a.world ≡ Some w → a.share ≡ Some r → GrowsAlike 0 z y r (grown 0 z y r))
  may_inside n y times alerts a i =
      let sum = i.sum in
      let few = i.few in
      may_give (λ w m t x z s r. GrowsAlike m x z s r) (λ w m t x z s. grown m x z s) p n 0 i.share i.got y a i.holding (adding_grows 0 i.got y i.share i.rises (omega arith))

  module _ (y : ℕ) (a b : Worker) (quiet : raises b.mine ≡ raises a.mine) (keeps : (n m : ℕ) (s : List Added) (x : ℕ) → IsHolding p n m s x a → IsHolding p n m s x b) where
    -- a call that keeps the mutex, and an addition before it
    pub kept_inside : StaysInside p y y a b
    kept_inside = λ n times alerts i.
        let raised = i.raised in
        record { got = i.got; share = i.share; holding = keeps n 0 i.share i.got i.holding; above = i.above; rises = i.rises; sum = i.sum; few = i.few; raised = omega arith }

    pub said_inside : (n times alerts : ℕ) → IsInside p n y times alerts a → times + 1 ≤ 100000000000 → IsInside p n (y + 1) (times + 1) alerts b
    said_inside n times alerts i few = one_more_inside n y times alerts b (kept_inside n times alerts i) few

  -- the mutex given back in a wait, and got again
  pub waited_inside : (n y z times alerts after : ℕ) (es : List Event) (e : Event) (a b : Worker) → IsInside p n y times alerts a → Adds es e a b → alerts + (raises es + raises (e ∷ [])) ≡ after
      → ((k : ℕ) (s : List Added) (x : ℕ) → IsHolding p k 0 s x a → IsHolding p k 0 (grown 0 x y s) z b × IsAbove 0 z (grown 0 x y s)) → IsInside p n z times after b
  waited_inside n y z times alerts after es e a b i adds ends again =
      let more = added_own 0 i.got y i.share in
      let sum = i.sum in
      let ended = raised_by es e a b adds in
      let raised = i.raised in
      took_inside n z times after (grown 0 i.got y i.share) b (again n i.share i.got i.holding) (omega arith) i.few (omega arith)
