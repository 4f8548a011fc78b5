-- A call at a buffer from the mutex on.
use Rattle.std.proofs.Common.{◌≡◌, ℕ, ◌+◌, zero, suc, true, false, Bool, List, [], ◌∷◌, ◌++◌, ap, subst, refl, sym, add_assoc, add-zero}
use Rattle.larch_actions.specs.declared.event.Event.{Event}
use Rattle.nub_rule.specs.Known.{Known}
use Rattle.nub_rule.specs.Plays.{enqueue_event}
use Rattle.nub.specs.Rest.{Added, Adds, IsSame}
use Rattle.nub.proofs.Adding.{added, added_on, adds_on}
use Rattle.alert_wait.specs.declared.outcome.Outcome.TheVariants.{Returned}
use Rattle.alert_wait.specs.Outcomes.{wait_end}
use Rattle.bounded_buffer.specs.declared.side.Side.{Side}
use Rattle.bounded_buffer.specs.declared.side.Side.TheVariants.{Putting, Taking}
use Rattle.bounded_buffer.specs.Calls.{waits}
use Rattle.bounded_buffer.specs.Parts.{Used, IsWait, IsWithin, KnowsShut, did}
use Rattle.bounded_buffer.specs.Rings.{Held, Does}
use Rattle.bounded_buffer.specs.Sides.{more, wait_of}

pub waits-more : (t m c k : ℕ) → waits t m c k ++ enqueue_event true t m c ∷ wait_end Returned t m c ∷ [] ≡ waits t m c (suc k)
waits-more t m c zero = refl
waits-more t m c (suc k) = ap (λ l. enqueue_event true t m c ∷ wait_end Returned t m c ∷ l) (waits-more t m c k)

module _ {W V H : Type 0} (es : List Event) (fs : ℕ → List Event) (f : ℕ → Event) (a b e : Known V H W) (same : IsSame a b) (h : Added es a b) (k : Adds (fs b.number) (f b.number) b e) where
  -- what a thread adds to what it had added, by the number that it had
  pub then_adds : Adds (es ++ fs a.number) (f a.number) a e
  then_adds = adds_on es (fs a.number) (f a.number) a b e h (subst (λ n. Adds (fs n) (f n) b e) same.number k)

  pub then_added : Added (es ++ (fs a.number ++ f a.number ∷ [])) a e
  then_added = added_on es (fs a.number ++ f a.number ∷ []) a b e h (added (fs a.number) (f a.number) b e (subst (λ n. Adds (fs n) (f n) b e) same.number k))

pub clash : {b : Bool} → b ≡ false → b ≡ true → ⊥
clash a b = cc

pub is-wait : (T : Type 0) (side : Side) → IsWait {T = T} (wait_of side)
is-wait T Putting = tt
is-wait T Taking = tt

module _ {T : Type 0} where
  pub none-more : (side : Side) (u : Used T) → u ≡ more side 0 u
  none-more Putting u = ap (λ (n : ℕ). record u { full_waits = n }) (sym (add-zero u.full_waits))
  none-more Taking u = ap (λ (n : ℕ). record u { empty_waits = n }) (sym (add-zero u.empty_waits))

  pub one-more : (side : Side) (k : ℕ) (u : Used T) → did (wait_of side) (more side k u) ≡ more side (k + 1) u
  one-more Putting k u = ap (λ (n : ℕ). record u { full_waits = n }) (add_assoc u.full_waits k 1)
  one-more Taking k u = ap (λ (n : ℕ). record u { empty_waits = n }) (add_assoc u.empty_waits k 1)

  -- what a thread knew before its waits it knows
  pub knows_still : (side : Side) (k : ℕ) (u v : Used T) → v ≡ more side k u → KnowsShut u → KnowsShut v
  knows_still Putting k u v is h = subst KnowsShut (sym is) h
  knows_still Taking k u v is h = subst KnowsShut (sym is) h

  -- who has to wait sees an open ring, and doesn't know it to be shut
  pub not_shut : (side : Side) (k : ℕ) (u v : Used T) (q : Held T) → Does (wait_of side) q q → IsWithin v q → v ≡ more side k u → KnowsShut u → ⊥
  not_shut Putting k u v q does within is knows = clash does.0 (within.shut (knows_still Putting k u v is knows))
  not_shut Taking k u v q does within is knows = clash does.0 (within.shut (knows_still Taking k u v is knows))
