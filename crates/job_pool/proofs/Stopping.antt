-- Stops, and the alerts that tell them.
use Rattle.std.proofs.Common.{◌≡◌, ◌≢◌, ◌⊎◌, ℕ, ◌+◌, zero, suc, Bool, true, false, List, [], ◌∷◌, ◌++◌, Option as Opt, Some, None, arith, refl, sym, ap, subst, ◌∙◌, inl, append-nil, eq-eqb, ne_eqb}
use Rattle.std.specs.Prelude.{eqb, if◌then◌else◌, is_some, IsTrue, ◌↔◌, MatchOption}
use Rattle.std.specs.List.{AllByRecursion}
use mathlib.Core.Option.{some, some-injective, some-ne-none}
use lib.ListN.{get_elem?}
use Rattle.larch_actions.specs.declared.event.Event.{Event}
use Rattle.nub_rule.specs.Plays.{alert_event}
use Rattle.nub.specs.Rest.{Added, Adds}
use Rattle.nub.proofs.Adding.{added, added_on}
use Rattle.job_pool.specs.declared.job.Work.TheVariants.{Value, Stop}
use Rattle.job_pool.specs.declared.slot.Slot.{Slot}
use Rattle.job_pool.specs.Slots.{EndsAt, HasNoStop, HasStop, HasValue, StopsAt}
use Rattle.job_pool.specs.Stopping.{alerts_by}
use Rattle.job_pool.specs.Working.{Worker}

module _ {J : Type 0} where
  -- where no slot has a Stop, none stops at a place
  pub no_stop : (xs : List (Slot J)) → AllByRecursion HasNoStop xs → (k : ℕ) → StopsAt k xs → ⊥
  no_stop [] h k s = some-ne-none s.slot (sym s.is_slot)
  no_stop (x ∷ xs) h zero s = h.0 (ap (λ (q : Slot J). q.answer) (some-injective x s.slot s.is_slot) ∙ s.stops)
  no_stop (x ∷ xs) h (suc k) s = no_stop xs h.1 k record { slot = s.slot; is_slot = s.is_slot; stops = s.stops }

  no_value : (s : Slot J) → HasValue s → HasNoStop s
  no_value s v stop = let is = v.1 in absurd (cc)

  pub values_stop_not : (xs : List (Slot J)) → AllByRecursion HasValue xs → HasStop xs → ⊥
  values_stop_not xs h s = no_stop xs (each xs h) s.0 s.1
    where
      each : (ys : List (Slot J)) → AllByRecursion HasValue ys → AllByRecursion HasNoStop ys
      each [] k = tt
      each (y ∷ ys) k = (no_value y k.0, each ys k.1)

  pub ended : (r : Opt ℕ) (old new : List (Slot J)) → MatchOption r (AllByRecursion HasValue new) (λ k. EndsAt k old new) → MatchOption r (AllByRecursion HasValue new) (λ k. StopsAt k new)
  ended None old new h = h
  ended (Some k) old new h = h.stops

  -- whether there was a Stop
  pub stops : (r : Opt ℕ) (old new : List (Slot J)) → MatchOption r (AllByRecursion HasValue new) (λ k. EndsAt k old new) → IsTrue (is_some r) ↔ HasStop new
  stops None old new h = (λ no. absurd (cc), λ s. absurd (values_stop_not new h s))
  stops (Some k) old new h = (λ yes. (k, h.stops), λ s. refl)

-- no test is passed and failed
pub not_both : (b : Bool) → b ≡ false → b ≡ true → ⊥
not_both b off on = cc

next_is : (t : ℕ) → suc t ≡ t + 1
next_is t = omega arith

module _ {T : Type 0} where
  pub none_added : (a : Worker T) → Added [] a a
  none_added a = record { mine = sym (append-nil a.mine); grows = ([], sym (append-nil a.seen)) }

  -- one more was alerted
  pub alerted : (n t : ℕ) (a b c : Worker T) → t ≢ n → b.number ≡ n → Added (alerts_by n t) a b → Adds [] (alert_event b.number t) b c → Added (alerts_by n (t + 1)) a c
  alerted n t a b c ne number was one =
      let e = alert_event n t in
      let more : Added (e ∷ []) b c = added [] e b c (subst (λ k. Adds [] (alert_event k t) b c) number one) in
      let same : alerts_by n t ++ e ∷ [] ≡ alerts_by n (suc t) = ap (λ v. alerts_by n t ++ (if v then [] else e ∷ [])) (sym (ne_eqb t n ne)) in
      subst (λ l. Added l a c) (same ∙ ap (alerts_by n) (next_is t)) (added_on (alerts_by n t) (e ∷ []) a b c was more)

  -- the thread itself is passed over
  pub passed_over : (n t : ℕ) (a b : Worker T) → t ≡ n → Added (alerts_by n t) a b → Added (alerts_by n (t + 1)) a b
  passed_over n t a b is was =
      let e = alert_event n t in
      let same : alerts_by n t ≡ alerts_by n (suc t) = sym (append-nil (alerts_by n t)) ∙ ap (λ v. alerts_by n t ++ (if v then [] else e ∷ [])) (sym (eq-eqb t n is)) in
      subst (λ l. Added l a b) (same ∙ ap (alerts_by n) (next_is t)) was
