-- The state after two events by two threads, one of which may be looked at alone, is the same in both orders.
use Rattle.std.proofs.Common.{◌≡◌, ◌≢◌, inl, inr, ℕ, cond, eqb, refl, ap, sym, subst, ◌∙◌}
use Rattle.std.proofs.lemmas.Bool.Decides.{eqb_tells}
use mathlib.Core.Option.{Option, none, some}
use Rattle.larch_actions.specs.declared.event.Action.{Action}
use Rattle.larch_actions.specs.declared.event.Action.TheVariants as action
use Rattle.larch_actions.specs.declared.event.Life.{Life}
use Rattle.larch_actions.specs.declared.event.Life.TheVariants.{Unborn, Live, Ended}
use Rattle.larch_actions.specs.declared.event.Pending.TheVariants.{Nothing, Waiting, AlertWaiting}
use Rattle.larch_actions.specs.Actions.{Spec, MayAct, acted, put}
use Rattle.script_text.specs.Runs.{event}
use Rattle.script_plays.proofs.Bounded.{put_here, put_other}

-- two places are put in any order
pub put_swap : {A : Type 0} (f : ℕ → A) (j k : ℕ) (x y : A) → j ≢ k → put (put f j x) k y ≡ put (put f k y) j x
put_swap f j k x y ne = λ i n. at n i
  where
    here : (n : ℕ) → n ≡ j → put (put f j x) k y n ≡ put (put f k y) j x n
    here n is =
        put_other (put f j x) k y n (λ e. ne (sym is ∙ e))
        ∙ (subst (λ i. put f j x i ≡ x) (sym is) (put_here f j x) ∙ sym (subst (λ i. put (put f k y) j x i ≡ x) (sym is) (put_here (put f k y) j x)))

    at : (n : ℕ) → put (put f j x) k y n ≡ put (put f k y) j x n
    at n = elim (eqb_tells n j) [
      | inl p ↦ here n p.1
      | inr p ↦ ap (λ b. cond (eqb n k) y (cond b x (f n))) p.0 ∙ sym (ap (λ b. cond b x (put f k y n)) p.0)
    ]

-- two mutexes with different holders are two, and so are two threads with different lives
pub apart_none : (f : ℕ → Option ℕ) (m k t : ℕ) → f m ≡ some t → f k ≡ none → m ≢ k
apart_none f m k t a b e = let c : some t ≡ none = sym a ∙ (ap f e ∙ b) in absurd (cc)

apart_other : (f : ℕ → Option ℕ) (m k t u : ℕ) → f m ≡ some t → f k ≡ some u → t ≢ u → m ≢ k
apart_other f m k t u a b ne e = let c : some t ≡ some u = sym a ∙ (ap f e ∙ b) in ne (cc)

pub apart_lives : (f : ℕ → Life) (j k : ℕ) (x y : Life) → f j ≡ x → f k ≡ y → x ≢ y → j ≢ k
apart_lives f j k x y a b ne e = ne (sym a ∙ (ap f e ∙ b))

pub unborn_live : Unborn ≢ Live
unborn_live e = absurd (cc)

pub live_ended : Live ≢ Ended
live_ended e = absurd (cc)

pub unborn_ended : Unborn ≢ Ended
unborn_ended e = absurd (cc)

-- the state with another holder of the mutex m, and with another life of the thread k
abbrev pub with_holder : Spec → ℕ → Option ℕ → Spec
with_holder s m who = record s { holder = put s.holder m who }

abbrev pub with_life : Spec → ℕ → Life → Spec
with_life s k x = record s { life = put s.life k x }

-- the action forks no thread k
abbrev pub ForksOther : Action → ℕ → Type 0
ForksOther (action.Fork who) k = who.0 ≢ k
ForksOther a k = Unit {0}

-- an event of the thread u, of whose mutexes another thread t has none
module _ (s : Spec) (u : ℕ) where
  -- it takes no mutex that the other holds, and gives it none
  pub holder_stays : (a : Action) → MayAct s (event u a) → (m t : ℕ) → s.holder m ≡ some t → t ≢ u → (acted u s a).holder m ≡ some t
  holder_stays (action.Acquire k) may m t held ne = put_other s.holder k.0 (some u) m (apart_none s.holder m k.0 t held may.when_met) ∙ held
  holder_stays (action.Release k) may m t held ne = put_other s.holder k.0 none m (apart_other s.holder m k.0 t u held may.requires_met ne) ∙ held
  holder_stays (action.Enqueue k c) may m t held ne = put_other s.holder k.0 none m (apart_other s.holder m k.0 t u held may.requires_met ne) ∙ held
  holder_stays (action.Resume k c) may m t held ne = put_other s.holder k.0 (some u) m (apart_none s.holder m k.0 t held may.when_met.0) ∙ held
  holder_stays (action.AlertEnqueue k c) may m t held ne = put_other s.holder k.0 none m (apart_other s.holder m k.0 t u held may.requires_met ne) ∙ held
  holder_stays (action.AlertReturn k c) may m t held ne = put_other s.holder k.0 (some u) m (apart_none s.holder m k.0 t held may.when_met.0) ∙ held
  holder_stays (action.AlertRaise k c) may m t held ne = put_other s.holder k.0 (some u) m (apart_none s.holder m k.0 t held may.when_met.0) ∙ held
  holder_stays _ may m t held ne = held

  was_given : (m k t : ℕ) → t ≢ u → put s.holder k (some u) m ≡ some t → s.holder m ≡ some t
  was_given m k t ne held = elim (eqb_tells m k) [
    | inl p ↦ let c : some u ≡ some t = rw p.0 at held in absurd (ne (cc))
    | inr p ↦ rw p.0 at held
  ]

  was_freed : (m k t : ℕ) → put s.holder k none m ≡ some t → s.holder m ≡ some t
  was_freed m k t held = elim (eqb_tells m k) [
    | inl p ↦ let c : none ≡ some t = rw p.0 at held in absurd (cc)
    | inr p ↦ rw p.0 at held
  ]

  pub holder_was : (a : Action) (m t : ℕ) → t ≢ u → (acted u s a).holder m ≡ some t → s.holder m ≡ some t
  holder_was (action.Acquire k) m t ne held = was_given m k.0 t ne held
  holder_was (action.Release k) m t ne held = was_freed m k.0 t held
  holder_was (action.Enqueue k c) m t ne held = was_freed m k.0 t held
  holder_was (action.Resume k c) m t ne held = was_given m k.0 t ne held
  holder_was (action.AlertEnqueue k c) m t ne held = was_freed m k.0 t held
  holder_was (action.AlertReturn k c) m t ne held = was_given m k.0 t ne held
  holder_was (action.AlertRaise k c) m t ne held = was_given m k.0 t ne held
  holder_was _ m t ne held = held

  pub pending_stays : (a : Action) (t : ℕ) → t ≢ u → (acted u s a).pending t ≡ s.pending t
  pending_stays (action.Enqueue k c) t ne = put_other s.pending u (Waiting k c) t ne
  pending_stays (action.Resume k c) t ne = put_other s.pending u Nothing t ne
  pending_stays (action.AlertEnqueue k c) t ne = put_other s.pending u (AlertWaiting k c) t ne
  pending_stays (action.AlertReturn k c) t ne = put_other s.pending u Nothing t ne
  pending_stays (action.AlertRaise k c) t ne = put_other s.pending u Nothing t ne
  pending_stays _ t ne = refl

  pub life_stays : (a : Action) (k : ℕ) → k ≢ u → ForksOther a k → (acted u s a).life k ≡ s.life k
  life_stays (action.Fork who) j ne other = put_other s.life who.0 Live j (λ e. other (sym e))
  life_stays action.End j ne other = put_other s.life u Ended j ne
  life_stays _ j ne other = refl

  still_free : (m k : ℕ) → s.holder k ≡ none → put s.holder m none k ≡ none
  still_free m k free = elim (eqb_tells k m) [ inl p ↦ ap (λ b. cond b none (s.holder k)) p.0 | inr p ↦ ap (λ b. cond b none (s.holder k)) p.0 ∙ free ]

  -- a mutex that another thread holds may be free before it
  pub may_freed : (a : Action) → MayAct s (event u a) → (m t : ℕ) → s.holder m ≡ some t → t ≢ u → MayAct (with_holder s m none) (event u a)
  may_freed (action.Acquire k) may m t held ne = record { live = may.live; order = may.order; requires_met = may.requires_met; when_met = still_free m k.0 may.when_met; choice_met = may.choice_met }
  may_freed (action.Release k) may m t held ne = record { live = may.live; order = may.order; requires_met = put_other s.holder m none k.0 (λ e. apart_other s.holder m k.0 t u held may.requires_met ne (sym e)) ∙ may.requires_met; when_met = may.when_met; choice_met = may.choice_met }
  may_freed (action.Enqueue k c) may m t held ne = record { live = may.live; order = may.order; requires_met = put_other s.holder m none k.0 (λ e. apart_other s.holder m k.0 t u held may.requires_met ne (sym e)) ∙ may.requires_met; when_met = may.when_met; choice_met = may.choice_met }
  may_freed (action.Resume k c) may m t held ne = record { live = may.live; order = may.order; requires_met = may.requires_met; when_met = (still_free m k.0 may.when_met.0, may.when_met.1); choice_met = may.choice_met }
  may_freed (action.AlertEnqueue k c) may m t held ne = record { live = may.live; order = may.order; requires_met = put_other s.holder m none k.0 (λ e. apart_other s.holder m k.0 t u held may.requires_met ne (sym e)) ∙ may.requires_met; when_met = may.when_met; choice_met = may.choice_met }
  may_freed (action.AlertReturn k c) may m t held ne = record { live = may.live; order = may.order; requires_met = may.requires_met; when_met = (still_free m k.0 may.when_met.0, may.when_met.1); choice_met = may.choice_met }
  may_freed (action.AlertRaise k c) may m t held ne = record { live = may.live; order = may.order; requires_met = may.requires_met; when_met = (still_free m k.0 may.when_met.0, may.when_met.1); choice_met = may.choice_met }
  may_freed action.End may m t held ne = record { live = may.live; order = may.order; requires_met = λ j has. may.requires_met j (was_freed j m u has); when_met = may.when_met; choice_met = may.choice_met }
  may_freed _ may m t held ne = record { live = may.live; order = may.order; requires_met = may.requires_met; when_met = may.when_met; choice_met = may.choice_met }

  pub swap_freed : (a : Action) → MayAct s (event u a) → (m t : ℕ) → s.holder m ≡ some t → t ≢ u → acted u (with_holder s m none) a ≡ with_holder (acted u s a) m none
  swap_freed (action.Acquire k) may m t held ne = ap (λ f. record (acted u s (action.Acquire k)) { holder = f }) (put_swap s.holder m k.0 none (some u) (apart_none s.holder m k.0 t held may.when_met))
  swap_freed (action.Release k) may m t held ne = ap (λ f. record (acted u s (action.Release k)) { holder = f }) (put_swap s.holder m k.0 none none (apart_other s.holder m k.0 t u held may.requires_met ne))
  swap_freed (action.Enqueue k c) may m t held ne = ap (λ f. record (acted u s (action.Enqueue k c)) { holder = f }) (put_swap s.holder m k.0 none none (apart_other s.holder m k.0 t u held may.requires_met ne))
  swap_freed (action.Resume k c) may m t held ne = ap (λ f. record (acted u s (action.Resume k c)) { holder = f }) (put_swap s.holder m k.0 none (some u) (apart_none s.holder m k.0 t held may.when_met.0))
  swap_freed (action.AlertEnqueue k c) may m t held ne = ap (λ f. record (acted u s (action.AlertEnqueue k c)) { holder = f }) (put_swap s.holder m k.0 none none (apart_other s.holder m k.0 t u held may.requires_met ne))
  swap_freed (action.AlertReturn k c) may m t held ne = ap (λ f. record (acted u s (action.AlertReturn k c)) { holder = f }) (put_swap s.holder m k.0 none (some u) (apart_none s.holder m k.0 t held may.when_met.0))
  swap_freed (action.AlertRaise k c) may m t held ne = ap (λ f. record (acted u s (action.AlertRaise k c)) { holder = f }) (put_swap s.holder m k.0 none (some u) (apart_none s.holder m k.0 t held may.when_met.0))
  swap_freed _ may m t held ne = refl

  lives : (k : ℕ) (x : Life) → k ≢ u → s.life u ≡ Live → put s.life k x u ≡ Live
  lives k x ne live = put_other s.life k x u (λ e. ne (sym e)) ∙ live

  -- a thread that isn't ended, and that it doesn't fork, may have another life before it
  pub may_lived : (a : Action) → MayAct s (event u a) → (k : ℕ) (x : Life) → k ≢ u → s.life k ≢ Ended → ForksOther a k → MayAct (with_life s k x) (event u a)
  may_lived (action.Fork who) may j x ne not other = record { live = lives j x ne may.live; order = may.order; requires_met = put_other s.life j x who.0 other ∙ may.requires_met; when_met = may.when_met; choice_met = may.choice_met }
  may_lived (action.Join who) may j x ne not other = record { live = lives j x ne may.live; order = may.order; requires_met = may.requires_met; when_met = put_other s.life j x who.0 (λ e. not (ap s.life (sym e) ∙ may.when_met)) ∙ may.when_met; choice_met = may.choice_met }
  may_lived _ may j x ne not other = record { live = lives j x ne may.live; order = may.order; requires_met = may.requires_met; when_met = may.when_met; choice_met = may.choice_met }

  pub swap_lived : (a : Action) (k : ℕ) (x : Life) → k ≢ u → ForksOther a k → acted u (with_life s k x) a ≡ with_life (acted u s a) k x
  swap_lived (action.Fork who) j x ne other = ap (λ f. record s { life = f }) (put_swap s.life j who.0 x Live (λ e. other (sym e)))
  swap_lived action.End j x ne other = ap (λ f. record s { life = f }) (put_swap s.life j u x Ended ne)
  swap_lived _ j x ne other = refl
