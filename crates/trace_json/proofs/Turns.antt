-- Spans begin and end in turn.
use Rattle.std.proofs.Common.{◌≡◌, ℕ, Bool, true, false, cond, eqb, ◌&&◌, List, [], ◌∷◌, refl, ap, subst, ◌∙◌}
use Rattle.std.proofs.lemmas.Bool.{eqb-true}
use mathlib.Core.Option.{none, some, Option as Optional}
use Rattle.larch_actions.specs.declared.event.Event.{Event}
use Rattle.larch_actions.specs.declared.event.Action.{Action}
use Rattle.larch_actions.specs.declared.event.Action.TheVariants.{Acquire, Release, Enqueue, Resume, AlertEnqueue, AlertReturn, AlertRaise, Signal, Broadcast, P, V, Alert, TestAlert, AlertPReturn, AlertPRaise, Fork, End, Join}
use Rattle.larch_actions.specs.declared.event.Pending.{Pending}
use Rattle.larch_actions.specs.declared.event.Pending.TheVariants.{Nothing, Waiting, AlertWaiting}
use Rattle.larch_actions.specs.Actions.{Spec, Leads, KeepsOrder, MeetsRequires, MeetsWhen, acted, at_first}
use Rattle.trace_json.specs.Spans.{ended_by, begun_by}
use Rattle.trace_json.specs.Laws.{is_mutex, is_wait, InTurn, MutexesInTurn, WaitsInTurn}

abbrev is_held : Optional ℕ → Bool
is_held none = false
is_held (some t) = true

abbrev is_waiting : Pending → Bool
is_waiting Nothing = false
is_waiting (Waiting m c) = true
is_waiting (AlertWaiting m c) = true

-- one event ends what is open, or begins what is not, and leaves it so
abbrev Turns : Bool → Bool → Bool → Bool → Type 0
Turns ends begins was is = (ends ≡ true → was ≡ true) × (begins ≡ true → was ≡ false) × (is ≡ cond begins true (cond ends false was))

never : (x y : Bool) → false ≡ true → x ≡ y
never x y h = cc

module _ (f : ℕ → Optional ℕ) (m k t : ℕ) where
  at_same : (x : Optional ℕ) → f k ≡ x → eqb m k ≡ true → is_held (f m) ≡ is_held x
  at_same x e h = ap (λ j. is_held (f j)) (eqb-true m k h) ∙ ap is_held e

  gets : f k ≡ none → Turns false (eqb m k) (is_held (f m)) (is_held (cond (eqb m k) (some t) (f m)))
  gets e = (never (is_held (f m)) true, at_same none e, by (eqb m k))
    where
      by : (b : Bool) → is_held (cond b (some t) (f m)) ≡ cond b true (is_held (f m))
      by true = refl
      by false = refl

  gives : f k ≡ some t → Turns (eqb m k) false (is_held (f m)) (is_held (cond (eqb m k) none (f m)))
  gives e = (at_same (some t) e, never (is_held (f m)) false, by (eqb m k))
    where
      by : (b : Bool) → is_held (cond b none (f m)) ≡ cond b false (is_held (f m))
      by true = refl
      by false = refl

rests : (b : Bool) → Turns false false b b
rests b = (never b true, never b false, refl)

mutex_turns : (m t : ℕ) (s : Spec) (a : Action) → MeetsRequires t s a → MeetsWhen t s a → Turns (is_mutex m (ended_by a)) (is_mutex m (begun_by a)) (is_held (s.holder m)) (is_held ((acted t s a).holder m))
mutex_turns m t s (Acquire k) r w = gets s.holder m k.0 t w
mutex_turns m t s (Release k) r w = gives s.holder m k.0 t r
mutex_turns m t s (Enqueue k c) r w = gives s.holder m k.0 t r
mutex_turns m t s (Resume k c) r w = gets s.holder m k.0 t w.0
mutex_turns m t s (AlertEnqueue k c) r w = gives s.holder m k.0 t r
mutex_turns m t s (AlertReturn k c) r w = gets s.holder m k.0 t w.0
mutex_turns m t s (AlertRaise k c) r w = gets s.holder m k.0 t w.0
mutex_turns m t s (Signal c left) r w = rests (is_held (s.holder m))
mutex_turns m t s (Broadcast c) r w = rests (is_held (s.holder m))
mutex_turns m t s (P k) r w = rests (is_held (s.holder m))
mutex_turns m t s (V k) r w = rests (is_held (s.holder m))
mutex_turns m t s (Alert u) r w = rests (is_held (s.holder m))
mutex_turns m t s (TestAlert b) r w = rests (is_held (s.holder m))
mutex_turns m t s (AlertPReturn k) r w = rests (is_held (s.holder m))
mutex_turns m t s (AlertPRaise k) r w = rests (is_held (s.holder m))
mutex_turns m t s (Fork u) r w = rests (is_held (s.holder m))
mutex_turns m t s End r w = rests (is_held (s.holder m))
mutex_turns m t s (Join u) r w = rests (is_held (s.holder m))

module _ (f : ℕ → Pending) (t u : ℕ) where
  at_own : (x : Pending) → f u ≡ x → eqb t u && true ≡ true → is_waiting (f t) ≡ is_waiting x
  at_own x e h = ap (λ j. is_waiting (f j)) (eqb-true t u (by (eqb t u) h)) ∙ ap is_waiting e
    where
      by : (b : Bool) → b && true ≡ true → b ≡ true
      by true h = refl
      by false h = h

  idle : (b : Bool) → b && false ≡ true → (x y : Bool) → x ≡ y
  idle true h x y = never x y h
  idle false h x y = never x y h

  begins_wait : (x : Pending) → is_waiting x ≡ true → f u ≡ Nothing → Turns (eqb t u && false) (eqb t u && true) (is_waiting (f t)) (is_waiting (cond (eqb t u) x (f t)))
  begins_wait x on e = ((λ h. idle (eqb t u) h (is_waiting (f t)) true), at_own Nothing e, by (eqb t u))
    where
      by : (b : Bool) → is_waiting (cond b x (f t)) ≡ cond (b && true) true (cond (b && false) false (is_waiting (f t)))
      by true = on
      by false = refl

  ends_wait : (x : Pending) → is_waiting x ≡ true → f u ≡ x → Turns (eqb t u && true) (eqb t u && false) (is_waiting (f t)) (is_waiting (cond (eqb t u) Nothing (f t)))
  ends_wait x on e = ((λ h. at_own x e h ∙ on), (λ h. idle (eqb t u) h (is_waiting (f t)) false), by (eqb t u))
    where
      by : (b : Bool) → is_waiting (cond b Nothing (f t)) ≡ cond (b && false) true (cond (b && true) false (is_waiting (f t)))
      by true = refl
      by false = refl

  goes_on : Turns (eqb t u && false) (eqb t u && false) (is_waiting (f t)) (is_waiting (f t))
  goes_on = ((λ h. idle (eqb t u) h (is_waiting (f t)) true), (λ h. idle (eqb t u) h (is_waiting (f t)) false), by (eqb t u))
    where
      by : (b : Bool) → is_waiting (f t) ≡ cond (b && false) true (cond (b && false) false (is_waiting (f t)))
      by true = refl
      by false = refl

wait_turns : (t u : ℕ) (s : Spec) (a : Action) → KeepsOrder (s.pending u) a → Turns (eqb t u && is_wait (ended_by a)) (eqb t u && is_wait (begun_by a)) (is_waiting (s.pending t)) (is_waiting ((acted u s a).pending t))
wait_turns t u s (Acquire k) o = goes_on s.pending t u
wait_turns t u s (Release k) o = goes_on s.pending t u
wait_turns t u s (Enqueue k c) o = begins_wait s.pending t u (Waiting k c) refl o
wait_turns t u s (Resume k c) o = ends_wait s.pending t u (Waiting k c) refl o
wait_turns t u s (AlertEnqueue k c) o = begins_wait s.pending t u (AlertWaiting k c) refl o
wait_turns t u s (AlertReturn k c) o = ends_wait s.pending t u (AlertWaiting k c) refl o
wait_turns t u s (AlertRaise k c) o = ends_wait s.pending t u (AlertWaiting k c) refl o
wait_turns t u s (Signal c left) o = goes_on s.pending t u
wait_turns t u s (Broadcast c) o = goes_on s.pending t u
wait_turns t u s (P k) o = goes_on s.pending t u
wait_turns t u s (V k) o = goes_on s.pending t u
wait_turns t u s (Alert w) o = goes_on s.pending t u
wait_turns t u s (TestAlert b) o = goes_on s.pending t u
wait_turns t u s (AlertPReturn k) o = goes_on s.pending t u
wait_turns t u s (AlertPRaise k) o = goes_on s.pending t u
wait_turns t u s (Fork w) o = goes_on s.pending t u
wait_turns t u s End o = goes_on s.pending t u
wait_turns t u s (Join w) o = goes_on s.pending t u

mutexes_along : (m : ℕ) (es : List Event) (s t : Spec) → Leads s es t → InTurn (λ e. is_mutex m (ended_by e.action)) (λ e. is_mutex m (begun_by e.action)) (is_held (s.holder m)) es
mutexes_along m [] s t r = tt
mutexes_along m (e ∷ es) s t r =
    let ends : Event → Bool = λ (x : Event). is_mutex m (ended_by x.action) in
    let begins : Event → Bool = λ (x : Event). is_mutex m (begun_by x.action) in
    let h = mutex_turns m e.thread.0 s e.action r.1.0.requires_met r.1.0.when_met in
    let is : is_held (r.0.holder m) ≡ cond (begins e) true (cond (ends e) false (is_held (s.holder m))) = ap (λ (x : Spec). is_held (x.holder m)) r.1.1 ∙ h.2 in
    (h.0, h.1, subst (λ b. InTurn ends begins b es) is (mutexes_along m es r.0 t r.2))

pub mutexes_in_turn : MutexesInTurn
mutexes_in_turn = λ version es s r m. mutexes_along m es (at_first version) s r

waits_along : (n : ℕ) (es : List Event) (s t : Spec) → Leads s es t → InTurn (λ e. eqb n e.thread.0 && is_wait (ended_by e.action)) (λ e. eqb n e.thread.0 && is_wait (begun_by e.action)) (is_waiting (s.pending n)) es
waits_along n [] s t r = tt
waits_along n (e ∷ es) s t r =
    let ends : Event → Bool = λ (x : Event). eqb n x.thread.0 && is_wait (ended_by x.action) in
    let begins : Event → Bool = λ (x : Event). eqb n x.thread.0 && is_wait (begun_by x.action) in
    let h = wait_turns n e.thread.0 s e.action r.1.0.order in
    let is : is_waiting (r.0.pending n) ≡ cond (begins e) true (cond (ends e) false (is_waiting (s.pending n))) = ap (λ (x : Spec). is_waiting (x.pending n)) r.1.1 ∙ h.2 in
    (h.0, h.1, subst (λ b. InTurn ends begins b es) is (waits_along n es r.0 t r.2))

pub waits_in_turn : WaitsInTurn
waits_in_turn = λ version es s r t. waits_along t es (at_first version) s r
