-- What one more event nests.
use Rattle.std.proofs.Common.{◌≡◌, ℕ, ◌<◌, ◌⊎◌, inl, inr, List, [], ◌∷◌, ◌++◌, length, length-append, refl, sym, ap, subst, ◌∙◌, append_assoc, arith}
use mathlib.Core.Option.{Option, none, some, some-injective, some-ne-none}
use Rattle.larch_actions.specs.declared.event.Version.{Version}
use Rattle.larch_actions.specs.declared.event.MutexId.{MutexId}
use Rattle.larch_actions.specs.declared.event.CondId.{CondId}
use Rattle.larch_actions.specs.declared.event.Event.{Event}
use Rattle.larch_actions.specs.declared.event.Action.{Action}
use Rattle.larch_actions.specs.declared.event.Action.TheVariants.{Acquire, Release, Enqueue, Resume, AlertEnqueue, AlertReturn, AlertRaise}
use Rattle.larch_actions.specs.Actions.{Spec, Leads, IsRun, MeetsRequires, MeetsWhen, acted, at_first, put}
use Rattle.trace_check.proofs.Runs.{leads-split}
use Rattle.lock_order.specs.Order.{got, Nests}
use Rattle.lock_order.specs.Kept.{given}

-- a split of a list with one more event at its end
snoc_cases : (es : List Event) (e : Event) (before : List Event) (x : Event) (after : List Event) → es ++ e ∷ [] ≡ before ++ x ∷ after
    → ((before ≡ es) × (x ≡ e)) ⊎ ((rest : List Event) × (es ≡ before ++ x ∷ rest))
snoc_cases [] e [] x after h = inl (refl, cc)
snoc_cases [] e (b ∷ bs) x after h = absurd (omega (arith, ap length h, length-append bs (x ∷ after)))
snoc_cases (y ∷ ys) e [] x after h = let same : y ≡ x = cc in inr (ys, ap (λ z. z ∷ ys) same)
snoc_cases (y ∷ ys) e (b ∷ bs) x after h =
    let same : y ≡ b = cc in
    let rest : ys ++ e ∷ [] ≡ bs ++ x ∷ after = cc in
    elim (snoc_cases ys e bs x after rest) [
      | inl p ↦ inl (ap (λ l. b ∷ l) p.0 ∙ ap (λ z. z ∷ ys) (sym same), p.1)
      | inr p ↦ inr (p.0, ap (λ z. z ∷ ys) same ∙ ap (λ l. b ∷ l) p.1)
    ]

-- who holds what after an action, and after some events, depends on who held what before them alone
holder_after : (t : ℕ) (s u : Spec) (a : Action) → s.holder ≡ u.holder → (acted t s a).holder ≡ (acted t u a).holder
holder_after t s u (Acquire m) e = ap (λ (h : ℕ → Option ℕ). put h m.0 (some t)) e
holder_after t s u (Release m) e = ap (λ (h : ℕ → Option ℕ). put h m.0 none) e
holder_after t s u (Enqueue m c) e = ap (λ (h : ℕ → Option ℕ). put h m.0 none) e
holder_after t s u (Resume m c) e = ap (λ (h : ℕ → Option ℕ). put h m.0 (some t)) e
holder_after t s u (AlertEnqueue m c) e = ap (λ (h : ℕ → Option ℕ). put h m.0 none) e
holder_after t s u (AlertReturn m c) e = ap (λ (h : ℕ → Option ℕ). put h m.0 (some t)) e
holder_after t s u (AlertRaise m c) e = ap (λ (h : ℕ → Option ℕ). put h m.0 (some t)) e
holder_after t s u _ e = e

leads_holder : (s u s' u' : Spec) (es : List Event) → s.holder ≡ u.holder → Leads s es s' → Leads u es u' → s'.holder ≡ u'.holder
leads_holder s u s' u' [] e r q = ap (λ (z : Spec). z.holder) (sym r) ∙ e ∙ ap (λ (z : Spec). z.holder) q
leads_holder s u s' u' (x ∷ es) e r q =
    let next : r.0.holder ≡ q.0.holder = ap (λ (z : Spec). z.holder) r.1.1 ∙ holder_after x.thread.0 s u x.action e ∙ sym (ap (λ (z : Spec). z.holder) q.1.1) in
    leads_holder r.0 q.0 s' u' es next r.2 q.2

-- the event is one that nests these, in the state in which it comes
pub record NestsNow (es : List Event) (now : Spec) (e : Event) (outer inner thread place : ℕ) : Type 0 where
  pub counted : place ≡ length es
  pub actor : e.thread.0 ≡ thread
  pub gets : got e.action ≡ some inner
  pub holds : now.holder outer ≡ some thread

pub nests-more : (es : List Event) (e : Event) (m n t p : ℕ) → Nests es m n t p → Nests (es ++ e ∷ []) m n t p
nests-more es e m n t p h = record {
  before = h.before;
  event = h.event;
  after = h.after ++ e ∷ [];
  version = h.version;
  state = h.state;
  split = ap (λ l. l ++ e ∷ []) h.split ∙ append_assoc h.before (h.event ∷ h.after) (e ∷ []);
  run = h.run;
  counted = h.counted;
  actor = h.actor;
  gets = h.gets;
  holds = h.holds;
}

pub nests-now : (v : Version) (es : List Event) (now : Spec) (e : Event) (m n t p : ℕ) → IsRun v es now → NestsNow es now e m n t p → Nests (es ++ e ∷ []) m n t p
nests-now v es now e m n t p run h = record {
  before = es;
  event = e;
  after = [];
  version = v;
  state = now;
  split = refl;
  run = run;
  counted = h.counted;
  actor = h.actor;
  gets = h.gets;
  holds = h.holds;
}

-- with one more event, only it nests what the others don't
pub nests-either : (v : Version) (es : List Event) (now : Spec) (e : Event) (m n t p : ℕ) → IsRun v es now → Nests (es ++ e ∷ []) m n t p → Nests es m n t p ⊎ NestsNow es now e m n t p
nests-either v es now e m n t p run h =
    elim (snoc_cases es e h.before h.event h.after h.split) [
      | inl c ↦
          let holders : h.state.holder ≡ now.holder = leads_holder (at_first h.version) (at_first v) h.state now es refl (subst (λ l. IsRun h.version l h.state) c.0 h.run) run in
          inr (record {
            counted = h.counted ∙ ap length c.0;
            actor = subst (λ (x : Event). x.thread.0 ≡ t) c.1 h.actor;
            gets = subst (λ (x : Event). got x.action ≡ some n) c.1 h.gets;
            holds = ap (λ (f : ℕ → Option ℕ). f m) (sym holders) ∙ h.holds;
          })
      | inr c ↦ inl (record {
        before = h.before;
        event = h.event;
        after = c.0;
        version = h.version;
        state = h.state;
        split = c.1;
        run = h.run;
        counted = h.counted;
        actor = h.actor;
        gets = h.gets;
        holds = h.holds;
      })
    ]

pub nests-early : (es : List Event) (m n t p : ℕ) → Nests es m n t p → p < length es
nests-early es m n t p h = omega (arith, h.counted, ap length h.split, length-append h.before (h.event ∷ h.after))

no_one : {A : Type 0} (n : ℕ) → none ≡ some n → A
no_one n e = absurd (some-ne-none n (sym e))

-- an action that gets a mutex waits for it to be free
pub got_when : (t : ℕ) (s : Spec) (a : Action) (n : ℕ) → got a ≡ some n → MeetsWhen t s a → s.holder n ≡ none
got_when t s (Acquire m) n e w = subst (λ z. s.holder z ≡ none) (some-injective m.0 n e) w
got_when t s (Resume m c) n e w = subst (λ z. s.holder z ≡ none) (some-injective m.0 n e) w.0
got_when t s (AlertReturn m c) n e w = subst (λ z. s.holder z ≡ none) (some-injective m.0 n e) w.0
got_when t s (AlertRaise m c) n e w = subst (λ z. s.holder z ≡ none) (some-injective m.0 n e) w.0
got_when t s _ n e w = no_one n e

pub got_after : (t : ℕ) (s : Spec) (a : Action) (n : ℕ) → got a ≡ some n → (acted t s a).holder ≡ put s.holder n (some t)
got_after t s (Acquire m) n e = ap (λ z. put s.holder z (some t)) (some-injective m.0 n e)
got_after t s (Resume m c) n e = ap (λ z. put s.holder z (some t)) (some-injective m.0 n e)
got_after t s (AlertReturn m c) n e = ap (λ z. put s.holder z (some t)) (some-injective m.0 n e)
got_after t s (AlertRaise m c) n e = ap (λ z. put s.holder z (some t)) (some-injective m.0 n e)
got_after t s _ n e = no_one n e

-- an action that gives a mutex back is one of its holder
pub given_requires : (t : ℕ) (s : Spec) (a : Action) (n : ℕ) → given a ≡ some n → MeetsRequires t s a → s.holder n ≡ some t
given_requires t s (Release m) n e r = subst (λ z. s.holder z ≡ some t) (some-injective m.0 n e) r
given_requires t s (Enqueue m c) n e r = subst (λ z. s.holder z ≡ some t) (some-injective m.0 n e) r
given_requires t s (AlertEnqueue m c) n e r = subst (λ z. s.holder z ≡ some t) (some-injective m.0 n e) r
given_requires t s _ n e r = no_one n e

pub given_after : (t : ℕ) (s : Spec) (a : Action) (n : ℕ) → given a ≡ some n → (acted t s a).holder ≡ put s.holder n none
given_after t s (Release m) n e = ap (λ z. put s.holder z none) (some-injective m.0 n e)
given_after t s (Enqueue m c) n e = ap (λ z. put s.holder z none) (some-injective m.0 n e)
given_after t s (AlertEnqueue m c) n e = ap (λ z. put s.holder z none) (some-injective m.0 n e)
given_after t s _ n e = no_one n e

-- no thread gets a mutex that it holds
pub not_itself : (v : Version) (es : List Event) (now : Spec) (m t p : ℕ) → IsRun v es now → Nests es m m t p → ⊥
not_itself v es now m t p run h =
    let s = leads-split (at_first v) now h.before (h.event ∷ h.after) (subst (λ l. IsRun v l now) h.split run) in
    let same : s.0.holder ≡ h.state.holder = leads_holder (at_first v) (at_first h.version) s.0 h.state h.before refl s.1 h.run in
    let free : s.0.holder m ≡ none = got_when h.event.thread.0 s.0 h.event.action m h.gets s.2.1.0.when_met in
    some-ne-none t (sym h.holds ∙ ap (λ (f : ℕ → Option ℕ). f m) (sym same) ∙ free)

-- an action that neither gets a mutex nor gives one back leaves the holders
pub others : (a : Action) → ((m : MutexId) → a ≡ Acquire m → ⊥) → ((m : MutexId) → a ≡ Release m → ⊥) → ((m : MutexId) (c : CondId) → a ≡ Enqueue m c → ⊥) → ((m : MutexId) (c : CondId) → a ≡ Resume m c → ⊥)
    → ((m : MutexId) (c : CondId) → a ≡ AlertEnqueue m c → ⊥) → ((m : MutexId) (c : CondId) → a ≡ AlertReturn m c → ⊥) → ((m : MutexId) (c : CondId) → a ≡ AlertRaise m c → ⊥)
    → (got a ≡ none) × ((t : ℕ) (s : Spec) → (acted t s a).holder ≡ s.holder)
others (Acquire m) h i j k l n o = absurd (h m refl)
others (Release m) h i j k l n o = absurd (i m refl)
others (Enqueue m c) h i j k l n o = absurd (j m c refl)
others (Resume m c) h i j k l n o = absurd (k m c refl)
others (AlertEnqueue m c) h i j k l n o = absurd (l m c refl)
others (AlertReturn m c) h i j k l n o = absurd (n m c refl)
others (AlertRaise m c) h i j k l n o = absurd (o m c refl)
others _ h i j k l n o = (refl, λ t s. refl)
