-- What a thread has begun has names of the layout, since each event of the history has.
use Rattle.std.proofs.Common.{Bool, true, false, cond, ◌≡◌, ℕ, suc, ◌<◌, List, [], ◌∷◌, sym, ap, ◌∙◌, subst, refl, Some, None}
use Rattle.std.specs.Prelude.{Option as Opt}
use mathlib.Core.Logic.{dite}
use mathlib.Core.Option.{Option, some}
use native.Mathlib.Decide.{ℕ_discrete}
use lib.ListN.{get_elem?}
use Rattle.larch_actions.specs.declared.event.Event.{Event}
use Rattle.larch_actions.specs.declared.event.Action.{Action}
use Rattle.larch_actions.specs.declared.event.Action.TheVariants.{Enqueue, Resume, AlertEnqueue, AlertReturn, AlertRaise}
use Rattle.larch_actions.specs.declared.event.CondId.{CondId}
use Rattle.larch_actions.specs.declared.event.Layout.{Layout}
use Rattle.larch_actions.specs.declared.event.MutexId.{MutexId}
use Rattle.larch_actions.specs.declared.event.Pending.{Pending}
use Rattle.larch_actions.specs.declared.event.Pending.TheVariants.{Nothing, Waiting, AlertWaiting}
use Rattle.larch_actions.specs.Actions.{Spec, Leads, acted, at_first, put}
use Rattle.larch_actions.specs.Layout.{IsNamed}
use Rattle.nub_rule.specs.declared.rule.Slot.{Slot}
use Rattle.nub_rule.specs.declared.view.Part.{Part}
use Rattle.nub_rule.specs.declared.view.Wait.{Wait}
use Rattle.nub_rule.specs.Items.{Each, Core}
use Rattle.nub_rule.specs.Parts.{pending_of}
use Rattle.nub_rule.specs.Plays.{taken_action}
use Rattle.nub_rule.proofs.Each.{put-at, put-else}

abbrev IsOf : Layout → Pending → Type 0
IsOf l Nothing = Unit {0}
IsOf l (Waiting m c) = (m.0 < l.mutexes) × (c.0 < l.conditions)
IsOf l (AlertWaiting m c) = (m.0 < l.mutexes) × (c.0 < l.conditions)

putting : (l : Layout) (f : ℕ → Pending) (t : ℕ) (x : Pending) → IsOf l x → ((n : ℕ) → IsOf l (f n)) → (n : ℕ) → IsOf l (put f t x n)
putting l f t x own h n = dite (ℕ_discrete n t) (λ e. subst (IsOf l) (sym (put-at f t x n e)) own) (λ ne. subst (IsOf l) (sym (put-else f t n x ne)) (h n))

names-stay : (l : Layout) (t : ℕ) (s : Spec) (a : Action) → IsNamed l a → ((n : ℕ) → IsOf l (s.pending n)) → (n : ℕ) → IsOf l ((acted t s a).pending n)
names-stay l t s (Enqueue m c) named h n = putting l s.pending t (Waiting m c) named h n
names-stay l t s (AlertEnqueue m c) named h n = putting l s.pending t (AlertWaiting m c) named h n
names-stay l t s (Resume m c) named h n = putting l s.pending t Nothing tt h n
names-stay l t s (AlertReturn m c) named h n = putting l s.pending t Nothing tt h n
names-stay l t s (AlertRaise m c) named h n = putting l s.pending t Nothing tt h n
names-stay l t s _ named h n = h n

names-lead : (l : Layout) (s t : Spec) (es : List Event) → Leads s es t → Each (λ i e. IsNamed l e.action) es → ((n : ℕ) → IsOf l (s.pending n)) → (n : ℕ) → IsOf l (t.pending n)
names-lead l s t [] is named h n = subst (λ (z : Spec). IsOf l (z.pending n)) is (h n)
names-lead l s t (e ∷ es) is named h n = names-lead l is.0 t es is.2 (λ i f at. named (suc i) f at)
    (λ k. subst (λ (z : Spec). IsOf l (z.pending k)) (sym is.1.1) (names-stay l e.thread.0 s e.action (named 0 e refl) h k)) n

second-named : (l : Layout) (b : Bool) (m : MutexId) (c : CondId) → IsOf l (cond b (AlertWaiting m c) (Waiting m c)) → IsNamed l (cond b (AlertReturn m c) (Resume m c))
second-named l true m c h = h
second-named l false m c h = h

module _ {T H W : Type 0} (l : Layout) (traced : Bool) (w : W) (holds : W → List T → List H → Type 0) where
  -- the event by which a thread takes a mutex has names of the layout
  pub taken-named : (words : List ℕ) (homes : List (Option (Slot T))) (all : List (Part T H)) (c : Core l traced w holds words homes all) (n : ℕ) (p : Part T H) → get_elem? all n ≡ some p → (m : ℕ) → m < l.mutexes
      → (o : Opt Wait) → p.wait ≡ o → IsNamed l (taken_action m o)
  taken-named words homes all c n p at m low None is = low
  taken-named words homes all c n p at m low (Some x) is = second-named l x.alertable x.mutex x.cond
      (subst (IsOf l) (c.shows.pendings.pends n p at ∙ ap pending_of is) (names-lead l (at_first l.version) c.spec c.log c.run c.recorded.names (λ _. tt) n))
