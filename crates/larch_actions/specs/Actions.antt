-- The state of the specification, what each atomic action asks and does, and what a run is.
use Rattle.std.specs.Prelude.{◌≡◌, ◌≢◌, ◌⊎◌, ℕ, Bool, true, false, cond, eqb, List, [], ◌∷◌, ◌++◌}
use mathlib.Core.Option.{Option, none, some}
use Rattle.larch_actions.specs.declared.event.Event.{Event}
use Rattle.larch_actions.specs.declared.event.Action.{Action}
use Rattle.larch_actions.specs.declared.event.Action.TheVariants.{Acquire, Release, Enqueue, Resume, AlertEnqueue, AlertReturn, AlertRaise, Signal, Broadcast, P, V, Alert, TestAlert, AlertPReturn, AlertPRaise, Fork, End, Join}
use Rattle.larch_actions.specs.declared.event.Broken.{Broken}
use Rattle.larch_actions.specs.declared.event.Broken.TheVariants as broken
use Rattle.larch_actions.specs.declared.event.Version.{Version}
use Rattle.larch_actions.specs.declared.event.Version.TheVariants.{One, Two}
use Rattle.larch_actions.specs.declared.event.Life.{Life}
use Rattle.larch_actions.specs.declared.event.Life.TheVariants.{Unborn, Live, Ended}
use Rattle.larch_actions.specs.declared.event.Pending.{Pending}
use Rattle.larch_actions.specs.declared.event.Pending.TheVariants.{Nothing, Waiting, AlertWaiting}
use Rattle.larch_actions.specs.Sets.{in_set}

pub record Spec : Type 0 where
  -- who holds each mutex
  pub holder : ℕ → Option ℕ
  -- which threads each condition has
  pub members : ℕ → ℕ → Bool
  -- which semaphores are available
  pub avail : ℕ → Bool
  -- which threads are alerted
  pub alerts : ℕ → Bool
  -- what each thread has begun
  pub pending : ℕ → Pending
  -- whether each thread has been forked, and whether it has ended
  pub life : ℕ → Life

-- a function that is x at k, and else f
abbrev pub put : {A : Type 0} → (ℕ → A) → ℕ → A → ℕ → A
put f k x j = cond (eqb j k) x (f j)

-- in version one all threads live at first, and in version two thread 0 alone
abbrev pub lives_at_first : Version → ℕ → Life
lives_at_first One = λ _. Live
lives_at_first Two = put (λ _. Unborn) 0 Live

abbrev pub at_first : Version → Spec
at_first version =
    record {
      holder = λ _. none;
      members = λ _ _. false;
      avail = λ _. true;
      alerts = λ _. false;
      pending = λ _. Nothing;
      life = lives_at_first version;
    }

-- Order, of a thread that lives: in a wait it makes the second part of this wait next, and else no second part
abbrev pub KeepsOrder : Pending → Action → Type 0
KeepsOrder now (Resume m c) = now ≡ Waiting m c
KeepsOrder now (AlertReturn m c) = now ≡ AlertWaiting m c
KeepsOrder now (AlertRaise m c) = now ≡ AlertWaiting m c
KeepsOrder now _ = now ≡ Nothing

-- REQUIRES: what the thread t owes
abbrev pub MeetsRequires : ℕ → Spec → Action → Type 0
MeetsRequires t old (Release m) = old.holder m.0 ≡ some t
MeetsRequires t old (Enqueue m c) = old.holder m.0 ≡ some t
MeetsRequires t old (AlertEnqueue m c) = old.holder m.0 ≡ some t
MeetsRequires t old (Fork who) = old.life who.0 ≡ Unborn
MeetsRequires t old End = (m : ℕ) → old.holder m ≢ some t
MeetsRequires t old _ = Unit {0}

-- WHEN: what the thread t waits for
abbrev pub MeetsWhen : ℕ → Spec → Action → Type 0
MeetsWhen t old (Acquire m) = old.holder m.0 ≡ none
MeetsWhen t old (Resume m c) = (old.holder m.0 ≡ none) × (old.members c.0 t ≡ false)
MeetsWhen t old (AlertReturn m c) = (old.holder m.0 ≡ none) × (old.members c.0 t ≡ false)
MeetsWhen t old (AlertRaise m c) = (old.holder m.0 ≡ none) × (old.alerts t ≡ true)
MeetsWhen t old (P s) = old.avail s.0 ≡ true
MeetsWhen t old (AlertPReturn s) = old.avail s.0 ≡ true
MeetsWhen t old (AlertPRaise s) = old.alerts t ≡ true
MeetsWhen t old (Join who) = old.life who.0 ≡ Ended
MeetsWhen t old _ = Unit {0}

-- the left set is empty, or a proper subset of the condition
abbrev pub MayLeave : (ℕ → Bool) → (ℕ → Bool) → Type 0
MayLeave old left = ((t : ℕ) → left t ≡ false) ⊎ (((t : ℕ) → left t ≡ true → old t ≡ true) × ((t : ℕ) × (old t ≡ true) × (left t ≡ false)))

-- ENSURES, as far as the event carries a choice: the threads left by Signal, the answer of TestAlert
abbrev pub MeetsChoice : ℕ → Spec → Action → Type 0
MeetsChoice t old (Signal c left) = MayLeave (old.members c.0) (in_set left)
MeetsChoice t old (TestAlert answer) = answer ≡ old.alerts t
MeetsChoice t old _ = Unit {0}

abbrev pub without_member : Spec → ℕ → ℕ → ℕ → ℕ → Bool
without_member old c t = put old.members c (put (old.members c) t false)

-- ENSURES: the state after the action by t
abbrev pub acted : ℕ → Spec → Action → Spec
acted t old (Acquire m) = record old { holder = put old.holder m.0 (some t) }
acted t old (Release m) = record old { holder = put old.holder m.0 none }
acted t old (Enqueue m c) =
    record old {
      holder = put old.holder m.0 none;
      members = put old.members c.0 (put (old.members c.0) t true);
      pending = put old.pending t (Waiting m c);
    }
acted t old (Resume m c) = record old { holder = put old.holder m.0 (some t); pending = put old.pending t Nothing }
acted t old (AlertEnqueue m c) =
    record old {
      holder = put old.holder m.0 none;
      members = put old.members c.0 (put (old.members c.0) t true);
      pending = put old.pending t (AlertWaiting m c);
    }
acted t old (AlertReturn m c) = record old { holder = put old.holder m.0 (some t); pending = put old.pending t Nothing }
acted t old (AlertRaise m c) =
    record old {
      holder = put old.holder m.0 (some t);
      members = without_member old c.0 t;
      alerts = put old.alerts t false;
      pending = put old.pending t Nothing;
    }
acted t old (Signal c left) = record old { members = put old.members c.0 (in_set left) }
acted t old (Broadcast c) = record old { members = put old.members c.0 (λ _. false) }
acted t old (P s) = record old { avail = put old.avail s.0 false }
acted t old (V s) = record old { avail = put old.avail s.0 true }
acted t old (Alert who) = record old { alerts = put old.alerts who.0 true }
acted t old (TestAlert answer) = record old { alerts = put old.alerts t false }
acted t old (AlertPReturn s) = record old { avail = put old.avail s.0 false }
acted t old (AlertPRaise s) = record old { alerts = put old.alerts t false }
acted t old (Fork who) = record old { life = put old.life who.0 Live }
acted t old End = record old { life = put old.life t Ended }
acted t old (Join who) = old

-- the event keeps the order, as only one by a thread that lives does, and its action's row in the state before it
pub record MayAct (old : Spec) (e : Event) : Type 0 where
  pub live : old.life e.thread.0 ≡ Live
  pub order : KeepsOrder (old.pending e.thread.0) e.action
  pub requires_met : MeetsRequires e.thread.0 old e.action
  pub when_met : MeetsWhen e.thread.0 old e.action
  pub choice_met : MeetsChoice e.thread.0 old e.action

abbrev pub Acts : Spec → Event → Spec → Type 0
Acts old e new = MayAct old e × (new ≡ acted e.thread.0 old e.action)

-- its thread lives, and makes what comes next
abbrev pub IsInOrder : Spec → Event → Type 0
IsInOrder old e = (old.life e.thread.0 ≡ Live) × KeepsOrder (old.pending e.thread.0) e.action

-- the first of Order, REQUIRES, WHEN and ENSURES that the event fails
abbrev pub Fails : Spec → Event → Broken → Type 0
Fails old e broken.Order = ¬ IsInOrder old e
Fails old e broken.Requires = IsInOrder old e × ¬ MeetsRequires e.thread.0 old e.action
Fails old e broken.When = IsInOrder old e × MeetsRequires e.thread.0 old e.action × ¬ MeetsWhen e.thread.0 old e.action
Fails old e broken.Ensures =
    IsInOrder old e × MeetsRequires e.thread.0 old e.action × MeetsWhen e.thread.0 old e.action × ¬ MeetsChoice e.thread.0 old e.action

-- the events lead from the first state to the second
abbrev pub Leads : Spec → List Event → Spec → Type 0
Leads s [] t = s ≡ t
Leads s (e ∷ es) t = (u : Spec) × Acts s e u × Leads u es t

abbrev pub IsRun : Version → List Event → Spec → Type 0
IsRun version es t = Leads (at_first version) es t

abbrev pub IsLegal : Version → List Event → Type 0
IsLegal version es = (t : Spec) × IsRun version es t

-- no thread lives any more, where threads end
abbrev pub AreOver : Version → (ℕ → Life) → Type 0
AreOver One life = Unit {0}
AreOver Two life = (n : ℕ) → life n ≢ Live

-- a legal list after which nothing is held, nothing is pending, and in version two no thread lives
abbrev pub IsClosed : Version → List Event → Type 0
IsClosed version es =
    (t : Spec) × IsRun version es t × ((m : ℕ) → t.holder m ≡ none) × ((n : ℕ) → t.pending n ≡ Nothing) × AreOver version t.life

-- all events before the place are a run, and the event there fails this clause first
abbrev pub FirstFault : Version → List Event → List Event → Event → Broken → Type 0
FirstFault version es before e why =
    (rest : List Event) × (t : Spec) × (es ≡ before ++ (e ∷ rest)) × IsRun version before t × Fails t e why

-- the events of one thread, in order
abbrev pub by_thread : ℕ → List Event → List Event
by_thread t [] = []
by_thread t (e ∷ es) = cond (eqb e.thread.0 t) (e ∷ by_thread t es) (by_thread t es)

abbrev pub StartsWith : List Event → List Event → Type 0
StartsWith xs ys = (zs : List Event) × (xs ≡ ys ++ zs)
