-- What follows from the rule: what it excludes, in the words of a reader who relies on it.
use Rattle.std.specs.Prelude.{Bool, true, false, ◌≡◌, ◌≢◌, ◌⊎◌, ℕ, ◌<◌, List, [], ◌∷◌, ◌++◌, slice_index, Some, None}
use mathlib.Core.Option.{Option, some}
use lib.ListN.{get_elem?}
use Rattle.larch_actions.specs.declared.event.CondId.{CondId}
use Rattle.larch_actions.specs.declared.event.Layout.{Layout}
use Rattle.larch_actions.specs.declared.event.Life.TheVariants.{Unborn, Live}
use Rattle.larch_actions.specs.Actions.{Spec}
use Rattle.nub_rule.specs.declared.object.Object.TheVariants.{Cond}
use Rattle.nub_rule.specs.declared.object.Why.TheVariants.{QueueSeen}
use Rattle.nub_rule.specs.declared.rule.Slot.{Slot}
use Rattle.nub_rule.specs.declared.view.Part.{Part}
use Rattle.nub_rule.specs.declared.view.Stand.{Stand}
use Rattle.nub_rule.specs.declared.view.Wait.{Wait}
use Rattle.nub_rule.specs.Items.{Each}
use Rattle.nub_rule.specs.Known.{HasReason, Known}
use Rattle.nub_rule.specs.Owed.{MustLook}
use Rattle.nub_rule.specs.PackageRule.{IsReady, Owes, OwesAt, PackageRule}
use Rattle.nub_rule.specs.Parts.{Has}
use Rattle.nub_rule.specs.Places.{bit_at, cond_object, most_threads, spin_at, waits_at}
use Rattle.nub_rule.specs.Plays.{fork_event}

module _ {T H : Type 0} where
  -- some thread lives, and its number and view are such
  abbrev pub SomebodyAlive : (ℕ → Part T H → Type 0) → List (Part T H) → Type 0
  SomebodyAlive P views = (n : ℕ) × (p : Part T H) × (get_elem? views n ≡ some p) × (p.life ≡ Live) × P n p

  -- nobody stands in a queue, has a spin word or is in a wait
  pub record AreQuiet (views : List (Part T H)) : Type 0 where
    pub spin : Each (λ _ p. p.spin ≡ None) views
    pub stand : Each (λ _ p. p.stand ≡ None) views
    pub wait : Each (λ _ p. p.wait ≡ None) views

  pub record Follows (l : Layout) (words : List ℕ) (views : List (Part T H)) (queue : ℕ → List ℕ) (state : Spec) : Type 0 where
    -- no two threads have the bit of one mutex
    pub one_owner : (m i j : ℕ) (p q : Part T H) → m < l.mutexes → get_elem? views i ≡ some p → get_elem? views j ≡ some q → Has p m
        → Has q m → i ≡ j
    -- no thread is owed its ready word by two others
    pub owed_once : (t i j : ℕ) (p q : Part T H) → get_elem? views i ≡ some p → get_elem? views j ≡ some q → Owes p t → Owes q t → i ≡ j
    -- a condition whose word of begun waits is 0 is empty
    pub none_begun : (c n : ℕ) → c < 64 → slice_index words (waits_at (cond_object c)) ≡ 0 → state.members c n ≡ false
    -- who saw its own alert word set is alerted
    pub alerted : Each (λ n p. p.alerted ≡ true → n < most_threads → state.alerts n ≡ true) views
    -- with the spin word of a condition, a thread that waits there and finds the count that its wait began with is in the condition
    pub compared : (c n : ℕ) (p : Part T H) (w : Wait) → c < 64 → get_elem? views n ≡ some p → p.spin ≡ Some (cond_object c)
        → p.wait ≡ Some w → w.cond.0 ≡ c → w.member ≡ Some p.count → state.members c n ≡ true
    -- whoever stands at a free gate is ready, or a thread that lives owes it its ready word or is bound to look there
    pub looked_after : (n : ℕ) (p : Part T H) (s : Stand) → get_elem? views n ≡ some p → p.stand ≡ Some s → s.at < 128
        → slice_index words (bit_at s.at) ≡ 0
        → IsReady words n ⊎ SomebodyAlive (λ k q. OwesAt s.at q n ⊎ MustLook s.at (queue s.at) k q) views
    -- a gate that is free while threads queue there has somebody who lives and is bound to look
    pub looked_at : (o : ℕ) → o < 128 → slice_index words (bit_at o) ≡ 0 → queue o ≢ [] → SomebodyAlive (MustLook o (queue o)) views
    -- while no call is open, no queue has a thread, no spin word is set, and no thread is in a condition
    pub queues_empty : AreQuiet views → (o : ℕ) → queue o ≡ []
    pub spins_clear : AreQuiet views → (o : ℕ) → o < 192 → slice_index words (spin_at o) ≡ 0
    pub conditions_empty : AreQuiet views → (c n : ℕ) → c < 64 → state.members c n ≡ false
    -- and a mutex's bit is 0, or its mutex is held
    pub bits_held : AreQuiet views → (m : ℕ) → m < l.mutexes → (slice_index words (bit_at m) ≡ 0)
        ⊎ ((slice_index words (bit_at m) ≡ 1) × ((n : ℕ) × (state.holder m ≡ some n)))

module _ {T H W : Type 0} where
  -- all of that follows from the rule
  abbrev pub Excludes : (W → List T → List H → Type 0) → Type 0
  Excludes holds = (l : Layout) (traced : Bool) (w : W) (words : List ℕ) (homes : List (Option (Slot T))) (views : List (Part T H))
      → (r : PackageRule l traced (holds w) words homes views) → Follows l words views r.queue r.state

  -- a fork changes two views, the forker's and that of another thread, which was unborn before and lives after
  abbrev pub ForkChangesTwo : (W → List T → List H → Type 0) → Type 0
  ForkChangesTwo holds = (l : Layout) (traced : Bool) (w : W) (words words' : List ℕ) (homes homes' : List (Option (Slot T)))
      (views views' : List (Part T H)) (n t : ℕ)
      → (r : PackageRule l traced (holds w) words homes views) (r' : PackageRule l traced (holds w) words' homes' views')
      → r'.log ≡ r.log ++ fork_event n t ∷ [] → (t ≢ n)
      × ((o : Part T H) → get_elem? views t ≡ some o → o.life ≡ Unborn) × ((o : Part T H) → get_elem? views' t ≡ some o → o.life ≡ Live)

-- a thread that enters the Nub for a queue that it saw, without having read a count, is in a Signal or Broadcast of the condition
abbrev pub EntersToSignal : Type 0 → Type 0 → Type 0 → Type 0
EntersToSignal T H W = (c : CondId) (k : Known T H W) → HasReason (Cond c) k QueueSeen → k.calling ≡ Some c.0
