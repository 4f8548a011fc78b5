-- THE RULE, in public words: what is true between any two steps of the words, the slots at home and
-- the views of the threads. The law `laws::the_rule_says` proves it of every state that meets the
-- invariant.
use Rattle.std.specs.Prelude.{Bool, Option as Opt, true, false, ◌≡◌, ◌≢◌, ◌↔◌, ◌⊎◌, ℕ, ◌+◌, ◌<◌, ◌≤◌, List, [], ◌∷◌, ◌++◌, length, slice_index, Some, None}
use mathlib.Core.Option.{Option, some}
use lib.ListN.{get_elem?}
use Rattle.larch_actions.specs.declared.event.Layout.{Layout}
use Rattle.larch_actions.specs.declared.event.Life.TheVariants.{Live}
use Rattle.larch_actions.specs.declared.event.Version.{Version}
use Rattle.larch_actions.specs.declared.event.Event.{Event}
use Rattle.larch_actions.specs.declared.event.Pending.TheVariants.{Nothing}
use Rattle.larch_actions.specs.Actions.{Spec, IsRun, Leads, StartsWith, by_thread}
use Rattle.larch_actions.specs.Layout.{IsNamed}
use Rattle.larch_actions.specs.Sets.{mem}
use Rattle.atomic_table.specs.Table.{State}
use Rattle.nub_rule.specs.declared.rule.Slot.{Slot}
use Rattle.nub_rule.specs.declared.rule.Slot.TheVariants.{Value, Queue}
use Rattle.nub_rule.specs.declared.view.Child.{Child}
use Rattle.nub_rule.specs.declared.view.Child.TheVariants.{No as Childless, May, Forked}
use Rattle.nub_rule.specs.declared.view.Kind.TheVariants.{Root, Member, Collector}
use Rattle.nub_rule.specs.declared.view.Part.{Part}
use Rattle.nub_rule.specs.declared.view.Pen.TheVariants.{No, Read, Made}
use Rattle.nub_rule.specs.declared.view.Stand.{Stand}
use Rattle.nub_rule.specs.declared.view.View.{View}
use Rattle.nub_rule.specs.declared.view.Wait.{Wait}
use Rattle.nub_rule.specs.declared.view.WaitBit.TheVariants.{Closing, Quiet}
use Rattle.nub_rule.specs.Items.{Each, Distinct, queue_of, places_from}
use Rattle.nub_rule.specs.Begun.{raisers}
use Rattle.nub_rule.specs.declared.view.Stint.{Stint}
use Rattle.larch_actions.specs.Takers.{givers}
use Rattle.nub_rule.specs.Stints.{AreInTurn, StintsLead, stinters, stints_at, stints_by}
use Rattle.nub_rule.specs.Owed.{HasTurn, IsAsleep, MustLook, SomebodyMustLook}
use Rattle.nub_rule.specs.Parts.{Got, Has, HasNothing, IsFound, closing_on, counts_in, first_part, newborn, number_of, pending_of, unborn, waits_on}
use Rattle.nub_rule.specs.Places.{alert_at, bit_at, cond_object, count_at, length_at, life_at, most_threads, number_at, pen_at, queue_at, ready_at, sem_object, spin_at, value_at, waits_at}
use Rattle.nub_rule.specs.Rule.{IsKept, IsWith}

-- the count of the condition c, and whether the thread n is ready
abbrev pub count_now : List ℕ → ℕ → ℕ
count_now words c = slice_index words (count_at (cond_object c))

abbrev pub IsReady : List ℕ → ℕ → Type 0
IsReady words n = slice_index words (ready_at n) ≡ 1

-- the thread n is in no queue
abbrev pub IsInNone : (ℕ → List ℕ) → ℕ → Type 0
IsInNone queue n = (o : ℕ) → mem n (queue o) ≡ false

-- the thread has pushed itself somewhere since it last cleared its ready word or took itself out
abbrev pub StandsSomewhere : Opt Stand → Type 0
StandsSomewhere stand = (s : Stand) × (stand ≡ Some s)

-- the thread is in a wait on the mutex m: after its first event with the bit yet to be cleared, or
-- before its end with the bit taken without an event
abbrev pub HasBitInWait : Opt Wait → ℕ → Type 0
HasBitInWait wait m = (w : Wait) × (wait ≡ Some w) × (w.mutex.0 ≡ m) × ((w.bit ≡ Closing) ⊎ (w.bit ≡ Quiet))

module _ {T H : Type 0} where
  -- P holds of the view of the thread n
  abbrev pub ViewIs : List (Part T H) → ℕ → (Part T H → Type 0) → Type 0
  ViewIs views n P = (p : Part T H) × (get_elem? views n ≡ some p) × P p

  -- P holds of some view, and of none
  abbrev pub AnyView : (Part T H → Type 0) → List (Part T H) → Type 0
  AnyView P views = (n : ℕ) × (p : Part T H) × (get_elem? views n ≡ some p) × P p

  abbrev pub NoView : (Part T H → Type 0) → List (Part T H) → Type 0
  NoView P views = Each (λ n p. ¬ P p) views

  -- the word is 1 and P holds of exactly one view, or it is 0 and P holds of none
  abbrev pub IsFlagOf : ℕ → (Part T H → Type 0) → List (Part T H) → Type 0
  IsFlagOf word P views = ((word ≡ 0) × NoView P views)
      ⊎ ((word ≡ 1) × ((n : ℕ) × (p : Part T H) × (get_elem? views n ≡ some p) × P p × Each (λ k q. P q → k ≡ n) views))

  -- the view says that its thread holds the mutex: it has the bit, and is in no wait on the mutex
  abbrev pub SaysHolds : Part T H → ℕ → Type 0
  SaysHolds p m = Has p m × (waits_on p.wait m ≡ false)

  -- the thread of the view has the spin word of the object, popped the thread t there and owes it
  -- its ready word
  abbrev pub OwesAt : ℕ → Part T H → ℕ → Type 0
  OwesAt o p t = (p.spin ≡ Some o) × (mem t p.owed ≡ true)

  abbrev pub Owes : Part T H → ℕ → Type 0
  Owes p t = (o : ℕ) × OwesAt o p t

  -- the thread of the view has the spin word of the condition c, and has taken the thread t out of
  -- c by an advance, but not yet out of the queue
  abbrev pub HasTakenAt : ℕ → Part T H → ℕ → Type 0
  HasTakenAt c p t = (p.spin ≡ Some (cond_object c)) × (mem t p.queue ≡ true) × (mem t p.left ≡ false)

  -- the list is in the view of the thread that has the object's spin word, or, if no thread has it,
  -- is the queue at home
  abbrev pub IsKnown : (Part T H → List ℕ) → List (Option (Slot T)) → List (Part T H) → ℕ → List ℕ → Type 0
  IsKnown known homes views o xs = AnyView (λ p. (p.spin ≡ Some o) × (known p ≡ xs)) views
      ⊎ (NoView (λ p. p.spin ≡ Some o) views × (get_elem? homes (queue_at o) ≡ some (some (Queue (queue_of xs)))))

  -- HISTORY: one list, the longest that any thread has seen; each thread has seen a beginning of
  -- it, and its part by each thread is that thread's own events
  pub record History (l : Layout) (log : List Event) (views : List (Part T H)) : Type 0 where
    pub begins : Each (λ n p. StartsWith log p.seen) views
    pub longest : (log ≡ []) ⊎ AnyView (λ p. p.seen ≡ log) views
    pub own : Each (λ n p. by_thread n log ≡ p.mine) views
    pub people : Each (λ i e. e.thread.0 < length views) log
    pub names : Each (λ i e. IsNamed l e.action) log

  -- MEANING OF THE WORDS: the state of the specification that the words, slots and views represent
  pub record Meaning (words : List ℕ) (homes : List (Option (Slot T))) (views : List (Part T H)) (queue left : ℕ → List ℕ) (state : Spec) :
      Type 0 where
    -- the holder of a mutex is the thread whose view says so, if there is one
    pub holder : (m n : ℕ) → (state.holder m ≡ some n) ↔ ViewIs views n (λ p. SaysHolds p m)
    -- a semaphore is available if and only if its bit is 0, and a thread is alerted if and only if
    -- its alert word is 1
    pub avail : (s : ℕ) → s < 64 → (state.avail s ≡ true) ↔ (slice_index words (bit_at (sem_object s)) ≡ 0)
    pub alerts : (t : ℕ) → t < most_threads → (state.alerts t ≡ true) ↔ (slice_index words (alert_at t) ≡ 1)
    -- what a thread has begun is in its view
    pub pending : Each (λ n p. state.pending n ≡ pending_of p.wait) views
    pub nobody : (t : ℕ) → length views ≤ t → state.pending t ≡ Nothing
    -- the threads in a condition are those of its queue that no advance has taken, and those that
    -- read the count, or took themselves out, when it was what it is now
    pub members : (c n : ℕ) → c < 64 → (state.members c n ≡ true)
        ↔ ((mem n (left c) ≡ true) ⊎ ViewIs views n (λ p. counts_in p.wait c (count_now words c) ≡ true))
    -- the thread with a condition's spin word knows the threads that no advance has taken: some of
    -- the queue. A thread in a wait has taken none
    pub left_known : (c : ℕ) → c < 64 → IsKnown (λ p. p.left) homes views (cond_object c) (left c)
    pub left_in : (c t : ℕ) → mem t (left c) ≡ true → mem t (queue (cond_object c)) ≡ true
    pub none_taken : Each (λ n p. (w : Wait) (c : ℕ) → p.wait ≡ Some w → p.spin ≡ Some (cond_object c)
        → left c ≡ queue (cond_object c)) views

  -- MUTEX BITS: the bit is 1 if and only if exactly one view has the mutex. The holder has it, and
  -- a thread that has it without being its holder is in a wait on it, in which it has yet to clear
  -- the bit, or has taken it again without an event
  pub record MutexBits (mutexes : ℕ) (words : List ℕ) (views : List (Part T H)) (state : Spec) : Type 0 where
    pub bit : (m : ℕ) → m < mutexes → IsFlagOf (slice_index words (bit_at m)) (λ p. Has p m) views
    pub holder_has : Each (λ n p. (m : ℕ) → state.holder m ≡ some n → Has p m) views
    pub between : Each (λ n p. (m : ℕ) → Has p m → state.holder m ≢ some n → HasBitInWait p.wait m) views

  -- SPIN WORDS AND QUEUES: a spin word is 1 if and only if exactly one view has it. The queue is in
  -- that view, or else at home. Its threads are distinct, and its length word is its length
  pub record SpinWords (words : List ℕ) (homes : List (Option (Slot T))) (views : List (Part T H)) (queue : ℕ → List ℕ) : Type 0 where
    pub spin : (o : ℕ) → o < 192 → IsFlagOf (slice_index words (spin_at o)) (λ p. p.spin ≡ Some o) views
    pub queue_known : (o : ℕ) → o < 192 → IsKnown (λ p. p.queue) homes views o (queue o)
    pub distinct : (o : ℕ) → Distinct (queue o)
    pub threads : (o t : ℕ) → mem t (queue o) ≡ true → t < length views
    pub length_word : (o : ℕ) → o < 192 → slice_index words (length_at o) ≡ length (queue o)

  -- QUEUED THREADS: a thread in the queue of an object is in a call that waits there: it pushed
  -- itself, and since then neither took itself out nor cleared its ready word. A thread in the
  -- queue of a condition is in a wait there. A thread that stands nowhere, such as one at rest, is
  -- in no queue, has ready word 0, and no thread owes it that word
  pub record QueuedThreads (words : List ℕ) (views : List (Part T H)) (queue : ℕ → List ℕ) : Type 0 where
    pub waits : Each (λ n p. (o : ℕ) → mem n (queue o) ≡ true → (s : Stand) × (p.stand ≡ Some s) × (s.at ≡ o)) views
    pub waits_in : Each (λ n p. (c : ℕ) → mem n (queue (cond_object c)) ≡ true → (w : Wait) × (p.wait ≡ Some w) × (w.cond.0 ≡ c)) views
    pub elsewhere : Each (λ n p. p.stand ≡ None → IsInNone queue n × (slice_index words (ready_at n) ≡ 0)
        × NoView (λ q. Owes q n) views) views

  -- READY WORDS: a ready word is 0 or 1
  pub record ReadyWords (words : List ℕ) (views : List (Part T H)) (queue : ℕ → List ℕ) : Type 0 where
    pub flag : Each (λ n p. (slice_index words (ready_at n) ≡ 0) ⊎ IsReady words n) views
    -- a thread that stands at an object is in its queue, or is ready, or is owed its ready word by
    -- the thread that popped it and has the spin word
    pub kept : Each (λ n p. (s : Stand) → p.stand ≡ Some s → (mem n (queue s.at) ≡ true)
        ⊎ (IsReady words n ⊎ AnyView (λ q. OwesAt s.at q n) views)) views
    -- a thread that is ready, or is owed its ready word, is in no queue, and has pushed itself
    -- since it last cleared its ready word or took itself out
    pub ready : Each (λ n p. (IsReady words n ⊎ AnyView (λ q. Owes q n) views) → IsInNone queue n × StandsSomewhere p.stand) views
    -- no thread owes a ready word that is 1, and at most one thread owes a thread its ready word
    pub unowed : Each (λ n p. IsReady words n → NoView (λ q. Owes q n) views) views
    pub owed_once : (t : ℕ) → Each (λ j q. Owes q t → Each (λ k r. Owes r t → j ≡ k) views) views
    -- a thread that read its own ready word as 1 and hasn't cleared it finds 1
    pub found : Each (λ n p. (s : Stand) → p.stand ≡ Some s → IsFound s.stage → IsReady words n) views

  -- NO WAKE LOST. First the gates, which are the mutexes and semaphores. If the bit is 0 and the
  -- queue isn't empty, at least one thread must look: it has cleared the bit and hasn't looked at
  -- the queue since, or it left the queue and hasn't tried the bit since, or it is in the queue and
  -- hasn't found the bit set since its push
  pub record NoWakeLost (words : List ℕ) (views : List (Part T H)) (queue : ℕ → List ℕ) (state : Spec) : Type 0 where
    pub looks : (o : ℕ) → o < 128 → slice_index words (bit_at o) ≡ 0 → queue o ≢ [] → SomebodyMustLook o (queue o) views
    -- a thread at rest must look nowhere, and one that sleeps only where it has left a queue
    pub at_rest : Each (λ n p. p.stand ≡ None → p.turns ≡ [] → p.cleared ≡ [] → (o : ℕ) → ¬ MustLook o (queue o) n p) views
    pub asleep : Each (λ n p. (s : Stand) → p.stand ≡ Some s → IsAsleep s.stage → (o : ℕ) → MustLook o (queue o) n p
        → HasTurn o (queue o) n p) views
    -- so if a thread stands at a gate, it is ready, or the thread with the spin word owes it its
    -- ready word, or the bit is set, or some thread must look
    pub waits : Each (λ n p. (s : Stand) → p.stand ≡ Some s → s.at < 128
        → IsReady words n ⊎ (AnyView (λ q. OwesAt s.at q n) views
        ⊎ ((slice_index words (bit_at s.at) ≢ 0) ⊎ SomebodyMustLook s.at (queue s.at) views))) views
    -- Then the conditions: if a thread stands at one and isn't in it, it is ready, or the thread
    -- with the spin word owes it its ready word, or has taken it out by an advance
    pub waits_in : Each (λ n p. (c : ℕ) (s : Stand) → c < 64 → p.stand ≡ Some s → s.at ≡ cond_object c → state.members c n ≡ false
        → IsReady words n ⊎ (AnyView (λ q. OwesAt (cond_object c) q n) views ⊎ AnyView (λ q. HasTakenAt c q n) views)) views

  -- ALERT SEEN: a view that saw its own alert word set, and hasn't swapped it since, finds it set
  abbrev pub AlertSeen : List ℕ → List (Part T H) → Type 0
  AlertSeen words views = Each (λ n p. p.alerted ≡ true → slice_index words (alert_at n) ≡ 1) views

  -- LIVES: a life word is 0 where its thread wasn't forked, 1 where it lives and 2 where it has ended, as the thread's view says. Who doesn't live
  -- has nothing: no mutex, no spin word, no place in a queue or a condition, and no look, wake or begun wait is up to it
  pub record LifeWords (words : List ℕ) (views : List (Part T H)) (state : Spec) : Type 0 where
    pub word : Each (λ n p. slice_index words (life_at n) ≡ number_of p.life) views
    pub life : Each (λ n p. state.life n ≡ p.life) views
    pub idle : Each (λ n p. p.life ≢ Live → HasNothing p) views

  -- COUNTS READ: a count that a view has read is at most the count now, and the thread with the
  -- condition's spin word knows the count
  pub record CountsRead (words : List ℕ) (views : List (Part T H)) : Type 0 where
    pub risen : Each (λ n p. (w : Wait) (k : ℕ) → p.wait ≡ Some w → w.member ≡ Some k → w.cond.0 < 64 → k ≤ count_now words w.cond.0) views
    pub known : Each (λ n p. (c : ℕ) → c < 64 → p.spin ≡ Some (cond_object c) → p.count ≡ count_now words c) views

  -- BEGUN WAITS: the word of a condition counts the views that have raised it and haven't lowered
  -- it, so it is 0 if and only if none has. Each thread in the condition is one of these
  pub record BegunWaits (words : List ℕ) (views : List (Part T H)) (state : Spec) : Type 0 where
    pub word : (c : ℕ) → c < 64 → slice_index words (waits_at (cond_object c)) ≡ raisers c views
    pub none_begun : (c : ℕ) → c < 64 → (slice_index words (waits_at (cond_object c)) ≡ 0) ↔ NoView (λ p. p.raised ≡ Some c) views
    pub covers : (c n : ℕ) → c < 64 → state.members c n ≡ true → ViewIs views n (λ p. p.raised ≡ Some c)

  -- VALUES AND SHARES: the lock invariant holds of the values last released and all shares. The
  -- value got with a mutex is the one last released; if no thread has the mutex, the value is at
  -- home
  pub record ValuesAndShares (mutexes : ℕ) (holds : List T → List H → Type 0) (homes : List (Option (Slot T))) (views : List (Part T H))
      (values : List T) (shares : List H) : Type 0 where
    pub kept : holds values shares
    pub each_value : length values ≡ mutexes
    pub got : Each (λ n p. (m : ℕ) (x : T) → Got p m x → get_elem? values m ≡ some x) views
    pub home : (m : ℕ) (x : T) → m < mutexes → get_elem? values m ≡ some x → NoView (λ p. Has p m) views
        → get_elem? homes (value_at m) ≡ some (some (Value (Some x)))
    pub each_share : length shares ≡ length views
    pub share : Each (λ n p. (s : H) × (p.share ≡ Some s) × (get_elem? shares n ≡ some s)) views

  -- the thread of the view has begun a wait on the mutex m, and has yet to clear its bit
  abbrev pub HasYetToClear : ℕ → Part T H → Type 0
  HasYetToClear m p = Has p m × (closing_on p.wait m ≡ true)

  -- VALUES ALONG THE HISTORY: the stints of all threads in one order, which lead from first values
  -- and shares to those of now, so that each got what the last stint with its mutex left, or the
  -- first value. Who gives a mutex back in the history is whose stint with it is over, in this
  -- order, and then whoever has yet to clear its bit
  pub record ValuesAlong (holds : List T → List H → Type 0) (log : List Event) (views : List (Part T H)) (values : List T) (shares : List H) :
      Type 0 where
    pub first : List T
    pub first_shares : List H
    pub stints : List (Stint T H)
    pub lead : StintsLead holds first first_shares stints values shares
    pub in_turn : (m : ℕ) (x y : T) → get_elem? first m ≡ some x → get_elem? values m ≡ some y → AreInTurn x (stints_at m stints) y
    pub own : Each (λ n p. stints_by n stints ≡ p.stints) views
    pub gives : (m : ℕ) → (NoView (HasYetToClear m) views × (givers m log ≡ stinters m stints))
        ⊎ ((n : ℕ) × ViewIs views n (HasYetToClear m) × (givers m log ≡ stinters m stints ++ n ∷ []))

  -- NUMBERING: at most one view has the pen, and in an untraced package none. While the pen is
  -- free, the number word of a traced package is the number of events. The places of a thread are
  -- those of its own events in the history
  pub record Numbering (traced : Bool) (log : List Event) (words : List ℕ) (views : List (Part T H)) : Type 0 where
    pub pen : IsFlagOf (slice_index words pen_at) (λ p. p.pen ≢ No) views
    pub untraced : traced ≡ false → NoView (λ p. p.pen ≢ No) views
    pub free : traced ≡ true → slice_index words pen_at ≡ 0 → slice_index words number_at ≡ length log
    -- the number that a view has read with the pen is that of the next event, and after that event
    -- it is the event's own
    pub read : Each (λ n p. (k : ℕ) → p.pen ≡ Read k → k ≡ length log) views
    pub made : Each (λ n p. (k : ℕ) → p.pen ≡ Made k → length log ≡ k + 1) views
    pub places : Each (λ n p. places_from 0 n log ≡ p.places) views

  -- all items
  pub record PackageRule (l : Layout) (traced : Bool) (holds : List T → List H → Type 0) (words : List ℕ) (homes : List (Option (Slot T)))
      (views : List (Part T H)) : Type 0 where
    -- the history and the state to which it leads
    pub log : List Event
    pub state : Spec
    -- the queue of each object, and the threads of each condition's queue that are in the condition
    pub queue : ℕ → List ℕ
    pub left : ℕ → List ℕ
    -- the value last released of each mutex, and the share of each thread
    pub values : List T
    pub shares : List H
    pub history : History l log views
    pub run : IsRun l.version log state
    pub meaning : Meaning words homes views queue left state
    pub mutex_bits : MutexBits l.mutexes words views state
    pub spin_words : SpinWords words homes views queue
    pub queued_threads : QueuedThreads words views queue
    pub ready_words : ReadyWords words views queue
    pub no_wake_lost : NoWakeLost words views queue state
    pub alert_seen : AlertSeen words views
    pub life_words : LifeWords words views state
    pub counts_read : CountsRead words views
    pub begun_waits : BegunWaits words views state
    pub values_and_shares : ValuesAndShares l.mutexes holds homes views values shares
    pub values_along : ValuesAlong holds log views values shares
    pub numbering : Numbering traced log words views

  -- a view without a step of its own: its own events are the same, and what it has seen has stayed or grown
  pub record HasOnlyLearnt (before after : Part T H) : Type 0 where
    pub mine : after.mine ≡ before.mine
    pub seen : StartsWith after.seen before.seen

  -- the views before and after a step of the thread n, whose view was p and is q: its own events grew by these, and what it has seen grew. The
  -- others have made no event, though their views may change, as that of a thread that it forks
  pub record IsStepOf (n : ℕ) (p q : Part T H) (es : List Event) (views views' : List (Part T H)) : Type 0 where
    pub before : get_elem? views n ≡ some p
    pub after : get_elem? views' n ≡ some q
    pub seen : StartsWith q.seen p.seen
    pub mine : q.mine ≡ p.mine ++ es
    pub count : length views' ≡ length views
    pub others : Each (λ k o. k ≢ n → ViewIs views k (λ u. HasOnlyLearnt u o)) views'

module _ {T H W : Type 0} where
  -- what a thread says of a child: it hasn't begun if its right was taken in, and lives and has
  -- done nothing if it was forked
  abbrev pub ChildIs : Version → W → (W → ℕ → H) → List (Part T H) → Child → Type 0
  ChildIs version w begin views Childless = Unit {0}
  ChildIs version w begin views (May t) = get_elem? views t ≡ some (unborn version (Some (begin w t)))
  ChildIs version w begin views (Forked t seen) = get_elem? views t ≡ some (newborn version seen (Some (begin w t)))

  -- the views of the threads, by their numbers: those of the seats of threads; those that have come
  -- back to a collector; new ones for the threads that the first seat has yet to give out; and new
  -- ones for those that a thread is about to fork or to hand out. Each thread is with exactly one
  -- seat
  pub record AreViews (version : Version) (threads : ℕ) (w : W) (begin : W → ℕ → H) (seats : List (View T H W)) (views : List (Part T H)) :
      Type 0 where
    pub count : length views ≡ threads
    pub seated : (id : ℕ) (v : View T H W) → get_elem? seats id ≡ some v → v.kind ≡ Member → get_elem? views v.number ≡ some v.part
    pub back : (id : ℕ) (v : View T H W) → get_elem? seats id ≡ some v → v.kind ≡ Collector
        → Each (λ n p. get_elem? views n ≡ some p) v.back
    pub child : (id : ℕ) (v : View T H W) → get_elem? seats id ≡ some v → v.kind ≡ Member → ChildIs version w begin views v.child
    -- whoever doesn't live begins no other
    pub childless : (id : ℕ) (v : View T H W) → get_elem? seats id ≡ some v → v.kind ≡ Member → v.part.life ≢ Live → v.child ≡ Childless
    pub to_come : (id : ℕ) (v : View T H W) → get_elem? seats id ≡ some v → v.kind ≡ Root → (n : ℕ) → v.next ≤ n → n < threads
        → get_elem? views n ≡ some (first_part version n (Some (begin w n)))
    pub each : (n : ℕ) → n < threads → (id : ℕ) × (v : View T H W) × (get_elem? seats id ≡ some v) × IsWith v v.kind n
    pub once : (n i j : ℕ) (v u : View T H W) → n < threads → get_elem? seats i ≡ some v → get_elem? seats j ≡ some u → IsWith v v.kind n
        → IsWith u u.kind n → i ≡ j

  -- if a state meets the invariant, the rule holds of its words, its slots at home and the views of
  -- its threads
  abbrev pub RuleHolds : (W → ℕ → H) → (W → List T → List H → Type 0) → Type 0
  RuleHolds begin holds = (l : Layout) (traced : Bool) (w : W) (s : State (Slot T) (View T H W)) → IsKept l traced w begin holds s
      → (views : List (Part T H)) × AreViews l.version l.threads w begin s.views views
      × PackageRule l traced (holds w) s.words s.homes views

  -- words and views determine the history and the state: over the same views there is only one of
  -- each
  abbrev pub OneHistory : (W → List T → List H → Type 0) → Type 0
  OneHistory holds = (l : Layout) (traced : Bool) (w : W) (words words' : List ℕ) (homes homes' : List (Option (Slot T)))
      (views : List (Part T H))
      → (r : PackageRule l traced (holds w) words homes views) (r' : PackageRule l traced (holds w) words' homes' views) → (r'.log ≡ r.log)
      × (r'.state ≡ r.state)

  -- after a step by which the own events of its thread grew by these, the history has grown by them, and they lead from the state before to the state
  -- after. With one event this is that event's action; with none the history and the state are what they were
  abbrev pub EachStep : (W → List T → List H → Type 0) → Type 0
  EachStep holds = (l : Layout) (traced : Bool) (w : W) (words words' : List ℕ) (homes homes' : List (Option (Slot T)))
      (views views' : List (Part T H)) (n : ℕ) (p q : Part T H) (es : List Event) → IsStepOf n p q es views views'
      → (r : PackageRule l traced (holds w) words homes views) (r' : PackageRule l traced (holds w) words' homes' views')
      → (r'.log ≡ r.log ++ es) × Leads r.state es r'.state
