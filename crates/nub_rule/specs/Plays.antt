-- What each kind of step says of the seat before and after.
use Rattle.std.specs.Prelude.{Bool, cond, eqb, true, false, ◌≡◌, ◌≢◌, ◌⊎◌, ℕ, ◌+◌, ◌*◌, ◌<◌, List, [], ◌∷◌, ◌++◌, length, slice_set, Some, None, Option as Opt}
use mathlib.Core.Option.{some}
use lib.ListN.{get_elem?}
use Rattle.larch_actions.specs.declared.event.Event.{Event}
use Rattle.larch_actions.specs.declared.event.Action.{Action}
use Rattle.larch_actions.specs.declared.event.Action.TheVariants.{Acquire, Release, Enqueue, AlertEnqueue, Resume, AlertReturn, AlertRaise, Signal, Broadcast, P, V, Alert, TestAlert, AlertPReturn, AlertPRaise, Fork, End, Join}
use Rattle.larch_actions.specs.declared.event.Life.TheVariants.{Ended}
use Rattle.larch_actions.specs.Actions.{IsLegal, by_thread}
use Rattle.larch_actions.specs.Sets.{mem, set_of, without}
use Rattle.atomic_table.specs.Table.{Me, Step, rest}
use Rattle.nub_rule.specs.declared.rule.Slot.{Slot}
use Rattle.nub_rule.specs.declared.rule.Slot.TheVariants.{Value, Queue}
use Rattle.nub_rule.specs.declared.view.Child.TheVariants.{Forked}
use Rattle.nub_rule.specs.declared.view.Part.{Part}
use Rattle.nub_rule.specs.declared.view.Pen.TheVariants.{No, Taken, Read, Written}
use Rattle.nub_rule.specs.declared.view.Stage.TheVariants.{Pushed, Clear, Tested, Asleep, Found}
use Rattle.nub_rule.specs.declared.view.Stand.{Stand}
use Rattle.nub_rule.specs.declared.view.Stint.{Stint}
use Rattle.nub_rule.specs.declared.view.View.{View}
use Rattle.nub_rule.specs.declared.view.Wait.{Wait}
use Rattle.nub_rule.specs.declared.view.WaitBit.TheVariants.{Closing, Open, Quiet}
use Rattle.nub_rule.specs.Items.{Distinct, Small, queue_of}
use Rattle.nub_rule.specs.Parts.{Got, Lacks, alerted_stand, left_turns, made, stands_at, staged, turned}
use Rattle.nub_rule.specs.Places.{most_threads, value_at, spin_at, length_at, queue_at, alert_at, bit_at, count_at, ready_at, life_at, waits_at, sem_object, cond_object}

abbrev pub Sat : Type 0 → Type 0 → Type 0 → Type 0
Sat T H W = Me (Slot T) (View T H W)

abbrev pub event : ℕ → Action → Event
event t a = record { thread = record { 0 = t }; action = a }

abbrev pub acquire_event : ℕ → ℕ → Event
acquire_event t m = event t (Acquire record { 0 = m })

abbrev pub release_event : ℕ → ℕ → Event
release_event t m = event t (Release record { 0 = m })

abbrev pub p_event : ℕ → ℕ → Event
p_event t s = event t (P record { 0 = s })

abbrev pub v_event : ℕ → ℕ → Event
v_event t s = event t (V record { 0 = s })

-- the first event of a wait on the mutex m in the condition c
abbrev pub enqueue_event : Bool → ℕ → ℕ → ℕ → Event
enqueue_event alertable t m c =
    event t (cond alertable (AlertEnqueue record { 0 = m } record { 0 = c }) (Enqueue record { 0 = m } record { 0 = c }))

abbrev pub signal_action : ℕ → List ℕ → Action
signal_action c left = Signal record { 0 = c } (set_of left)

abbrev pub broadcast_action : ℕ → List ℕ → Action
broadcast_action c left = Broadcast record { 0 = c }

abbrev pub alert_event : ℕ → ℕ → Event
alert_event t who = event t (Alert record { 0 = who })

abbrev pub test_alert_event : ℕ → Bool → Event
test_alert_event t answer = event t (TestAlert answer)

-- a P of the semaphore s that an alert may end, but didn't
abbrev pub alert_p_event : ℕ → ℕ → Event
alert_p_event t s = event t (AlertPReturn record { 0 = s })

-- such a P that an alert has ended
abbrev pub alert_p_raise_event : ℕ → ℕ → Event
alert_p_raise_event t s = event t (AlertPRaise record { 0 = s })

-- the second event of an alertable wait on the mutex m in the condition c that an alert has ended
abbrev pub alert_raise_event : ℕ → ℕ → ℕ → Event
alert_raise_event t m c = event t (AlertRaise record { 0 = m } record { 0 = c })

-- the fork of another thread, the thread's own end, and the join of another thread
abbrev pub fork_event : ℕ → ℕ → Event
fork_event t who = event t (Fork record { 0 = who })

abbrev pub end_event : ℕ → Event
end_event t = event t End

abbrev pub join_event : ℕ → ℕ → Event
join_event t who = event t (Join record { 0 = who })

-- the action by which a semaphore is taken, by a P that an alert may end or by any other
abbrev pub p_action : Bool → ℕ → Action
p_action true s = AlertPReturn record { 0 = s }
p_action false s = P record { 0 = s }

-- the thread n may take the semaphore s by the event e
abbrev pub MayTakeSem : ℕ → ℕ → Event → Type 0
MayTakeSem n s e = (e ≡ p_event n s) ⊎ (e ≡ alert_p_event n s)

-- the wait that began with the count k
abbrev pub begun_wait : Bool → ℕ → ℕ → ℕ → Wait
begun_wait alertable m c k = record {
  mutex = record { 0 = m };
  cond = record { 0 = c };
  alertable = alertable;
  bit = Closing;
  member =
      Some k;
}

-- the wait of a thread that is in the condition by no count
abbrev pub unread : Opt Wait → Opt Wait
unread None = None
unread (Some w) = Some (record w { member = None })

-- the wait after the bit of its mutex was cleared
abbrev pub opened : Opt Wait → Opt Wait
opened None = None
opened (Some w) = Some (record w { bit = Open })

-- the wait after the bit of its mutex was taken again, without an event
abbrev pub quieted : Opt Wait → Opt Wait
quieted None = None
quieted (Some w) = Some (record w { bit = Quiet })

-- the wait of a thread that took itself out of the queue of its condition when the count was k
abbrev pub recounted : ℕ → Opt Wait → Opt Wait
recounted k None = None
recounted k (Some w) = Some (record w { member = Some k })

-- the action by which a thread takes the bit of the mutex m, by what it has begun
abbrev pub taken_action : ℕ → Opt Wait → Action
taken_action m None = Acquire record { 0 = m }
taken_action m (Some w) = cond w.alertable (AlertReturn w.mutex w.cond) (Resume w.mutex w.cond)

-- the thread n may take the mutex m by the event e: it has begun nothing, or a wait on m, and has
-- left the condition
abbrev pub MayTake : ℕ → ℕ → Opt Wait → Event → Type 0
MayTake n m wait e = ((wait ≡ None) × (e ≡ acquire_event n m))
    ⊎ ((w : Wait) × (wait ≡ Some w) × (w.mutex.0 ≡ m) × (w.member ≡ None) × (e ≡ event n (taken_action m (Some w))))

-- all but the first, and the first alone
abbrev pub tail_of : List ℕ → List ℕ
tail_of [] = []
tail_of (x ∷ xs) = xs

abbrev pub front : List ℕ → List ℕ
front [] = []
front (x ∷ xs) = x ∷ []

-- the list less its first t
abbrev pub less : ℕ → List ℕ → List ℕ
less t [] = []
less t (x ∷ xs) = cond (eqb x t) xs (x ∷ less t xs)

module _ {T H W : Type 0} where
  -- the stint of the thread t with the mutex m, in which it got x and left y and its share was s
  abbrev pub stint : (W → ℕ → ℕ → T → T → H → H) → W → ℕ → ℕ → T → T → H → Stint T H
  stint after w m t x y s = record { thread = t; mutex = m; got = x; left = y; before = s; after = after w m t x y s }

module _ {T H : Type 0} where
  -- the part after this event of its thread
  abbrev pub recorded : Part T H → List Event → Event → Part T H
  recorded p log e = record p { seen = log ++ e ∷ []; mine = p.mine ++ e ∷ []; places = p.places ++ length log ∷ []; pen = made p.pen }

  -- the history seen grew to a legal one that ends with the event, and the own events are the
  -- thread's part of it
  pub record Grows (n : ℕ) (p : Part T H) (between : List Event) (e : Event) : Type 0 where
    pub legal : IsLegal p.version ((p.seen ++ between) ++ e ∷ [])
    pub own : by_thread n ((p.seen ++ between) ++ e ∷ []) ≡ p.mine ++ e ∷ []
    pub number : (k : ℕ) → p.pen ≡ Read k → k ≡ length (p.seen ++ between)

module _ {T H W : Type 0} where
  abbrev pub with_part : View T H W → Part T H → View T H W
  with_part v p = record v { part = p }

  -- only the part of the view has changed, to q
  abbrev pub Becomes : Sat T H W → Part T H → Sat T H W → Type 0
  Becomes me q me' = me' ≡ (with_part me.0 q, me.1)

  -- the spin word of an object was tried: a thread that wins gets the queue, and is in it only if
  -- it stands there
  abbrev pub take_spin_records : Step (Slot T) → Sat T H W → ℕ → Sat T H W → Type 0
  take_spin_records st me r me' = let p = me.0.part in
      ((o : ℕ) → st.word ≡ spin_at o → r ≡ 0 → (xs : List ℕ) × (k : ℕ) × (p.stand ≡ None → length xs < most_threads) × Small most_threads xs
      × (mem me.0.number xs ≡ true → stands_at p.stand o ≡ true)
      × (me' ≡ (
        with_part me.0 (record p { spin = Some o; queue = xs; owed = []; left = xs; count = k; failed = without o p.failed }),
        (queue_at o, Queue (queue_of xs)) ∷ me.1,
      ))) × (r ≢ 0 → (r ≡ 1) × (me' ≡ me))

  -- the spin word was given back
  abbrev pub give_spin_records : Step (Slot T) → Sat T H W → ℕ → Sat T H W → Type 0
  give_spin_records st me r me' = (r ≡ 1) × (me' ≡ (with_part me.0 (record me.0.part { spin = None; queue = []; left = [] }), rest me.1))

  -- a thread that was owed its ready word was made ready
  abbrev pub set_ready_records : Step (Slot T) → Sat T H W → ℕ → Sat T H W → Type 0
  set_ready_records st me r me' = let p = me.0.part in
      (t : ℕ) → t < most_threads → st.word ≡ ready_at t → (r ≡ 0) × Becomes me (record p { owed = without t p.owed }) me'

  -- the thread's own ready word was read
  abbrev pub read_ready_records : Step (Slot T) → Sat T H W → ℕ → Sat T H W → Type 0
  read_ready_records st me r me' = let p = me.0.part in
      (r ≡ 0 → Becomes me (record p { stand = staged Asleep p.stand }) me')
      × (r ≢ 0 → (r ≡ 1) × Becomes me (record p { stand = staged Found p.stand }) me')

  -- the thread's own ready word was cleared
  abbrev pub clear_ready_records : Step (Slot T) → Sat T H W → ℕ → Sat T H W → Type 0
  clear_ready_records st me r me' = let p = me.0.part in (r ≡ 1) × Becomes me (record p { stand = None; turns = turned p.stand p.turns }) me'

  -- the mutex m was taken, with its value
  abbrev pub Won : (W → ℕ → T → ℕ → H → Type 0) → ℕ → Sat T H W → Sat T H W → Type 0
  Won fits m me me' = let v = me.0 in let p = v.part in let e = event v.number (taken_action m p.wait) in
      (x : T) × (between : List Event) × ((w : W) (s : H) → v.world ≡ Some w → p.share ≡ Some s → fits w m x v.number s)
      × Grows v.number p between e × Lacks p m × (get_elem? (slice_set p.held m (Some x)) m ≡ some (Some x))
      × (me' ≡ (
        with_part v (record (recorded p (p.seen ++ between) e)
            { held = slice_set p.held m (Some x); wait = None; failed = without m p.failed; turns = without m p.turns }),
        (value_at m, Value (Some x)) ∷ me.1,
      ))

  -- the bit of a mutex was tried
  abbrev pub try_bit_records : (W → ℕ → T → ℕ → H → Type 0) → Step (Slot T) → Sat T H W → ℕ → Sat T H W → Type 0
  try_bit_records fits st me r me' = let p = me.0.part in
      (m : ℕ) → st.word ≡ bit_at m → (r ≡ 0 → Won fits m me me')
      × (r ≢ 0 → Becomes me (record p { failed = m ∷ p.failed; turns = without m p.turns }) me')

  -- the mutex m was taken with its value, in a wait and without an event
  abbrev pub WonQuietly : (W → ℕ → T → ℕ → H → Type 0) → ℕ → Sat T H W → Sat T H W → Type 0
  WonQuietly fits m me me' = let v = me.0 in let p = v.part in
      (x : T) × ((w : W) (s : H) → v.world ≡ Some w → p.share ≡ Some s → fits w m x v.number s) × Lacks p m
      × (get_elem? (slice_set p.held m (Some x)) m ≡ some (Some x))
      × (me' ≡ (
        with_part v (record p
            { held = slice_set p.held m (Some x); wait = quieted p.wait; failed = without m p.failed; turns = without m p.turns }),
        (value_at m, Value (Some x)) ∷ me.1,
      ))

  -- the bit of a mutex was tried in a wait, for no event
  abbrev pub take_bit_quiet_records : (W → ℕ → T → ℕ → H → Type 0) → Step (Slot T) → Sat T H W → ℕ → Sat T H W → Type 0
  take_bit_quiet_records fits st me r me' = let p = me.0.part in
      (m : ℕ) → st.word ≡ bit_at m → (r ≡ 0 → WonQuietly fits m me me')
      × (r ≢ 0 → Becomes me (record p { failed = m ∷ p.failed; turns = without m p.turns }) me')

  -- with the value in the slot of the mutex m the thread has the share that was chosen, and one stint more
  abbrev pub Entered : (W → ℕ → ℕ → T → T → H → H) → ℕ → Sat T H W → Opt H → List (Stint T H) → Type 0
  Entered after m me u z = let v = me.0 in let p = v.part in (w : W) (s : H) (x y : T) → v.world ≡ Some w → p.share ≡ Some s → Got p m x
      → me.1 ≡ (value_at m, Value (Some y)) ∷ rest me.1
      → (u ≡ Some (after w m v.number x y s)) × (z ≡ p.stints ++ stint after w m v.number x y s ∷ [])

  -- the mutex m was released, with its value
  abbrev pub Freed : (W → ℕ → ℕ → T → T → H → H) → ℕ → Sat T H W → ℕ → Sat T H W → Type 0
  Freed after m me r me' = let v = me.0 in let p = v.part in let e = release_event v.number m in
      (r ≡ 1) × (between : List Event) × (u : Opt H) × (z : List (Stint T H)) × Grows v.number p between e
      × (me' ≡ (
        with_part v (record (recorded p (p.seen ++ between) e)
            { held = slice_set p.held m None; share = u; stints = z; cleared = m ∷ p.cleared }),
        rest me.1,
      )) × Entered after m me u z

  abbrev pub clear_bit_records : (W → ℕ → ℕ → T → T → H → H) → Step (Slot T) → Sat T H W → ℕ → Sat T H W → Type 0
  clear_bit_records after st me r me' = (m : ℕ) → st.word ≡ bit_at m → Freed after m me r me'

  -- the thread has the mutex, with its slot first, and a value that the new share allows
  abbrev pub MayFree : (W → ℕ → ℕ → T → T → H → H → Type 0) → (W → ℕ → ℕ → T → T → H → H) → ℕ → Sat T H W → Type 0
  MayFree allows after m me = let v = me.0 in let p = v.part in
      (x : T) × (y : T) × Got p m x × (me.1 ≡ (value_at m, Value (Some y)) ∷ rest me.1)
      × ((w : W) (s : H) → v.world ≡ Some w → p.share ≡ Some s → allows w m v.number x y s (after w m v.number x y s))

  -- the length of a queue was read
  abbrev pub read_length_records : Step (Slot T) → Sat T H W → ℕ → Sat T H W → Type 0
  read_length_records st me r me' = let p = me.0.part in
      (o : ℕ) → st.word ≡ length_at o → (r ≡ 0 → Becomes me (record p { cleared = without o p.cleared; looked = without o p.looked }) me')
      × (r ≢ 0 → mem o p.cleared ≡ true → Becomes me (record p { looked = o ∷ p.looked }) me')
      × (r ≢ 0 → mem o p.cleared ≡ false → me' ≡ me)

  -- the thread was put at the end of the queue of a gate
  abbrev pub push_gate_records : Step (Slot T) → Sat T H W → ℕ → Sat T H W → Type 0
  push_gate_records st me r me' = let p = me.0.part in let n = me.0.number in
      (o : ℕ) → st.word ≡ length_at o
      → Becomes me (record p { queue = p.queue ++ n ∷ []; left = p.left ++ n ∷ []; stand = Some record { at = o; stage = Pushed } }) me'

  -- the bit of the object at which the thread stands was read after the push
  abbrev pub test_again_records : Step (Slot T) → Sat T H W → ℕ → Sat T H W → Type 0
  test_again_records st me r me' = let p = me.0.part in
      (s : Stand) → p.stand ≡ Some s → st.word ≡ bit_at s.at → (r ≡ 0 → Becomes me (record p { stand = staged Clear p.stand }) me')
      × (r ≢ 0 → Becomes me (record p { stand = staged Tested p.stand }) me')

  -- the thread left the queue of a gate, in which it was
  abbrev pub take_out_records : Step (Slot T) → Sat T H W → ℕ → Sat T H W → Type 0
  take_out_records st me r me' = let p = me.0.part in let n = me.0.number in
      (o : ℕ) → st.word ≡ length_at o
      → Becomes me (record p { queue = less n p.queue; left = less n p.left; stand = None; turns = o ∷ p.turns }) me'

  -- the first, if there is one, left the queue of a gate, and is owed its ready word
  abbrev pub pop_gate_records : Step (Slot T) → Sat T H W → ℕ → Sat T H W → Type 0
  pop_gate_records st me r me' = let p = me.0.part in (o : ℕ) → st.word ≡ length_at o
      → Becomes me (record p {
        queue = tail_of p.queue;
        owed = p.owed ++ front p.queue;
        left = tail_of p.left;
        cleared =
            without o p.cleared;
        looked = without o p.looked;
      }) me'

  -- the bit of a semaphore was tried, by an event with this action
  abbrev pub try_p_records : (ℕ → Action) → Step (Slot T) → Sat T H W → ℕ → Sat T H W → Type 0
  try_p_records action st me r me' = let v = me.0 in let p = v.part in (s : ℕ) → st.word ≡ bit_at (sem_object s) → let o = sem_object s in
      let e = event v.number (action s) in
      (r ≡ 0 → (between : List Event) × Grows v.number p between e
      × Becomes me (record (recorded p (p.seen ++ between) e) { failed = without o p.failed; turns = without o p.turns }) me')
      × (r ≢ 0 → Becomes me (record p { failed = o ∷ p.failed; turns = without o p.turns }) me')

  -- the bit of a semaphore was cleared
  abbrev pub clear_sem_records : Step (Slot T) → Sat T H W → ℕ → Sat T H W → Type 0
  clear_sem_records st me r me' = let v = me.0 in let p = v.part in (s : ℕ) → st.word ≡ bit_at (sem_object s) → let e = v_event v.number s in
      ((r ≡ 0) ⊎ (r ≡ 1)) × (between : List Event) × Grows v.number p between e
      × Becomes me (record (recorded p (p.seen ++ between) e) { cleared = sem_object s ∷ p.cleared }) me'

  -- the bit of the mutex m was cleared in a wait, and the value handed over: nobody holds m from
  -- the start of the wait
  abbrev pub clear_bit_in_wait_records : (W → ℕ → ℕ → T → T → H → H) → Step (Slot T) → Sat T H W → ℕ → Sat T H W → Type 0
  clear_bit_in_wait_records after st me r me' = let v = me.0 in let p = v.part in (m : ℕ) → st.word ≡ bit_at m
      → (r ≡ 1) × (u : Opt H) × (z : List (Stint T H)) × (me'
      ≡ (
        with_part v (record p { held = slice_set p.held m None; share = u; stints = z; wait = opened p.wait; cleared = m ∷ p.cleared }),
        rest me.1,
      )) × Entered after m me u z

  -- the count of the condition c was read to begin a wait, by a thread whose slot of the mutex m is
  -- first
  abbrev pub load_count_records : Bool → Step (Slot T) → Sat T H W → ℕ → Sat T H W → Type 0
  load_count_records alertable st me r me' = let v = me.0 in let p = v.part in
      (m c : ℕ) (s : Slot T) → st.word ≡ count_at (cond_object c) → me.1 ≡ (value_at m, s) ∷ rest me.1
      → let e = enqueue_event alertable v.number m c in
      (between : List Event) × Grows v.number p between e
      × Becomes me (record (recorded p (p.seen ++ between) e) { wait = Some (begun_wait alertable m c r) }) me'

  -- the count was read under the spin word
  abbrev pub know_count_records : Step (Slot T) → Sat T H W → ℕ → Sat T H W → Type 0
  know_count_records st me r me' = (r ≡ me.0.part.count) × (me' ≡ me)

  -- the count was read under the spin word in a wait, to compare it with the one that the wait began with
  abbrev pub compare_count_records : Step (Slot T) → Sat T H W → ℕ → Sat T H W → Type 0
  compare_count_records st me r me' = let p = me.0.part in
      (r ≡ p.count) × ((x : Wait) (k : ℕ) → p.wait ≡ Some x → x.member ≡ Some k → (r ≡ k → me' ≡ me)
      × (r ≢ k → Becomes me (record p { wait = unread p.wait }) me'))

  -- the thread, for which the count is still the same, was put at the end of the queue of a
  -- condition, where there is no bit to test
  abbrev pub push_cond_records : Step (Slot T) → Sat T H W → ℕ → Sat T H W → Type 0
  push_cond_records st me r me' = let p = me.0.part in let n = me.0.number in (o : ℕ) → st.word ≡ length_at o
      → Becomes me (record p {
        queue = p.queue ++ n ∷ [];
        left = p.left ++ n ∷ [];
        stand = Some record { at = o; stage = Tested };
        wait =
            unread p.wait;
      }) me'

  -- the first, if there is one, left the queue of a condition, and is owed its ready word: an
  -- advance had taken it out of the condition
  abbrev pub pop_cond_records : Step (Slot T) → Sat T H W → ℕ → Sat T H W → Type 0
  pop_cond_records st me r me' = let p = me.0.part in Becomes me (record p { queue = tail_of p.queue; owed = p.owed ++ front p.queue }) me'

  -- the thread left the queue of a condition, in which it was, and is in the condition by the
  -- present count
  abbrev pub leave_cond_queue_records : Step (Slot T) → Sat T H W → ℕ → Sat T H W → Type 0
  leave_cond_queue_records st me r me' = let p = me.0.part in let n = me.0.number in
      Becomes me (record p { queue = less n p.queue; left = less n p.left; stand = None; wait = recounted p.count p.wait }) me'

  -- the count was advanced under the spin word, by an event with this action, and these threads of
  -- the queue were left in the condition
  abbrev pub advance_records : (List ℕ → List ℕ) → (ℕ → List ℕ → Action) → Step (Slot T) → Sat T H W → ℕ → Sat T H W → Type 0
  advance_records leave action st me r me' = let v = me.0 in let p = v.part in
      (c : ℕ) → st.word ≡ count_at (cond_object c) → let ys = leave p.queue in let e = event v.number (action c ys) in
      (r ≡ p.count) × Distinct p.queue × (between : List Event) × Grows v.number p between e
      × Becomes me (record (recorded p (p.seen ++ between) e) { left = ys; count = p.count + 1; calling = None }) me'

  -- the waiters count of the condition c was raised
  abbrev pub raise_waits_records : Step (Slot T) → Sat T H W → ℕ → Sat T H W → Type 0
  raise_waits_records st me r me' = (c : ℕ) → st.word ≡ waits_at (cond_object c) → Becomes me (record me.0.part { raised = Some c }) me'

  -- and lowered
  abbrev pub lower_waits_records : Step (Slot T) → Sat T H W → ℕ → Sat T H W → Type 0
  lower_waits_records st me r me' = Becomes me (record me.0.part { raised = None }) me'

  -- the waiters count of the condition c was read: if it is 0, that is the event, which leaves no
  -- thread; otherwise a Signal or Broadcast is under way
  abbrev pub read_waits_records : (ℕ → List ℕ → Action) → Step (Slot T) → Sat T H W → ℕ → Sat T H W → Type 0
  read_waits_records action st me r me' = let v = me.0 in let p = v.part in
      (c : ℕ) → st.word ≡ waits_at (cond_object c) → let e = event v.number (action c []) in
      (r ≡ 0 → (between : List Event) × Grows v.number p between e × Becomes me (recorded p (p.seen ++ between) e) me')
      × (r ≢ 0 → Becomes me (record p { calling = Some c }) me')

  -- the thread's own alert word was read
  abbrev pub read_alert_records : Step (Slot T) → Sat T H W → ℕ → Sat T H W → Type 0
  read_alert_records st me r me' = let p = me.0.part in
      (p.alerted ≡ true → r ≡ 1) × (r ≡ 0 → me' ≡ me)
      × (r ≢ 0 → (r ≡ 1) × Becomes me (record p { alerted = true; stand = alerted_stand p.stand }) me')

  -- the thread t was alerted
  abbrev pub or_alert_records : Step (Slot T) → Sat T H W → ℕ → Sat T H W → Type 0
  or_alert_records st me r me' = let v = me.0 in let p = v.part in
      (t : ℕ) → t < most_threads → st.word ≡ alert_at t → let e = alert_event v.number t in
      (between : List Event) × Grows v.number p between e × Becomes me (recorded p (p.seen ++ between) e) me'

  -- the thread's own alert word was cleared, by the event that says what it was
  abbrev pub swap_alert_records : Step (Slot T) → Sat T H W → ℕ → Sat T H W → Type 0
  swap_alert_records st me r me' = let v = me.0 in let p = v.part in let e = test_alert_event v.number (eqb r 1) in
      ((r ≡ 0) ⊎ (r ≡ 1)) × (p.alerted ≡ true → r ≡ 1) × (between : List Event) × Grows v.number p between e
      × Becomes me (record (recorded p (p.seen ++ between) e) { alerted = false }) me'

  -- the thread's own alert word was cleared to raise out of a P of the semaphore s, which the mask
  -- names
  abbrev pub swap_alert_in_p_records : Step (Slot T) → Sat T H W → ℕ → Sat T H W → Type 0
  swap_alert_in_p_records st me r me' = let v = me.0 in let p = v.part in
      (s : ℕ) → st.first ≡ 2 * s → let e = alert_p_raise_event v.number s in
      (r ≡ 1) × (between : List Event) × Grows v.number p between e
      × Becomes me (record (recorded p (p.seen ++ between) e) { alerted = false }) me'

  -- the thread's own alert word was cleared to raise out of an alertable wait, with the bit of its
  -- mutex taken
  abbrev pub swap_alert_in_raise_records : Step (Slot T) → Sat T H W → ℕ → Sat T H W → Type 0
  swap_alert_in_raise_records st me r me' = let v = me.0 in let p = v.part in
      (x : Wait) → p.wait ≡ Some x → let e = alert_raise_event v.number x.mutex.0 x.cond.0 in
      (r ≡ 1) × (between : List Event) × Grows v.number p between e
      × Becomes me (record (recorded p (p.seen ++ between) e) { wait = None; alerted = false }) me'

  -- the thread left the queue of a semaphore, in which it was
  abbrev pub leave_sem_queue_records : Step (Slot T) → Sat T H W → ℕ → Sat T H W → Type 0
  leave_sem_queue_records st me r me' = let p = me.0.part in let n = me.0.number in
      Becomes me (record p { queue = less n p.queue; left = less n p.left; stand = None; turns = left_turns p.stand p.turns }) me'

  -- the thread t, whose beginning is the own right, was forked: it is another than this one
  abbrev pub fork_life_records : Step (Slot T) → Sat T H W → ℕ → Sat T H W → Type 0
  fork_life_records st me r me' = let v = me.0 in let p = v.part in
      (t : ℕ) → t < most_threads → st.word ≡ life_at t → let e = fork_event v.number t in
      (t ≢ v.number) × (between : List Event) × Grows v.number p between e
      × (me' ≡ (record v { part = recorded p (p.seen ++ between) e; child = Forked t ((p.seen ++ between) ++ e ∷ []) }, me.1))

  -- the thread ended
  abbrev pub end_life_records : Step (Slot T) → Sat T H W → ℕ → Sat T H W → Type 0
  end_life_records st me r me' = let v = me.0 in let p = v.part in let e = end_event v.number in
      (between : List Event) × Grows v.number p between e × Becomes me (record (recorded p (p.seen ++ between) e) { life = Ended }) me'

  -- the life word of the thread t was read: if it has ended, that is the event
  abbrev pub read_life_records : Step (Slot T) → Sat T H W → ℕ → Sat T H W → Type 0
  read_life_records st me r me' = let v = me.0 in let p = v.part in
      (t : ℕ) → t < most_threads → st.word ≡ life_at t → let e = join_event v.number t in
      (r ≡ 2 → (between : List Event) × Grows v.number p between e × Becomes me (recorded p (p.seen ++ between) e) me') × (r ≢ 2 → me' ≡ me)

  -- the pen was tried, the number read and written, and the pen given back
  abbrev pub take_pen_records : Step (Slot T) → Sat T H W → ℕ → Sat T H W → Type 0
  take_pen_records st me r me' = (r ≡ 0 → Becomes me (record me.0.part { pen = Taken }) me') × (r ≢ 0 → (r ≡ 1) × (me' ≡ me))

  abbrev pub read_number_records : Step (Slot T) → Sat T H W → ℕ → Sat T H W → Type 0
  read_number_records st me r me' = Becomes me (record me.0.part { pen = Read r }) me'

  abbrev pub write_number_records : Step (Slot T) → Sat T H W → ℕ → Sat T H W → Type 0
  write_number_records st me r me' = Becomes me (record me.0.part { pen = Written }) me'

  abbrev pub give_pen_records : Step (Slot T) → Sat T H W → ℕ → Sat T H W → Type 0
  give_pen_records st me r me' = (r ≡ 1) × Becomes me (record me.0.part { pen = No }) me'
