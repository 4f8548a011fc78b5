-- The items of the rule. Each reads the parts that it names and no others.
use Rattle.std.specs.Prelude.{Bool, true, false, ◌≡◌, ◌≢◌, ℕ, ◌+◌, ◌<◌, ◌≤◌, ◌⊎◌, cond, eqb, List, [], ◌∷◌, ◌++◌, length, slice_index, Some}
use mathlib.Core.Option.{Option, none, some}
use lib.ListN.{get_elem?}
use Rattle.larch_actions.specs.declared.event.Layout.{Layout}
use Rattle.larch_actions.specs.declared.event.Event.{Event}
use Rattle.larch_actions.specs.declared.event.Pending.{Pending}
use Rattle.larch_actions.specs.declared.event.Pending.TheVariants.{Nothing}
use Rattle.larch_actions.specs.declared.event.Version.{Version}
use Rattle.larch_actions.specs.Actions.{Spec, IsRun, StartsWith, by_thread}
use Rattle.larch_actions.specs.Layout.{IsNamed}
use Rattle.larch_actions.specs.Sets.{mem}
use Rattle.nub_rule.specs.declared.rule.Slot.{Slot}
use Rattle.nub_rule.specs.declared.rule.Slot.TheVariants.{Value, Queue}
use Rattle.nub_rule.specs.declared.view.Part.{Part}
use Rattle.nub_rule.specs.declared.view.Wait.{Wait}
use Rattle.nub_rule.specs.declared.view.Stand.{Stand}
use Rattle.nub_rule.specs.declared.view.Pen.{Pen}
use Rattle.nub_rule.specs.declared.view.Pen.TheVariants.{No, Taken, Read, Made, Written}
use Rattle.nub_rule.specs.Places.{most_threads, bit_at, spin_at, length_at, count_at, alert_at, ready_at, life_at, pen_at, number_at, word_count, queue_at, value_at, sem_object, cond_object}
use Rattle.nub_rule.specs.Owed.{WakeOwed}
use Rattle.nub_rule.specs.Begun.{BegunWaits}
use Rattle.nub_rule.specs.Stints.{Stinted}
use Rattle.nub_rule.specs.Parts.{Got, Has, stands_at, IsFound, waits_on, open_on, counts_in, number_of, pending_of}
use Rattle.arrayvec.specs.ArrayVec.{ArrayVec}

-- P holds of each element and its place
abbrev pub Each : {A : Type 0} → (ℕ → A → Type 0) → List A → Type 0
Each P xs = (n : ℕ) (x : _) → get_elem? xs n ≡ some x → P n x

abbrev pub queue_of : List ℕ → ArrayVec ℕ
queue_of xs = record { items = xs }

abbrev pub no_queue : ArrayVec ℕ
no_queue = queue_of []

-- the number is 1 if there is an owner, and 0 if there is none
abbrev pub Marks : ℕ → Option ℕ → Type 0
Marks x owner = ((x ≡ 0) × (owner ≡ none)) ⊎ ((x ≡ 1) × ((n : ℕ) × (owner ≡ some n)))

abbrev pub Flag : List ℕ → ℕ → Option ℕ → Type 0
Flag words i owner = Marks (slice_index words i) owner

-- the number is 1 for true, and 0 for false
abbrev pub Says : ℕ → Bool → Type 0
Says x b = ((x ≡ 0) × (b ≡ false)) ⊎ ((x ≡ 1) × (b ≡ true))

-- no thread is in the list twice
abbrev pub Distinct : List ℕ → Type 0
Distinct [] = Unit {0}
Distinct (x ∷ xs) = (mem x xs ≡ false) × Distinct xs

-- each is below n
abbrev pub Small : ℕ → List ℕ → Type 0
Small n [] = Unit {0}
Small n (x ∷ xs) = (x < n) × Small n xs

-- the places at which the list, whose first place is i, has events of the thread
abbrev pub places_from : ℕ → ℕ → List Event → List ℕ
places_from i t [] = []
places_from i t (e ∷ es) = cond (eqb e.thread.0 t) (i ∷ places_from (i + 1) t es) (places_from (i + 1) t es)

-- the value of a mutex whose bit no thread has is in its slot
abbrev pub AtHome : {T : Type 0} → List (Option (Slot T)) → List T → (ℕ → Option ℕ) → ℕ → Type 0
AtHome {T} homes values owner m = (x : T) → get_elem? values m ≡ some x → owner m ≡ none
    → get_elem? homes (value_at m) ≡ some (some (Value (Some x)))

-- the pen as the thread n has it, when there are `total` events and the number word is `word`
abbrev pub PenFits : ℕ → ℕ → Option ℕ → ℕ → Pen → Type 0
PenFits total word writer n No = writer ≢ some n
PenFits total word writer n Taken = (writer ≡ some n) × (word ≡ total)
PenFits total word writer n (Read k) = (writer ≡ some n) × (word ≡ total) × (k ≡ word)
PenFits total word writer n (Made k) = (writer ≡ some n) × (total ≡ k + 1) × (k ≡ word)
PenFits total word writer n Written = (writer ≡ some n) × (word ≡ total)

-- SEMAPHORES: the bit of a semaphore is 0 if and only if it is available
abbrev pub Semaphores : List ℕ → (ℕ → Bool) → Type 0
Semaphores words avail = (s : ℕ) → s < 64 → Says (slice_index words (bit_at (sem_object s))) (cond (avail s) false true)

-- ALERTS: the alert word of a thread is 1 if and only if it is alerted
abbrev pub Alerts : List ℕ → (ℕ → Bool) → Type 0
Alerts words alerted = (t : ℕ) → t < most_threads → Says (slice_index words (alert_at t)) (alerted t)

module _ {T H : Type 0} where
  -- the history that the thread has seen is a beginning of the whole, and the thread's part of the
  -- whole is its own events
  pub record Chronicle (log : List Event) (n : ℕ) (p : Part T H) : Type 0 where
    pub begins : StartsWith log p.seen
    pub own : by_thread n log ≡ p.mine
    pub placed : places_from 0 n log ≡ p.places

  -- HISTORY: the list of all events. Each is by a thread and has names of the layout, each thread
  -- has seen a beginning of the list, and one has seen all of it, unless it is empty
  pub record HistoryItem (l : Layout) (log : List Event) (all : List (Part T H)) : Type 0 where
    pub people : Each (λ i e. e.thread.0 < length all) log
    pub names : Each (λ i e. IsNamed l e.action) log
    pub each : Each (Chronicle log) all
    pub longest : (log ≡ []) ⊎ ((n : ℕ) × (p : Part T H) × (get_elem? all n ≡ some p) × (p.seen ≡ log))

  -- the thread has the bit of a mutex if and only if it is its owner
  abbrev pub Owns : (ℕ → Option ℕ) → ℕ → Part T H → Type 0
  Owns owner n p = (m : ℕ) → (Has p m → owner m ≡ some n) × (owner m ≡ some n → Has p m)

  -- the value got is the value last released
  abbrev pub Current : List T → ℕ → Part T H → Type 0
  Current values n p = (m : ℕ) (x : T) → Got p m x → get_elem? values m ≡ some x

  -- the share of the thread
  abbrev pub Shared : List H → ℕ → Part T H → Type 0
  Shared shares n p = (s : H) × (p.share ≡ Some s) × (get_elem? shares n ≡ some s)

  abbrev pub Wide : ℕ → Part T H → Type 0
  Wide n p = length p.held ≡ 64

  abbrev pub HasVersion : Version → ℕ → Part T H → Type 0
  HasVersion version n p = p.version ≡ version

  -- MUTEX BITS, VALUES AND SHARES: a bit is 1 if and only if one thread has it; the lock invariant
  -- holds of the values last released and of the shares
  pub record Owned (l : Layout) (holds : List T → List H → Type 0) (owner : ℕ → Option ℕ) (values : List T) (shares : List H)
      (words : List ℕ) (homes : List (Option (Slot T))) (all : List (Part T H)) : Type 0 where
    pub standing : Each (Owns owner) all
    pub within : (m n : ℕ) → owner m ≡ some n → (m < l.mutexes) × (n < length all)
    pub bits : (m : ℕ) → m < l.mutexes → Flag words (bit_at m) (owner m)
    pub at_home : (m : ℕ) → m < l.mutexes → AtHome homes values owner m
    pub values_wide : length values ≡ l.mutexes
    pub current : Each (Current values) all
    pub shares_wide : length shares ≡ length all
    pub shared : Each (Shared shares) all
    pub kept : holds values shares

  -- the thread has the spin word of an object if and only if it spins there, and then knows the
  -- queue and the threads that it owes
  abbrev pub Spinning : (ℕ → Option ℕ) → (ℕ → List ℕ) → (ℕ → List ℕ) → ℕ → Part T H → Type 0
  Spinning spinner queue owed n p = (o : ℕ) → (p.spin ≡ Some o → (spinner o ≡ some n) × (p.queue ≡ queue o) × (p.owed ≡ owed o))
      × (spinner o ≡ some n → p.spin ≡ Some o)

  -- SPIN WORDS AND QUEUES: a spin word is 1 if and only if one thread has it; the queue is in its
  -- slot if no thread has, and the length word is its length
  pub record Spins (spinner : ℕ → Option ℕ) (queue owed : ℕ → List ℕ) (words : List ℕ) (homes : List (Option (Slot T)))
      (all : List (Part T H)) : Type 0 where
    pub spin : (o : ℕ) → o < 192 → Flag words (spin_at o) (spinner o)
    pub within : (o n : ℕ) → spinner o ≡ some n → n < length all
    pub home : (o : ℕ) → o < 192 → spinner o ≡ none → get_elem? homes (queue_at o) ≡ some (some (Queue (queue_of (queue o))))
    pub measured : (o : ℕ) → o < 192 → slice_index words (length_at o) ≡ length (queue o)
    pub settled : (o : ℕ) → spinner o ≡ none → owed o ≡ []
    pub spinning : Each (Spinning spinner queue owed) all

  -- where the thread n stands: a thread in a line stands there and isn't ready; a thread that
  -- stands somewhere is in the line there, or ready
  pub record Stands (words : List ℕ) (line : ℕ → List ℕ) (n : ℕ) (p : Part T H) : Type 0 where
    pub flag : (slice_index words (ready_at n) ≡ 0) ⊎ (slice_index words (ready_at n) ≡ 1)
    pub lined : (o : ℕ) → mem n (line o) ≡ true → (stands_at p.stand o ≡ true) × (slice_index words (ready_at n) ≡ 0)
    pub ready : slice_index words (ready_at n) ≡ 1 → (s : Stand) × (p.stand ≡ Some s)
    pub kept : (s : Stand) → p.stand ≡ Some s → (mem n (line s.at) ≡ true) ⊎ (slice_index words (ready_at n) ≡ 1)
    pub found : (s : Stand) → p.stand ≡ Some s → IsFound s.stage → slice_index words (ready_at n) ≡ 1

  -- LINES AND READY WORDS: the line of an object is the threads that are owed, followed by the
  -- queue
  pub record Lines (line : ℕ → List ℕ) (words : List ℕ) (all : List (Part T H)) : Type 0 where
    pub distinct : (o : ℕ) → Distinct (line o)
    pub people : (o t : ℕ) → mem t (line o) ≡ true → t < length all
    pub stands : Each (Stands words line) all

  -- HOLDERS: a thread that has the bit of a mutex holds it, unless it has begun a wait on it, and
  -- no other thread does. In such a wait it has yet to clear the bit, or has taken it again
  pub record Holders (owner holder : ℕ → Option ℕ) (all : List (Part T H)) : Type 0 where
    pub free : (m : ℕ) → owner m ≡ none → holder m ≡ none
    pub holds : Each (λ n p. (m : ℕ) → owner m ≡ some n → holder m ≡ cond (waits_on p.wait m) none (some n)) all
    pub shut : Each (λ n p. (m : ℕ) → owner m ≡ some n → open_on p.wait m ≡ false) all

  -- PENDINGS: a thread is in a wait if and only if its view says so, and no thread past the last is
  pub record Pendings (pending : ℕ → Pending) (all : List (Part T H)) : Type 0 where
    pub strangers : (t : ℕ) → length all ≤ t → pending t ≡ Nothing
    pub pends : Each (λ n p. pending n ≡ pending_of p.wait) all

  -- what the thread n knows of the conditions
  pub record Knows (spinner : ℕ → Option ℕ) (left : ℕ → List ℕ) (count : ℕ → ℕ) (counting : ℕ → ℕ → Bool) (n : ℕ) (p : Part T H) : Type 0
    where
      pub counts : (c : ℕ) → counting c n ≡ counts_in p.wait c (count c)
      pub risen : (c k : ℕ) → count c < k → counts_in p.wait c k ≡ false
      pub inside : (c : ℕ) → spinner (cond_object c) ≡ some n → (p.left ≡ left c) × (p.count ≡ count c)
      pub even : (w : Wait) → p.wait ≡ Some w → p.left ≡ p.queue

  -- CONDITIONS, AND THE COUNTS READ: the threads in a condition are those of its queue that no
  -- advance has taken, and those whose view says so while the count is the one that they read
  pub record Conditions (words : List ℕ) (spinner : ℕ → Option ℕ) (queue : ℕ → List ℕ) (members : ℕ → ℕ → Bool) (all : List (Part T H)) :
      Type 0 where
    pub left : ℕ → List ℕ
    pub count : ℕ → ℕ
    pub counting : ℕ → ℕ → Bool
    pub member : (c t : ℕ) → members c t ≡ cond (mem t (left c)) true (counting c t)
    pub counted : (c : ℕ) → c < 64 → slice_index words (count_at (cond_object c)) ≡ count c
    pub whole : (c : ℕ) → spinner (cond_object c) ≡ none → left c ≡ queue (cond_object c)
    pub queued : (c t : ℕ) → mem t (queue (cond_object c)) ≡ false → mem t (left c) ≡ false
    pub knows : Each (Knows spinner left count counting) all

  -- ALERT SEEN: a thread that saw its own alert word set, and hasn't swapped it since, finds it set
  abbrev pub AlertSeen : List ℕ → List (Part T H) → Type 0
  AlertSeen words all = Each (λ n p. p.alerted ≡ true → slice_index words (alert_at n) ≡ 1) all

  -- LIVES: a life word is 0 if the thread wasn't forked, 1 if it lives, and 2 if it has ended
  abbrev pub Lives : List ℕ → List (Part T H) → Type 0
  Lives words all = Each (λ n p. slice_index words (life_at n) ≡ number_of p.life) all

  -- MEANING OF THE WORDS: what words and views show of the state of the specification
  pub record Shows (words : List ℕ) (spinner : ℕ → Option ℕ) (queue : ℕ → List ℕ) (owner : ℕ → Option ℕ) (spec : Spec)
      (all : List (Part T H)) : Type 0 where
    pub holders : Holders owner spec.holder all
    pub pendings : Pendings spec.pending all
    pub semaphores : Semaphores words spec.avail
    pub alerts : Alerts words spec.alerts
    pub conditions : Conditions words spinner queue spec.members all
    pub lives : Each (λ n p. spec.life n ≡ p.life) all

  -- NUMBERING: at most one thread has the pen. In a traced package the number word is the number of
  -- events while the pen is free. In an untraced package no thread has the pen
  pub record Pens (traced : Bool) (total : ℕ) (words : List ℕ) (writer : Option ℕ) (all : List (Part T H)) : Type 0 where
    pub flag : Flag words pen_at writer
    pub within : (n : ℕ) → writer ≡ some n → n < length all
    pub free : traced ≡ true → writer ≡ none → slice_index words number_at ≡ total
    pub untraced : traced ≡ false → writer ≡ none
    pub pens : Each (λ n p. PenFits total (slice_index words number_at) writer n p.pen) all

  -- how long the lists are
  pub record Sizes (l : Layout) (words : List ℕ) (homes : List (Option (Slot T))) (all : List (Part T H)) : Type 0 where
    pub words_wide : length words ≡ word_count
    pub homes_wide : length homes ≡ 192 + l.mutexes
    pub lawful : l.mutexes ≤ 64
    pub few : length all ≤ most_threads
    pub count : length all ≡ l.threads
    pub parts_wide : Each Wide all
    pub versions : Each (HasVersion l.version) all

  -- all items, over the words, the slots at home and the part of each thread
  pub record Core {W : Type 0} (l : Layout) (traced : Bool) (w : W) (holds : W → List T → List H → Type 0) (words : List ℕ)
      (homes : List (Option (Slot T))) (all : List (Part T H)) : Type 0 where
    pub log : List Event
    pub spec : Spec
    -- which thread has each mutex's bit, each spin word and the pen; each queue; and the threads
    -- that are owed
    pub owner : ℕ → Option ℕ
    pub spinner : ℕ → Option ℕ
    pub writer : Option ℕ
    pub queue : ℕ → List ℕ
    pub owed : ℕ → List ℕ
    pub values : List T
    pub shares : List H
    pub sizes : Sizes l words homes all
    pub run : IsRun l.version log spec
    pub recorded : HistoryItem l log all
    pub owned : Owned l (holds w) owner values shares words homes all
    pub spins : Spins spinner queue owed words homes all
    pub lines : Lines (λ o. owed o ++ queue o) words all
    pub shows : Shows words spinner queue owner spec all
    pub pens : Pens traced (length log) words writer all
    pub alert_seen : AlertSeen words all
    pub lives : Lives words all
    pub owes : WakeOwed queue words all
    pub begun : BegunWaits words all
    pub stinted : Stinted (holds w) log owner values shares all
