-- What contracts see of a package and of a thread.
use Rattle.std.specs.Prelude.{Bool, true, false, ◌≡◌, ◌⊎◌, ℕ, ◌<◌, ◌≤◌, List, [], ◌∷◌, ◌++◌, length, map, Option as Opt, Some, None, vec_capacity}
use Rattle.std.proofs.Common.{Vec, Global}
use Rattle.std.specs.List.{range_with_len}
use mathlib.Core.Option.{some}
use lib.ListN.{get_elem?}
use Rattle.larch_actions.specs.declared.event.Event.{Event}
use Rattle.larch_actions.specs.declared.event.Layout.{Layout}
use Rattle.larch_actions.specs.Layout.{IsLawful}
use Rattle.atomic_table.specs.Table.{Me}
use Rattle.atomic_table.specs.Seated.{TableId}
use Rattle.larch_actions.specs.Sets.{mem}
use Rattle.nub_rule.specs.declared.object.Object.{Object}
use Rattle.nub_rule.specs.declared.object.Object.TheVariants.{Mutex, Sem, Cond}
use Rattle.nub_rule.specs.declared.object.Why.{Why}
use Rattle.nub_rule.specs.declared.object.Why.TheVariants.{TryFailed, QueueSeen, Block, Leaving}
use Rattle.nub_rule.specs.declared.package.Entry.{Entry}
use Rattle.nub_rule.specs.declared.package.Stored.{Stored}
use Rattle.nub_rule.specs.declared.rule.About.{About}
use Rattle.nub_rule.specs.declared.rule.Slot.{Slot}
use Rattle.nub_rule.specs.declared.rule.Slot.TheVariants.{Value, Queue}
use Rattle.nub_rule.specs.declared.view.Part.{Part}
use Rattle.nub_rule.specs.declared.view.Wait.{Wait}
use Rattle.nub_rule.specs.declared.view.Stand.{Stand}
use Rattle.nub_rule.specs.declared.view.Child.{Child}
use Rattle.nub_rule.specs.declared.view.View.{View}
use Rattle.nub_rule.specs.declared.view.Kind.TheVariants.{Member}
use Rattle.nub_rule.specs.Items.{queue_of}
use Rattle.nub_rule.specs.Objects.{object_of, IsGate}
use Rattle.nub_rule.specs.Parts.{Got, IsAlerted, IsClear, Lacks, left_turns}
use Rattle.nub_rule.specs.Places.{most_threads, value_at, queue_at, sem_object, cond_object, word_count}
use Rattle.nub_rule.specs.Plays.{Sat, Grows, tail_of, less, recounted, stint}
use Rattle.nub_rule.specs.Slots.{find, IsDistinct, Below}

-- what contracts see of a package
pub record Shape (W : Type 0) : Type 0 where
  -- the package that this is
  pub table_id : TableId
  pub layout : Layout
  pub traced : Bool
  pub world : W

abbrev pub shape_of : {W : Type 0} → TableId → About W → Shape W
shape_of z l = record { table_id = z; layout = l.layout; traced = l.traced; world = l.world.value }

-- whether a list of stored events has lost one, and how many events it has allocated room for
pub record Space : Type 0 where
  pub lost : Bool
  pub capacity : ℕ

abbrev pub space_of : Vec Entry Global → Bool → Space
space_of v lost = record { lost = lost; capacity = vec_capacity v }

-- nothing is lost
abbrev pub free_space : ℕ → Space
free_space capacity = record { lost = false; capacity = capacity }

pub record Known (T H W : Type 0) : Type 0 where
  -- the package that the thread is of
  pub table_id : TableId
  pub number : ℕ
  pub world : Opt W
  -- what its seat's view has of it: a clause names a field of that as one of the thread
  pub part : Part T H
  pub open part use *
  -- what it says of a thread that it forks
  pub child : Child
  -- for each mutex whose bit the thread has, the value, unless it was taken out
  pub values : List (Opt (Opt T))
  -- the events that it has stored with their numbers, and the space for them
  pub entries : List Entry
  pub space : Space
  pub open space use *
  -- the number that it last read with the pen
  pub next : ℕ

module _ {T : Type 0} where
  abbrev pub value_in : Opt (Slot T) → Opt (Opt T)
  value_in None = None
  value_in (Some (Value y)) = Some y
  value_in (Some (Queue q)) = None

  abbrev pub values_of : List (ℕ × Slot T) → List (Opt (Opt T))
  values_of slots = map (λ m. value_in (find (value_at m) slots)) (range_with_len 0 64)

module _ {T H : Type 0} where
  -- the part p, but with the history that q has seen, q's own events and their places
  abbrev pub learnt : Part T H → Part T H → Part T H
  learnt p q = record p { seen = q.seen; mine = q.mine; places = q.places }

module _ {T H W : Type 0} where
  abbrev pub known_as : TableId → ℕ → Me (Slot T) (View T H W) → List Entry → Space → ℕ → Known T H W
  known_as z n me entries space next = record {
    table_id = z;
    number = n;
    world = me.0.world;
    part = me.0.part;
    child = me.0.child;
    values = values_of me.1;
    entries = entries;
    space = space;
    next = next;
  }

  -- the thread k, but with allocated room for so many events
  abbrev pub with_room_for : ℕ → Known T H W → Known T H W
  with_room_for capacity k = record k { space = record k.space { capacity = capacity } }

  -- the thread a, but with what b has seen, made and stored and the number that b read, and its
  -- part then changed by f
  abbrev pub recorded : Known T H W → Known T H W → (Part T H → Part T H) → Known T H W
  recorded a b f = record a { part = f (learnt a.part b.part); entries = b.entries; space = b.space; next = b.next }

  -- the thread has the bit of the mutex, and got x with it
  abbrev pub Holds : Known T H W → ℕ → T → Type 0
  Holds k m x = get_elem? k.held m ≡ some (Some x)

  -- the value of the mutex is with the thread, but not in its slot
  abbrev pub IsOut : Known T H W → ℕ → Type 0
  IsOut k m = get_elem? k.values m ≡ some (Some None)

  -- the value of the mutex is with the thread, in its slot
  abbrev pub IsIn : Known T H W → ℕ → T → Type 0
  IsIn k m y = get_elem? k.values m ≡ some (Some (Some y))

  -- an event was made: the history seen grew to a legal one that ends with it, and the own events
  -- are the thread's part of that. In a traced package its place is the number that was read
  abbrev pub Makes : Event → Known T H W → Known T H W → Type 0
  Makes e a b = (between : List Event) × Grows a.number a.part between e × (b.seen ≡ (a.seen ++ between) ++ e ∷ [])
      × (b.mine ≡ a.mine ++ e ∷ []) × (b.places ≡ a.places ++ length (a.seen ++ between) ∷ [])

  -- the thread may release the mutex: it has the bit, and the slot has a value that the chosen
  -- share allows
  abbrev pub MayGive : (W → ℕ → ℕ → T → T → H → H → Type 0) → (W → ℕ → ℕ → T → T → H → H) → ℕ → Known T H W → Type 0
  MayGive allows after m k = (x : T) × (y : T) × Holds k m x × IsIn k m y
      × ((w : W) (s : H) → k.world ≡ Some w → k.share ≡ Some s → allows w m k.number x y s (after w m k.number x y s))

  -- the new share is the one that was chosen
  abbrev pub PicksShare : (W → ℕ → ℕ → T → T → H → H) → ℕ → Known T H W → Known T H W → Type 0
  PicksShare after m a b = (w : W) (s : H) (x y : T) → a.world ≡ Some w → a.share ≡ Some s → Holds a m x → IsIn a m y
      → b.share ≡ Some (after w m a.number x y s)

  -- one stint with the mutex was entered: the thread left the value in the slot
  abbrev pub EntersStint : (W → ℕ → ℕ → T → T → H → H) → ℕ → Known T H W → Known T H W → Type 0
  EntersStint after m a b = (w : W) (s : H) (x y : T) → a.world ≡ Some w → a.share ≡ Some s → Holds a m x → IsIn a m y
      → b.stints ≡ a.stints ++ stint after w m a.number x y s ∷ []

  -- the thread is in a wait in the condition, and has read its count and not blocked yet
  abbrev pub HasCounted : Object → Known T H W → Type 0
  HasCounted (Cond c) k = (x : Wait) × (j : ℕ) × (k.wait ≡ Some x) × (x.cond.0 ≡ c.0) × (x.member ≡ Some j)
  HasCounted _ k = ⊥

  -- the thread stands at the object, at a stage of this sort
  abbrev pub StandsAs : (Stand → Type 0) → Known T H W → Type 0
  StandsAs P k = (s : Stand) × (k.stand ≡ Some s) × P s

  -- a Signal or Broadcast of the condition is under way: it found that a thread has begun to wait
  -- there
  abbrev pub IsCalling : Object → Known T H W → Type 0
  IsCalling (Cond c) k = k.calling ≡ Some c.0
  IsCalling _ k = ⊥

  -- the reason in the view for which a thread takes the spin word of the object
  abbrev pub HasReason : Object → Known T H W → Why → Type 0
  HasReason at k TryFailed = mem (object_of at) k.failed ≡ true
  HasReason at k QueueSeen = (IsGate at × (mem (object_of at) k.looked ≡ true)) ⊎ IsCalling at k
  HasReason at k Block = HasCounted at k
  HasReason at k Leaving = StandsAs (λ s. (s.at ≡ object_of at) × IsAlerted s.stage) k

  -- the thread may put itself into the queue; into that of a condition only in a wait there, while
  -- the count stays the same
  abbrev pub MayPush : Object → Known T H W → Type 0
  MayPush (Cond c) k = (x : Wait) × (k.wait ≡ Some x) × (x.cond.0 ≡ c.0) × (x.member ≡ Some k.count)
  MayPush _ k = Unit {0}

  -- the thread may pop; from the queue of a condition only a thread that an advance has taken out
  -- of the condition
  abbrev pub MayPop : Object → Known T H W → Type 0
  MayPop (Cond c) k = (k.wait ≡ None) × ((t : ℕ) → mem t (tail_of k.queue) ≡ false → mem t k.left ≡ false)
  MayPop _ k = Unit {0}

  -- the thread may take itself out of the queue in which it stands: it found the bit clear at its
  -- second test, or has seen its alert word set at a semaphore or in its wait at a condition
  abbrev pub MayLeave : Object → Known T H W → Type 0
  MayLeave (Mutex m) k = StandsAs (λ s. (s.at ≡ m.0) × IsClear s.stage) k
  MayLeave (Sem s) k = StandsAs (λ x. (x.at ≡ sem_object s.0) × (IsClear x.stage ⊎ (k.alerted ≡ true))) k
  MayLeave (Cond c) k = StandsAs (λ s. (s.at ≡ cond_object c.0) × IsAlerted s.stage) k × (x : Wait) × (k.wait ≡ Some x) × (x.cond.0 ≡ c.0)

  -- the thread took itself out of the queue: at a gate it is due to try the bit, unless it had
  -- found it set since its push; at a condition it is in the condition by the present count
  abbrev pub HasLeft : Object → Known T H W → Known T H W → Type 0
  HasLeft (Cond c) a b = b ≡ record a {
    part = record a.part
        { queue = less a.number a.queue; left = less a.number a.left; stand = None; wait = recounted a.count a.wait };
  }
  HasLeft _ a b = b ≡ record a {
    part = record a.part
        { queue = less a.number a.queue; left = less a.number a.left; stand = None; turns = left_turns a.stand a.turns };
  }

  -- the thread has the bit of no mutex
  abbrev pub HasNone : Known T H W → Type 0
  HasNone k = (m : ℕ) (x : T) → ¬ Holds k m x

module _ {T H : Type 0} where
  -- the slots at hand are the values of the mutexes whose bits the thread has, and the queue of the
  -- object whose spin word it has
  pub record Hands (p : Part T H) (slots : List (ℕ × Slot T)) : Type 0 where
    pub below : (o : ℕ) → p.spin ≡ Some o → o < 192
    pub queue_in : (o : ℕ) → p.spin ≡ Some o → find (queue_at o) slots ≡ Some (Queue (queue_of p.queue))
    pub queue_out : (o : ℕ) → o < 192 → (p.spin ≡ Some o → ⊥) → find (queue_at o) slots ≡ None
    pub value_got : (m : ℕ) (x : T) → Got p m x → (y : Opt T) × (find (value_at m) slots ≡ Some (Value y))
    pub value_lacked : (m : ℕ) → Lacks p m → find (value_at m) slots ≡ None
    pub settled : p.spin ≡ None → p.owed ≡ []
    -- the queue has room for a thread that stands nowhere
    pub room : (o : ℕ) → p.spin ≡ Some o → p.stand ≡ None → length p.queue < most_threads

-- what holds of each package: the table has the words and slots of its layout, its key says the
-- layout and whether it is traced, and the shelf has room for what each thread has stored
pub record IsPackage {W : Type 0} (z : TableId) (key : About W) (layout : Layout) (traced : Bool) (shelf : List Stored)
    (room unparkers : ℕ) : Type 0 where
  pub words : z.words ≡ word_count
  pub slots : z.slots ≡ value_at layout.mutexes
  pub lawful : IsLawful layout
  pub bare : shelf ≡ []
  pub roomy : layout.threads ≤ room
  pub woken : unparkers ≡ layout.threads
  pub laid_out : key.layout ≡ layout
  pub traced_so : key.traced ≡ traced

module _ {T H W : Type 0} where
  -- what holds of each thread: its seat has its number, its hand has the numbers of its slots,
  -- which are those of its view, and the first thread has room for the value of each mutex
  pub record IsThread (z : TableId) (number : ℕ) (hand : List ℕ) (me : Sat T H W) (kept : List T) (room : ℕ) : Type 0 where
    pub member : me.0.kind ≡ Member
    pub numbered : me.0.number ≡ number
    pub keyed : map (λ x. x.0) me.1 ≡ hand
    pub distinct : IsDistinct me.1
    pub below : Below 256 me.1
    pub wide : length me.0.part.held ≡ 64
    pub hands : Hands me.0.part me.1
    pub bare : kept ≡ []
    pub roomy : number ≡ 0 → z.slots ≤ value_at room
    pub few : number < most_threads
