-- What the view of one thread says.
use Rattle.std.specs.Prelude.{Bool, true, false, Option as Opt, ◌≡◌, ℕ, ◌<◌, cond, eqb, ltb, List, [], ◌∷◌, replicate, Some, None}
use mathlib.Core.Option.{some}
use lib.ListN.{get_elem?}
use Rattle.larch_actions.specs.declared.event.Event.{Event}
use Rattle.larch_actions.specs.declared.event.Life.{Life}
use Rattle.larch_actions.specs.declared.event.Life.TheVariants.{Unborn, Live, Ended}
use Rattle.larch_actions.specs.declared.event.Version.{Version}
use Rattle.larch_actions.specs.declared.event.Version.TheVariants.{One}
use Rattle.larch_actions.specs.Actions.{lives_at_first}
use Rattle.larch_actions.specs.declared.event.Pending.{Pending}
use Rattle.larch_actions.specs.declared.event.Pending.TheVariants.{Nothing, Waiting, AlertWaiting}
use Rattle.nub_rule.specs.declared.view.Part.{Part}
use Rattle.nub_rule.specs.declared.view.Wait.{Wait}
use Rattle.nub_rule.specs.declared.view.WaitBit.{WaitBit}
use Rattle.nub_rule.specs.declared.view.WaitBit.TheVariants.{Closing, Open}
use Rattle.nub_rule.specs.declared.view.Stand.{Stand}
use Rattle.nub_rule.specs.declared.view.Stage.{Stage}
use Rattle.nub_rule.specs.declared.view.Stage.TheVariants.{Pushed, Clear, Tested, Asleep, Alerted, Found}
use Rattle.nub_rule.specs.declared.view.Pen.{Pen}
use Rattle.nub_rule.specs.declared.view.Pen.TheVariants.{No, Read, Made}

-- the thread stands at the object
abbrev pub stands_at : Opt Stand → ℕ → Bool
stands_at None o = false
stands_at (Some s) o = eqb s.at o

-- the stand at a further stage
abbrev pub staged : Stage → Opt Stand → Opt Stand
staged g None = None
staged g (Some s) = Some (record s { stage = g })

-- the thread hasn't tested the bit since its push
abbrev pub IsUntested : Stage → Type 0
IsUntested Pushed = Unit {0}
IsUntested Clear = Unit {0}
IsUntested _ = ⊥

-- the thread has tested the bit since its push
abbrev pub HasTested : Stage → Type 0
HasTested Pushed = ⊥
HasTested Clear = ⊥
HasTested _ = Unit {0}

abbrev pub IsClear : Stage → Type 0
IsClear Clear = Unit {0}
IsClear _ = ⊥

abbrev pub IsFound : Stage → Type 0
IsFound Found = Unit {0}
IsFound _ = ⊥

abbrev pub IsAlerted : Stage → Type 0
IsAlerted Alerted = Unit {0}
IsAlerted _ = ⊥

-- the stage after the thread found its alert word set: a thread that has tested the bit, and hasn't
-- found its ready word set, may leave because of that
abbrev pub alerted_stage : Stage → Stage
alerted_stage Tested = Alerted
alerted_stage Asleep = Alerted
alerted_stage g = g

abbrev pub alerted_stand : Opt Stand → Opt Stand
alerted_stand None = None
alerted_stand (Some s) = Some (record s { stage = alerted_stage s.stage })

-- the gates that a thread must try, after it took itself out of the queue of the gate o at this
-- stage: o too, unless it had found the bit set since its push
abbrev pub turns_from : Stage → ℕ → List ℕ → List ℕ
turns_from Pushed o xs = o ∷ xs
turns_from Clear o xs = o ∷ xs
turns_from _ o xs = xs

abbrev pub left_turns : Opt Stand → List ℕ → List ℕ
left_turns None xs = xs
left_turns (Some s) xs = turns_from s.stage s.at xs

-- a thread that left the queue of a gate must try that gate
abbrev pub turned : Opt Stand → List ℕ → List ℕ
turned None xs = xs
turned (Some s) xs = cond (ltb s.at 128) (s.at ∷ xs) xs

abbrev pub is_at : Opt ℕ → ℕ → Bool
is_at None k = false
is_at (Some n) k = eqb n k

-- the thread is between the two events of a wait on the mutex m
abbrev pub waits_on : Opt Wait → ℕ → Bool
waits_on None m = false
waits_on (Some w) m = eqb w.mutex.0 m

-- the thread is in a wait on the mutex m, in which it cleared the bit and hasn't taken it since
abbrev pub is_open : WaitBit → Bool
is_open Open = true
is_open _ = false

abbrev pub open_on : Opt Wait → ℕ → Bool
open_on None m = false
open_on (Some w) m = cond (is_open w.bit) (eqb w.mutex.0 m) false

-- the thread is in a wait on the mutex m, in which it has yet to clear the bit
abbrev pub is_closing : WaitBit → Bool
is_closing Closing = true
is_closing _ = false

abbrev pub closing_on : Opt Wait → ℕ → Bool
closing_on None m = false
closing_on (Some w) m = cond (is_closing w.bit) (eqb w.mutex.0 m) false

-- the thread is in the condition c by what its view says, if the count is k
abbrev pub counts_in : Opt Wait → ℕ → ℕ → Bool
counts_in None c k = false
counts_in (Some w) c k = cond (eqb w.cond.0 c) (is_at w.member k) false

abbrev pub pending_of : Opt Wait → Pending
pending_of None = Nothing
pending_of (Some w) = cond w.alertable (AlertWaiting w.mutex w.cond) (Waiting w.mutex w.cond)

-- the pen after an event
abbrev pub made : Pen → Pen
made (Read k) = Made k
made p = p

-- an event is made by a thread that lives, and in a traced package by the thread with the pen, its
-- number read and not the greatest
abbrev pub MayRecord : Bool → Life → Pen → Type 0
MayRecord traced life pen = (life ≡ Live) × (traced ≡ true → (k : ℕ) × (pen ≡ Read k) × (k < 18446744073709551615))

-- the life word of a thread with this life
abbrev pub number_of : Life → ℕ
number_of Unborn = 0
number_of Live = 1
number_of Ended = 2

-- the pen may be given back: no number of an event has yet to be written
abbrev pub MayGivePen : Pen → Type 0
MayGivePen No = ⊥
MayGivePen (Made k) = ⊥
MayGivePen _ = Unit {0}

module _ {T H : Type 0} where
  -- the thread has the bit of the mutex, and got this value with it
  abbrev pub Got : Part T H → ℕ → T → Type 0
  Got p m x = get_elem? p.held m ≡ some (Some x)

  abbrev pub Has : Part T H → ℕ → Type 0
  Has p m = (x : T) × Got p m x

  abbrev pub Lacks : Part T H → ℕ → Type 0
  Lacks p m = get_elem? p.held m ≡ some None

  -- a thread that has done nothing, in a history that was this before it
  abbrev pub fresh : Version → Life → List Event → Opt H → Part T H
  fresh version life seen s = record {
    version = version;
    seen = seen;
    mine = [];
    places = [];
    held = replicate 64 None;
    share = s;
    stints = [];
    spin =
        None;
    queue = [];
    owed = [];
    left = [];
    count = 0;
    wait = None;
    stand = None;
    failed = [];
    turns = [];
    cleared = [];
    looked =
        [];
    pen = No;
    alerted = false;
    calling = None;
    raised = None;
    life = life;
  }

  -- the part of a seat that is of no thread
  abbrev pub no_part : Part T H
  no_part = fresh One Unborn [] None

  -- the thread n when its package opens
  abbrev pub first_part : Version → ℕ → Opt H → Part T H
  first_part version n = fresh version (lives_at_first version n) []

  -- a thread that nobody has forked, and one that was forked with this history
  abbrev pub unborn : Version → Opt H → Part T H
  unborn version = fresh version Unborn []

  abbrev pub newborn : Version → List Event → Opt H → Part T H
  newborn version = fresh version Live

  -- the thread holds no mutex and no spin word, owes nobody, waits and stands nowhere, and is bound to no look, Signal or begun wait
  pub record HasNothing (p : Part T H) : Type 0 where
    pub none : (m : ℕ) (x : T) → ¬ Got p m x
    pub spin : p.spin ≡ None
    pub queue : p.queue ≡ []
    pub owed : p.owed ≡ []
    pub left : p.left ≡ []
    pub wait : p.wait ≡ None
    pub stand : p.stand ≡ None
    pub turns : p.turns ≡ []
    pub cleared : p.cleared ≡ []
    pub looked : p.looked ≡ []
    pub calling : p.calling ≡ None
    pub raised : p.raised ≡ None
