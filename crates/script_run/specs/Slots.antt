-- The slots of a run of version two: its threads before their forks, in their parts and after their
-- ends.
use Rattle.std.specs.Prelude.{◌≡◌, ℕ, ◌<◌, ◌≤◌, Bool, true, false, List, [], ◌∷◌, ◌++◌, map, drop, take, length, Some}
use Rattle.std.specs.List.{AllByRecursion}
use Rattle.larch_actions.specs.declared.event.Event.{Event}
use Rattle.larch_actions.specs.declared.event.Action.TheVariants as action
use Rattle.larch_actions.specs.declared.event.Version.TheVariants.{Two}
use Rattle.nub_rule.specs.Items.{Each}
use Rattle.nub_rule.specs.Known.{Shape}
use Rattle.nub.specs.Forks.{IsLeft, IsRight}
use Rattle.sum_uses.specs.declared.added.Added.{Added}
use Rattle.sum_uses.specs.Sums.{added}
use Rattle.script_text.specs.declared.line.Line.{Line}
use Rattle.script_text.specs.Text.{IsScript}
use Rattle.script_text.specs.Runs.{event, lines_of, total}
use Rattle.script_text.specs.Visits.{AreVisitsOf}
use Rattle.script_run.specs.declared.slots.Slot.{Slot}
use Rattle.script_run.specs.declared.slots.Slot.TheVariants as slot
use Rattle.script_run.specs.Playing.{Player, AreLinked, IsPlaying, visits_of}
use Rattle.script_run.specs.Regions.{below, region}

-- the lists, one after the other
abbrev pub joined : List (List Slot) → List Slot
joined [] = []
joined (r ∷ rs) = r ++ joined rs

abbrev pub slot_number : Slot → ℕ
slot_number (slot.Unborn k) = k.number
slot_number (slot.Live w i b) = w.me.number
slot_number (slot.Ended k) = k.number
slot_number slot.Taken = 0

abbrev pub is_live : Slot → Bool
is_live (slot.Live w i b) = true
is_live _ = false

-- the right to fork a thread, which has added nothing
abbrev pub IsWaiting : Shape (Prim.Unit {0}) → Slot → Type 0
IsWaiting p (slot.Unborn k) = IsRight p (λ w n. let s : List Added = [] in s) k.number k
IsWaiting p _ = ⊥

-- the thread t, which has played its lines before the line i, and goes on there
abbrev pub IsLive : Shape (Prim.Unit {0}) → List Line → ℕ → ℕ → Slot → Type 0
IsLive p xs i t (slot.Live w next b) = (next ≡ i) × IsPlaying p t (take i xs) w.numbers w.me
IsLive p xs i t _ = ⊥

-- the thread has played all its lines of these, and then ended
pub record HasEnded (p : Shape (Prim.Unit {0})) (xs : List Line) (k : Player) : Type 0 where
  pub left : IsLeft p k
  pub calls : List Event
  pub visits : AreVisitsOf xs k.number calls (visits_of k.stints)
  pub mine : k.mine ≡ calls ++ event k.number action.End ∷ []
  pub share : List Added
  pub is_share : k.share ≡ Some share
  pub linked : AreLinked [] k.stints share
  pub sums : (m : ℕ) → m < 64 → added m share ≡ total (lines_of k.number xs) m

abbrev pub IsOver : Shape (Prim.Unit {0}) → List Line → Slot → Type 0
IsOver p xs (slot.Ended k) = HasEnded p xs k
IsOver p xs _ = ⊥

-- the thread t in the last slot has played its lines before the line i; the other slots have the
-- rights to fork the threads that the lines from there on fork below it
pub record AreReady (p : Shape (Prim.Unit {0})) (xs : List Line) (i t : ℕ) (slots : List Slot) : Type 0 where
  pub numbers : map slot_number slots ≡ region (drop i xs) t
  pub prefix : List Slot
  pub last : Slot
  pub split : slots ≡ prefix ++ last ∷ []
  pub waiting : Each (λ n s. IsWaiting p s) prefix
  pub live : IsLive p xs i t last

-- the slots of one thread, which may go on, and of the threads that are forked below it from there
-- on
pub record IsRegion (p : Shape (Prim.Unit {0})) (xs : List Line) (slots : List Slot) : Type 0 where
  pub at : ℕ
  pub t : ℕ
  pub within : at ≤ length xs
  pub ready : AreReady p xs at t slots

-- the slots of some such threads, one after the other
pub record AreRegions (p : Shape (Prim.Unit {0})) (xs : List Line) (slots : List Slot) : Type 0 where
  pub regions : List (List Slot)
  pub each : AllByRecursion (IsRegion p xs) regions
  pub are : slots ≡ joined regions

-- all threads have ended, each in its place
pub record AreOver (p : Shape (Prim.Unit {0})) (xs : List Line) (order : List ℕ) (slots : List Slot) : Type 0 where
  pub numbers : map slot_number slots ≡ order
  pub over : Each (λ n s. IsOver p xs s) slots

-- the lines are those of a script of version two, and its threads in these slots may go on
pub record MayPlay (p : Shape (Prim.Unit {0})) (xs : List Line) (slots : List Slot) : Type 0 where
  pub script : IsScript p.layout xs
  pub version : p.layout.version ≡ Two
  pub few : length xs < 100000
  pub any : 0 < length slots
  pub regions : AreRegions p xs slots

-- from the line i on, the thread t has played its lines before the line k, which fork none
pub record IsAhead (p : Shape (Prim.Unit {0})) (xs : List Line) (t i k : ℕ) (numbers : List ℕ) (me : Player) : Type 0 where
  pub playing : IsPlaying p t (take k xs) numbers me
  pub none : below (drop i xs) t ≡ below (drop k xs) t

-- the thread in the last slot has forked another, whose region is the first `width` slots, and both
-- may go on
pub record AreForked (p : Shape (Prim.Unit {0})) (xs : List Line) (width : ℕ) (before slots : List Slot) : Type 0 where
  pub any : 0 < width
  pub fewer : width < length slots
  pub child : IsRegion p xs (take width slots)
  pub parent : IsRegion p xs (drop width slots)
  pub numbers : map slot_number slots ≡ map slot_number before

-- the last of the slots may go on
pub record EndsLive (slots : List Slot) : Type 0 where
  pub prefix : List Slot
  pub last : Slot
  pub split : slots ≡ prefix ++ last ∷ []
  pub live : is_live last ≡ true

-- the threads of these slots have ended, or may go on
abbrev pub AreOverOrGoOn : Shape (Prim.Unit {0}) → List Line → Bool → List Slot → Type 0
AreOverOrGoOn p xs true slots = AreOver p xs (map slot_number slots) slots
AreOverOrGoOn p xs false slots = AreRegions p xs slots

-- the slots are cut in two: the threads of the first part may go on, and those of the second may
-- too, or have ended
pub record IsCut (p : Shape (Prim.Unit {0})) (xs : List Line) (at : ℕ) (over : Bool) (before slots : List Slot) : Type 0 where
  pub any : over ≡ false → 0 < at
  pub fewer : at < length slots
  pub first : AreRegions p xs (take at slots)
  pub rest : AreOverOrGoOn p xs over (drop at slots)
  pub numbers : map slot_number slots ≡ map slot_number before
