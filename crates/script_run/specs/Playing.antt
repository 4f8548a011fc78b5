-- A thread that plays its lines.
use Rattle.std.specs.Prelude.{◌≡◌, ℕ, suc, ◌+◌, ◌<◌, ◌≤◌, Bool, true, false, List, [], ◌∷◌, ◌++◌, length, map, slice_index, Option as Opt, Some, None}
use mathlib.Core.Option.{some}
use lib.ListN.{get_elem?}
use Rattle.larch_actions.specs.declared.event.Event.{Event}
use Rattle.larch_actions.specs.declared.event.Layout.{Layout}
use Rattle.larch_actions.specs.declared.event.CondId.{CondId}
use Rattle.larch_actions.specs.declared.event.MutexId.{MutexId}
use Rattle.nub_rule.specs.Items.{Each}
use Rattle.nub_rule.specs.Known.{Known, Shape}
use Rattle.nub_rule.specs.declared.view.Stint.{Stint}
use Rattle.nub.specs.Rest.{AtRest}
use Rattle.nub.specs.Ended.{IsDone, IsFirst}
use Rattle.sum_uses.specs.declared.added.Added.{Added}
use Rattle.sum_uses.specs.Sums.{added}
use Rattle.script_text.specs.declared.line.Line.{Line}
use Rattle.alert_wait.specs.declared.outcome.Outcome.{Outcome}
use Rattle.alert_wait.specs.declared.outcome.Outcome.TheVariants.{Returned, Alerted}
use Rattle.script_text.specs.Operations.{none_held, held_after, MayFollow, none_forked}
use Rattle.script_text.specs.Runs.{lines_of, total, returned, raised, times}
use Rattle.script_text.specs.Visits.{AreBelow, AreLeft, AreVisitsOf, Hand, Visit, after_waits, no_hand, waits}

abbrev pub Player : Type 0
Player = Known ℕ (List Added) (Prim.Unit {0})

-- those that are the first threads of a package stay so
abbrev pub StayFirst : List Player → List Player → Type 0
StayFirst before after = (p : Shape (Prim.Unit {0})) → Each (IsFirst p (λ w n. let s : List Added = [] in s)) before
    → Each (IsFirst p (λ w n. let s : List Added = [] in s)) after

-- for the mutex m, which the thread holds or not: what the thread's lines so far have added is made
-- up of the value got, the number now and the share
abbrev pub HasNumber : Bool → List (Opt ℕ) → ℕ → ℕ → List Added → ℕ → Type 0
HasNumber true held m number share sum = (x : ℕ) × (get_elem? held m ≡ some (Some x)) × (x ≤ number) × (x ≤ 25600000000000)
    × (added m share + number ≡ sum + x)
HasNumber false held m number share sum = (get_elem? held m ≡ some None) × (added m share ≡ sum)

-- there is room for the numbers of all mutexes, and no other mutex has one
pub record IsWide (held : List (Opt ℕ)) : Type 0 where
  pub room : 64 ≤ length held
  pub none : (m x : ℕ) → 64 ≤ m → get_elem? held m ≡ some (Some x) → ⊥

-- the stint as a visit
abbrev pub visit_of : Stint ℕ (List Added) → Visit
visit_of s = record { thread = s.thread; mutex = s.mutex; got = s.got; left = s.left }

abbrev pub visits_of : List (Stint ℕ (List Added)) → List Visit
visits_of ss = map visit_of ss

-- each stint began with the share that the one before left, the first with s; the last left r
abbrev pub AreLinked : List Added → List (Stint ℕ (List Added)) → List Added → Type 0
AreLinked s [] r = s ≡ r
AreLinked s (x ∷ xs) r = (x.before ≡ s) × AreLinked x.after xs r

-- of each mutex that is held the hand has the number got and the number now
abbrev pub HasHand : List (Opt ℕ) → List ℕ → Hand → Type 0
HasHand held numbers hand = (m x : ℕ) → get_elem? held m ≡ some (Some x) → hand m ≡ (x, slice_index numbers m)

-- the thread t has played its lines of these, with the hand `start` after them, and in the next one
-- has made the events es and the visits vs; no call of it is open
pub record IsInLine (p : Shape (Prim.Unit {0})) (t : ℕ) (xs : List Line) (es : List Event) (vs : List Visit) (start hand : Hand)
    (numbers : List ℕ) (me : Player) : Type 0 where
  pub rest : AtRest p me
  pub number : me.number ≡ t
  pub world : me.world ≡ Some tt
  pub size : length numbers ≡ 64
  pub held_size : IsWide me.held
  pub before : List Event
  pub visits : List Visit
  pub are : AreLeft t (lines_of t xs) before no_hand visits start
  pub mine : me.mine ≡ before ++ es
  pub stints : visits_of me.stints ≡ visits ++ vs
  pub agrees : HasHand me.held numbers hand
  pub share : List Added
  pub is_share : me.share ≡ Some share
  pub linked : AreLinked [] me.stints share
  pub each : (m : ℕ) → m < 64 → HasNumber (held_after none_held xs t m) me.held m (slice_index numbers m) share (total (lines_of t xs) m)

-- the thread t has played its lines of these, and is between two lines
pub record IsPlaying (p : Shape (Prim.Unit {0})) (t : ℕ) (xs : List Line) (numbers : List ℕ) (me : Player) : Type 0 where
  pub hand : Hand
  pub line : IsInLine p t xs [] [] hand hand numbers me
  pub open line use *

-- after these lines, of which there are few, the thread t has the mutex m
pub record HasMutex (l : Layout) (t : ℕ) (xs : List Line) (m : ℕ) : Type 0 where
  pub held : held_after none_held xs t m ≡ true
  pub follow : MayFollow l none_held none_forked xs
  pub few : length xs < 99999

-- the events of an alertable wait that ends like this, and of n waits of which the last does
abbrev pub alertable : Outcome → ℕ → MutexId → CondId → List Event
alertable Returned t m c = returned t m c
alertable Alerted t m c = raised t m c

abbrev pub EndAs : Outcome → ℕ → MutexId → CondId → ℕ → List Event → Type 0
EndAs Returned t m c n es = es ≡ times n (returned t m c)
EndAs Alerted t m c n es = (k : ℕ) × (n ≡ suc k) × (es ≡ times k (returned t m c) ++ raised t m c)

-- in its line the thread t has waited with the mutex, before each wait with a number less than n;
-- the events of that many waits are such
pub record HasWaited (p : Shape (Prim.Unit {0})) (t : ℕ) (xs : List Line) (Are : ℕ → List Event → Type 0) (n : ℕ) (m : MutexId) (hand : Hand)
    (numbers : List ℕ) (me : Player) : Type 0 where
  pub gained : List ℕ
  pub below : AreBelow n m gained hand
  pub events : List Event
  pub are_events : Are (length gained) events
  pub line : IsInLine p t xs events (waits t m gained hand) hand (after_waits m gained hand) numbers me

-- the thread t has played all its lines of these
pub record IsPlayed (p : Shape (Prim.Unit {0})) (xs : List Line) (t : ℕ) (me : Player) : Type 0 where
  pub done : IsDone p t me
  pub visits : AreVisitsOf xs t me.mine (visits_of me.stints)
  pub share : List Added
  pub is_share : me.share ≡ Some share
  pub linked : AreLinked [] me.stints share
  pub sums : (m : ℕ) → m < 64 → added m share ≡ total (lines_of t xs) m
