-- The numbers that the threads of a run get with mutexes and leave with them.
use Rattle.std.specs.Prelude.{◌≡◌, ◌⊎◌, ℕ, suc, ◌+◌, ◌<◌, ◌≤◌, Bool, true, false, cond, eqb, List, [], ◌∷◌, ◌++◌, filter, length, map}
use Rattle.larch_actions.specs.declared.event.Version.{Version}
use Rattle.larch_actions.specs.declared.event.Version.TheVariants.{One, Two}
use Rattle.larch_actions.specs.declared.event.MutexId.{MutexId}
use Rattle.larch_actions.specs.declared.event.Event.{Event}
use Rattle.larch_actions.specs.declared.event.Action.TheVariants as action
use Rattle.script_text.specs.declared.line.Operation.{Operation}
use Rattle.script_text.specs.declared.line.Operation.TheVariants.{Acquire, Release, Wait, AlertWait, Add, Until, AlertUntil}
use Rattle.script_text.specs.declared.line.Line.{Line}
use Rattle.script_text.specs.Operations.{is_born, none_forked, forked_after}
use Rattle.script_text.specs.Runs.{IsRow, event, lines_of, raised, returned, times, waited}

-- one time that a thread had a mutex: the number that it got, and the one that it left
pub record Visit : Type 0 where
  pub thread : ℕ
  pub mutex : ℕ
  pub got : ℕ
  pub left : ℕ

-- the visits of the thread t, those of the mutex m, and the threads of these
abbrev pub visits_by : ℕ → List Visit → List Visit
visits_by t vs = filter (λ v. eqb v.thread t) vs

abbrev pub visits_at : ℕ → List Visit → List Visit
visits_at m vs = filter (λ v. eqb v.mutex m) vs

abbrev pub visitors : ℕ → List Visit → List ℕ
visitors m vs = map (λ v. v.thread) (visits_at m vs)

-- from the number x of a mutex its visits lead to y: the first got x, each other got what the one
-- before left, and the last left y
abbrev pub LeadTo : ℕ → List Visit → ℕ → Type 0
LeadTo x [] y = x ≡ y
LeadTo x (v ∷ vs) y = (v.got ≡ x) × LeadTo v.left vs y

-- of each mutex that a thread has: the number got with it, and what it is now
abbrev pub Hand : Type 0
Hand = ℕ → ℕ × ℕ

abbrev pub no_hand : Hand
no_hand m = (0, 0)

-- after the number x was got with the mutex, and after n was added to the number
abbrev pub gets : MutexId → ℕ → Hand → Hand
gets m x hand k = cond (eqb k m.0) (x, x) (hand k)

abbrev pub adds : MutexId → ℕ → Hand → Hand
adds m n hand k = cond (eqb k m.0) ((hand k).0, (hand k).1 + n) (hand k)

-- what the thread t leaves as it gives the mutex back
abbrev pub leaves : ℕ → MutexId → Hand → Visit
leaves t m hand = record { thread = t; mutex = m.0; got = (hand m.0).0; left = (hand m.0).1 }

-- waits that get these numbers, one after the other: what they leave, and the hand after them
abbrev pub waits : ℕ → MutexId → List ℕ → Hand → List Visit
waits t m [] hand = []
waits t m (x ∷ xs) hand = leaves t m hand ∷ waits t m xs (gets m x hand)

abbrev pub after_waits : MutexId → List ℕ → Hand → Hand
after_waits m [] hand = hand
after_waits m (x ∷ xs) hand = after_waits m xs (gets m x hand)

-- before each of them the number is less than n
abbrev pub AreBelow : ℕ → MutexId → List ℕ → Hand → Type 0
AreBelow n m [] hand = Prim.Unit {0}
AreBelow n m (x ∷ xs) hand = ((hand m.0).1 < n) × AreBelow n m xs (gets m x hand)

-- a call of the thread t with these events: what it leaves, and the hand after it
abbrev pub Leaves : ℕ → Operation → List Event → Hand → List Visit → Hand → Type 0
Leaves t (Acquire m) es hand vs after = (x : ℕ) × (vs ≡ []) × (after ≡ gets m x hand)
Leaves t (Release m) es hand vs after = (vs ≡ leaves t m hand ∷ []) × (after ≡ hand)
Leaves t (Wait m c) es hand vs after = (x : ℕ) × (vs ≡ leaves t m hand ∷ []) × (after ≡ gets m x hand)
Leaves t (AlertWait m c) es hand vs after = (x : ℕ) × (vs ≡ leaves t m hand ∷ []) × (after ≡ gets m x hand)
Leaves t (Add m n) es hand vs after = (vs ≡ []) × (after ≡ adds m n hand)
Leaves t (Until m c n) es hand vs after = (xs : List ℕ) × (es ≡ times (length xs) (waited t m c)) × AreBelow n m xs hand
    × (vs ≡ waits t m xs hand) × (after ≡ after_waits m xs hand) × (n ≤ (after m.0).1)
Leaves t (AlertUntil m c n) es hand vs after = (xs : List ℕ) × AreBelow n m xs hand
    × (vs ≡ waits t m xs hand) × (after ≡ after_waits m xs hand)
    × (((es ≡ times (length xs) (returned t m c)) × (n ≤ (after m.0).1))
    ⊎ ((k : ℕ) × (length xs ≡ suc k) × (es ≡ times k (returned t m c) ++ raised t m c)))
Leaves t _ es hand vs after = (vs ≡ []) × (after ≡ hand)

-- the events are those of the calls of these lines, one after another, and so are the visits
abbrev pub AreLeft : ℕ → List Line → List Event → Hand → List Visit → Hand → Type 0
AreLeft t [] es hand vs after = (es ≡ []) × (vs ≡ []) × (after ≡ hand)
AreLeft t (x ∷ xs) es hand vs after = (a b : List Event) × (v w : List Visit) × (next : Hand) × IsRow t x.operation a
    × Leaves t x.operation a hand v next × AreLeft t xs b next w after × (es ≡ a ++ b) × (vs ≡ v ++ w)

-- those of the lines of the thread t
abbrev pub AreVisitsOf : List Line → ℕ → List Event → List Visit → Type 0
AreVisitsOf xs t es vs = (after : Hand) × AreLeft t (lines_of t xs) es no_hand vs after

-- after the events End, where the thread is one that was there; else there is nothing
abbrev pub AreVisitsAndEnd : Bool → List Line → ℕ → List Event → List Visit → Type 0
AreVisitsAndEnd true xs t es vs = (calls : List Event) × AreVisitsOf xs t calls vs × (es ≡ calls ++ event t action.End ∷ [])
AreVisitsAndEnd false xs t es vs = (es ≡ []) × (vs ≡ [])

-- the thread t may make these events and these visits in a run of the script of the version with these lines
abbrev pub AreThreadVisits : Version → List Line → ℕ → List Event → List Visit → Type 0
AreThreadVisits One xs t es vs = AreVisitsOf xs t es vs
AreThreadVisits Two xs t es vs = AreVisitsAndEnd (is_born (forked_after none_forked xs) t) xs t es vs
