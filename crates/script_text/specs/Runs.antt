-- What the run of a script leaves.
use Rattle.std.specs.Prelude.{◌≡◌, ◌⊎◌, ℕ, zero, suc, ◌+◌, Bool, true, false, cond, eqb, List, [], ◌∷◌, ◌++◌}
use Rattle.larch_actions.specs.declared.event.Version.{Version}
use Rattle.larch_actions.specs.declared.event.Version.TheVariants.{One, Two}
use Rattle.larch_actions.specs.declared.thread_set.ThreadSet.{ThreadSet}
use Rattle.larch_actions.specs.declared.event.CondId.{CondId}
use Rattle.larch_actions.specs.declared.event.MutexId.{MutexId}
use Rattle.larch_actions.specs.declared.event.Event.{Event}
use Rattle.larch_actions.specs.declared.event.Action.{Action}
use Rattle.larch_actions.specs.declared.event.Action.TheVariants as action
use Rattle.script_text.specs.declared.line.Operation.{Operation}
use Rattle.script_text.specs.declared.line.Operation.TheVariants.{Acquire, Release, Wait, AlertWait, Signal, Broadcast, P, V, Alert, TestAlert, AlertP, Add, Until, AlertUntil, Fork, Join}
use Rattle.script_text.specs.declared.line.Line.{Line}
use Rattle.script_text.specs.Operations.{is_born, none_forked, forked_after}

abbrev pub event : ℕ → Action → Event
event t a = record { thread = record { 0 = t }; action = a }

-- a wait of the thread t; one that may be alerted, and returns; one that an alert ends
abbrev pub waited : ℕ → MutexId → CondId → List Event
waited t m c = event t (action.Enqueue m c) ∷ event t (action.Resume m c) ∷ []

abbrev pub returned : ℕ → MutexId → CondId → List Event
returned t m c = event t (action.AlertEnqueue m c) ∷ event t (action.AlertReturn m c) ∷ []

abbrev pub raised : ℕ → MutexId → CondId → List Event
raised t m c = event t (action.AlertEnqueue m c) ∷ event t (action.AlertRaise m c) ∷ []

-- k times the list
abbrev pub times : ℕ → List Event → List Event
times zero es = []
times (suc k) es = es ++ times k es

-- the list is one that a call by the thread t may make
abbrev pub IsRow : ℕ → Operation → List Event → Type 0
IsRow t (Acquire m) es = es ≡ event t (action.Acquire m) ∷ []
IsRow t (Release m) es = es ≡ event t (action.Release m) ∷ []
IsRow t (Wait m c) es = es ≡ waited t m c
IsRow t (AlertWait m c) es = (es ≡ returned t m c) ⊎ (es ≡ raised t m c)
IsRow t (Signal c) es = (left : ThreadSet) × (es ≡ event t (action.Signal c left) ∷ [])
IsRow t (Broadcast c) es = es ≡ event t (action.Broadcast c) ∷ []
IsRow t (P s) es = es ≡ event t (action.P s) ∷ []
IsRow t (V s) es = es ≡ event t (action.V s) ∷ []
IsRow t (Alert u) es = es ≡ event t (action.Alert u) ∷ []
IsRow t TestAlert es = (yes : Bool) × (es ≡ event t (action.TestAlert yes) ∷ [])
IsRow t (AlertP s) es = (es ≡ event t (action.AlertPReturn s) ∷ []) ⊎ (es ≡ event t (action.AlertPRaise s) ∷ [])
IsRow t (Add m n) es = es ≡ []
IsRow t (Until m c n) es = (k : ℕ) × (es ≡ times k (waited t m c))
IsRow t (AlertUntil m c n) es = (k : ℕ) × ((es ≡ times k (returned t m c)) ⊎ (es ≡ times k (returned t m c) ++ raised t m c))
IsRow t (Fork u) es = es ≡ event t (action.Fork u) ∷ []
IsRow t (Join u) es = es ≡ event t (action.Join u) ∷ []

-- the lines of one thread, in order
abbrev pub lines_of : ℕ → List Line → List Line
lines_of t [] = []
lines_of t (x ∷ xs) = cond (eqb x.thread.0 t) (x ∷ lines_of t xs) (lines_of t xs)

-- the list is lists of the calls, one after another
abbrev pub AreRows : ℕ → List Line → List Event → Type 0
AreRows t [] es = es ≡ []
AreRows t (x ∷ xs) es = (a b : List Event) × IsRow t x.operation a × AreRows t xs b × (es ≡ a ++ b)

-- the list is those of the lines of the thread t
abbrev pub AreCallsOf : List Line → ℕ → List Event → Type 0
AreCallsOf xs t es = AreRows t (lines_of t xs) es

-- after them End, where the thread is one that was there; else there is nothing
abbrev pub AreCallsAndEnd : Bool → List Line → ℕ → List Event → Type 0
AreCallsAndEnd true xs t es = (calls : List Event) × AreCallsOf xs t calls × (es ≡ calls ++ event t action.End ∷ [])
AreCallsAndEnd false xs t es = es ≡ []

-- the list is one that the thread t may make in a run of the script of the version with these lines
abbrev pub AreEventsOf : Version → List Line → ℕ → List Event → Type 0
AreEventsOf One xs t es = AreCallsOf xs t es
AreEventsOf Two xs t es = AreCallsAndEnd (is_born (forked_after none_forked xs) t) xs t es

-- what the call adds to the number of the mutex m
abbrev pub added_by : Operation → ℕ → ℕ
added_by (Add k n) m = cond (eqb k.0 m) n 0
added_by _ m = 0

-- what all the lines add to the number of the mutex m
abbrev pub total : List Line → ℕ → ℕ
total [] m = 0
total (x ∷ xs) m = added_by x.operation m + total xs m
