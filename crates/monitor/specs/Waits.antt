-- The waits of a thread under a mutex, one after the other.
use Rattle.std.specs.Prelude.{◌≡◌, ℕ, zero, suc, true, false, List, [], ◌∷◌, length, Option as Opt, Some, None}
use Rattle.std.specs.List.{AllByRecursion}
use Rattle.larch_actions.specs.declared.event.Event.{Event}
use Rattle.nub_rule.specs.Plays.{enqueue_event}
use Rattle.condition.specs.Waits.{resume_event}
use Rattle.alert_wait.specs.declared.outcome.Outcome.{Outcome}
use Rattle.alert_wait.specs.declared.outcome.Outcome.TheVariants.{Returned, Alerted}
use Rattle.alert_wait.specs.Outcomes.{wait_end}

-- k waits of the thread t on the mutex m in the condition c
abbrev pub waits : ℕ → ℕ → ℕ → ℕ → List Event
waits t m c zero = []
waits t m c (suc k) = enqueue_event false t m c ∷ resume_event t m c ∷ waits t m c k

-- k alertable waits, none of which an alert ended
abbrev pub alert_waits : ℕ → ℕ → ℕ → ℕ → List Event
alert_waits t m c zero = []
alert_waits t m c (suc k) = enqueue_event true t m c ∷ wait_end Returned t m c ∷ alert_waits t m c k

-- what follows them: if an alert ended the call, the wait that it ended
abbrev pub last_wait : ℕ → ℕ → ℕ → Outcome → List Event
last_wait t m c Returned = []
last_wait t m c Alerted = enqueue_event true t m c ∷ wait_end Alerted t m c ∷ []

-- there is an answer if no alert ended the wait
abbrev pub outcome_of : {X : Type 0} → Opt X → Outcome
outcome_of None = Alerted
outcome_of (Some r) = Returned

-- before k waits the test refused a value each, and these are they
pub record AreRefused {V : Type 0} (refused : V → Type 0) (k : ℕ) : Type 0 where
  pub seen : List V
  pub count : length seen ≡ k
  pub each : AllByRecursion refused seen

-- the first of these, or where there is none the last
abbrev pub first_of : {V : Type 0} → List V → V → V
first_of [] last = last
first_of (x ∷ xs) last = x

-- before so many waits the test refused a value each, the first time the one in hand. Where it refused none that is the last
pub record IsRefused {V : Type 0} (refused : V → Type 0) (got : V) (k : ℕ) (last : V) : Type 0 where
  pub all : AreRefused refused k
  pub first : first_of all.seen last ≡ got

-- how many waits there were, where k ended without an alert
abbrev pub all_waits : Outcome → ℕ → ℕ
all_waits Returned k = k
all_waits Alerted k = suc k
