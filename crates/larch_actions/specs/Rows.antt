-- The table of actions: for each its word, the names after the word, and its ending.
use Rattle.std.specs.Prelude.{◌≡◌, ◌⊎◌, ℕ, Bool, true, false, List, [], ◌∷◌, codes, if◌then◌else◌}
use Rattle.larch_actions.specs.declared.event.Version.{Version}
use Rattle.larch_actions.specs.declared.event.Version.TheVariants as version
use Rattle.larch_actions.specs.declared.event.Action.{Action}
use Rattle.larch_actions.specs.declared.event.Action.TheVariants.{Acquire, Release, Enqueue, Resume, AlertEnqueue, AlertReturn, AlertRaise, Signal, Broadcast, P, V, Alert, TestAlert, AlertPReturn, AlertPRaise, Fork, End, Join}
use Rattle.larch_actions.specs.declared.rows.Word.{Word}
use Rattle.larch_actions.specs.declared.rows.Word.TheVariants as word
use Rattle.larch_actions.specs.declared.kind.Kind.TheVariants.{Mutex, Condition, Semaphore, Thread}
use Rattle.larch_actions.specs.declared.rows.Numbers.{Numbers}
use Rattle.larch_actions.specs.declared.rows.Kinds.{Kinds}
use Rattle.larch_actions.specs.declared.rows.Kinds.TheVariants as kinds
use Rattle.larch_actions.specs.declared.rows.Endings.{Endings}
use Rattle.larch_actions.specs.declared.rows.Endings.TheVariants as endings
use Rattle.larch_actions.specs.declared.rows.Ending.{Ending}
use Rattle.larch_actions.specs.declared.rows.Ending.TheVariants.{Nothing, Returns, Raises, Yes, No, Left}
use Rattle.larch_actions.specs.declared.rows.Row.{Row}
use Rattle.larch_actions.specs.declared.thread_set.ThreadSet.{ThreadSet}
use Rattle.larch_actions.specs.Sets.{set_of}

-- all words
abbrev pub words : List Word
words =
    word.Acquire ∷ word.Release ∷ word.P ∷ word.V ∷ word.Enqueue ∷ word.Resume ∷ word.Signal ∷ word.Broadcast ∷ word.Alert ∷ word.TestAlert
    ∷ word.AlertEnqueue ∷ word.AlertResume ∷ word.AlertP ∷ word.Fork ∷ word.End ∷ word.Join ∷ []

-- a word as it is spelt
abbrev pub word_text : Word → List ℕ
word_text word.Acquire = codes "acquire"
word_text word.Release = codes "release"
word_text word.P = codes "p"
word_text word.V = codes "v"
word_text word.Enqueue = codes "enqueue"
word_text word.Resume = codes "resume"
word_text word.Signal = codes "signal"
word_text word.Broadcast = codes "broadcast"
word_text word.Alert = codes "alert"
word_text word.TestAlert = codes "test-alert"
word_text word.AlertEnqueue = codes "alert-enqueue"
word_text word.AlertResume = codes "alert-resume"
word_text word.AlertP = codes "alert-p"
word_text word.Fork = codes "fork"
word_text word.End = codes "end"
word_text word.Join = codes "join"

-- the version that it came with
abbrev pub since : Word → Version
since word.Fork = version.Two
since word.End = version.Two
since word.Join = version.Two
since _ = version.One

-- what the names after it are
abbrev pub kinds_of : Word → Kinds
kinds_of word.Acquire = kinds.One Mutex
kinds_of word.Release = kinds.One Mutex
kinds_of word.P = kinds.One Semaphore
kinds_of word.V = kinds.One Semaphore
kinds_of word.Enqueue = kinds.Two Mutex Condition
kinds_of word.Resume = kinds.Two Mutex Condition
kinds_of word.Signal = kinds.One Condition
kinds_of word.Broadcast = kinds.One Condition
kinds_of word.Alert = kinds.One Thread
kinds_of word.TestAlert = kinds.Nothing
kinds_of word.AlertEnqueue = kinds.Two Mutex Condition
kinds_of word.AlertResume = kinds.Two Mutex Condition
kinds_of word.AlertP = kinds.One Semaphore
kinds_of word.Fork = kinds.One Thread
kinds_of word.End = kinds.Nothing
kinds_of word.Join = kinds.One Thread

-- which endings it may have
abbrev pub endings_of : Word → Endings
endings_of word.Signal = endings.Threads
endings_of word.TestAlert = endings.Answer
endings_of word.AlertResume = endings.Outcome
endings_of word.AlertP = endings.Outcome
endings_of _ = endings.Nothing

-- no name, one, two
abbrev pub none : Numbers
none = record { first = 0; second = 0 }

abbrev pub one : ℕ → Numbers
one n = record { first = n; second = 0 }

abbrev pub two : ℕ → ℕ → Numbers
two n m = record { first = n; second = m }

abbrev pub answer_of : Bool → Ending
answer_of answer = if answer then Yes else No

abbrev pub row : Word → Numbers → Ending → Row
row w x e = record { word = w; numbers = x; ending = e }

-- the row of an action
abbrev pub row_of : Action → Row
row_of (Acquire m) = row word.Acquire (one m.0) Nothing
row_of (Release m) = row word.Release (one m.0) Nothing
row_of (P s) = row word.P (one s.0) Nothing
row_of (V s) = row word.V (one s.0) Nothing
row_of (Enqueue m c) = row word.Enqueue (two m.0 c.0) Nothing
row_of (Resume m c) = row word.Resume (two m.0 c.0) Nothing
row_of (Signal c left) = row word.Signal (one c.0) (Left left)
row_of (Broadcast c) = row word.Broadcast (one c.0) Nothing
row_of (Alert t) = row word.Alert (one t.0) Nothing
row_of (TestAlert answer) = row word.TestAlert none (answer_of answer)
row_of (AlertEnqueue m c) = row word.AlertEnqueue (two m.0 c.0) Nothing
row_of (AlertReturn m c) = row word.AlertResume (two m.0 c.0) Returns
row_of (AlertRaise m c) = row word.AlertResume (two m.0 c.0) Raises
row_of (AlertPReturn s) = row word.AlertP (one s.0) Returns
row_of (AlertPRaise s) = row word.AlertP (one s.0) Raises
row_of (Fork t) = row word.Fork (one t.0) Nothing
row_of End = row word.End none Nothing
row_of (Join t) = row word.Join (one t.0) Nothing

-- what an ending says, where it is of that sort
abbrev pub is_raised : Ending → Bool
is_raised Raises = true
is_raised _ = false

abbrev pub is_yes : Ending → Bool
is_yes Yes = true
is_yes _ = false

abbrev pub left_by : Ending → ThreadSet
left_by (Left left) = left
left_by _ = set_of []

-- the action with this word, these numbers and this ending
abbrev pub made : Word → Numbers → Ending → Action
made word.Acquire x e = Acquire (record { 0 = x.first })
made word.Release x e = Release (record { 0 = x.first })
made word.P x e = P (record { 0 = x.first })
made word.V x e = V (record { 0 = x.first })
made word.Enqueue x e = Enqueue (record { 0 = x.first }) (record { 0 = x.second })
made word.Resume x e = Resume (record { 0 = x.first }) (record { 0 = x.second })
made word.Signal x e = Signal (record { 0 = x.first }) (left_by e)
made word.Broadcast x e = Broadcast (record { 0 = x.first })
made word.Alert x e = Alert (record { 0 = x.first })
made word.TestAlert x e = TestAlert (is_yes e)
made word.AlertEnqueue x e = AlertEnqueue (record { 0 = x.first }) (record { 0 = x.second })
made word.AlertResume x e =
    if is_raised e then AlertRaise (record { 0 = x.first }) (record { 0 = x.second })
    else AlertReturn (record { 0 = x.first }) (record { 0 = x.second })
made word.AlertP x e = if is_raised e then AlertPRaise (record { 0 = x.first }) else AlertPReturn (record { 0 = x.first })
made word.Fork x e = Fork (record { 0 = x.first })
made word.End x e = End
made word.Join x e = Join (record { 0 = x.first })

-- the action of a row
abbrev pub action_of : Row → Action
action_of r = made r.word r.numbers r.ending

-- of two numbers those that stand for no name are 0
abbrev pub AreFor : Kinds → Numbers → Type 0
AreFor kinds.Nothing x = x ≡ none
AreFor (kinds.One k) x = x.second ≡ 0
AreFor (kinds.Two k j) x = Unit {0}

-- the ending is of that sort
abbrev pub IsEnding : Endings → Ending → Type 0
IsEnding endings.Nothing e = e ≡ Nothing
IsEnding endings.Outcome e = (e ≡ Returns) ⊎ (e ≡ Raises)
IsEnding endings.Answer e = (e ≡ Yes) ⊎ (e ≡ No)
IsEnding endings.Threads e = (left : ThreadSet) × (e ≡ Left left)

-- the numbers and the ending are such as its word has
pub record IsRow (r : Row) : Type 0 where
  pub numbers : AreFor (kinds_of r.word) r.numbers
  pub ending : IsEnding (endings_of r.word) r.ending
