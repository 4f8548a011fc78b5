-- Trace texts.
use Rattle.std.specs.Prelude.{◌≡◌, ℕ, zero, suc, ◌+◌, ◌^◌, ◌<◌, ◌≤◌, List, [], ◌∷◌, ◌++◌, if◌then◌else◌, length, codes, decimal}
use Rattle.std.specs.List.{AllByRecursion}
use Rattle.larch_actions.specs.declared.event.Version.{Version}
use Rattle.larch_actions.specs.declared.event.Version.TheVariants as version
use Rattle.larch_actions.specs.declared.event.Layout.{Layout}
use Rattle.larch_actions.specs.declared.event.Event.{Event}
use Rattle.larch_actions.specs.declared.event.Action.{Action}
use Rattle.larch_actions.specs.declared.kind.Kind.{Kind}
use Rattle.larch_actions.specs.declared.rows.Numbers.{Numbers}
use Rattle.larch_actions.specs.declared.rows.Kinds.{Kinds}
use Rattle.larch_actions.specs.declared.rows.Kinds.TheVariants as kinds
use Rattle.larch_actions.specs.declared.rows.Ending.{Ending}
use Rattle.larch_actions.specs.declared.rows.Ending.TheVariants.{Nothing, Returns, Raises, Yes, No, Left}
use Rattle.larch_actions.specs.declared.rows.Row.{Row}
use Rattle.larch_actions.specs.Rows.{word_text, kinds_of, row_of}
use Rattle.larch_actions.specs.declared.thread_set.ThreadSet.{ThreadSet}
use Rattle.larch_actions.specs.Layout.{IsLawful, HasNames, layout_text, letter, most_threads}
use Rattle.larch_actions.specs.Sets.{in_set}

abbrev pub newline : List ℕ
newline = 10 ∷ []

-- the first line of a text of the version
abbrev pub first_line : Version → List ℕ
first_line version.One = codes "firefly-trace 1" ++ newline
first_line version.Two = codes "firefly-trace 2" ++ newline

abbrev pub layout_line : Layout → List ℕ
layout_line l = layout_text l ++ newline

-- the first line and the layout line
abbrev pub head_text : Layout → List ℕ
head_text l = first_line l.version ++ layout_line l

-- which of n threads from t on are in the set
unfoldable pub members_from : ThreadSet → ℕ → ℕ → List ℕ
members_from s t zero = []
members_from s t (suc n) = if in_set s t then t ∷ members_from s (t + 1) n else members_from s (t + 1) n

-- the threads of the set, strictly rising
unfoldable pub members : ThreadSet → List ℕ
members s = members_from s 0 most_threads

-- the names of the threads, each after a space
abbrev pub names_text : List ℕ → List ℕ
names_text [] = []
names_text (t ∷ ts) = codes " t" ++ decimal t ++ names_text ts

-- the text, and after it a name
abbrev pub with_name : List ℕ → Kind → ℕ → List ℕ
with_name prefix k n = prefix ++ (32 ∷ letter k ∷ []) ++ decimal n

-- the text, and after it the names
abbrev pub with_names : List ℕ → Kinds → Numbers → List ℕ
with_names prefix kinds.Nothing x = prefix
with_names prefix (kinds.One k) x = with_name prefix k x.first
with_names prefix (kinds.Two k j) x = with_name (with_name prefix k x.first) j x.second

-- the text, and after it the ending
abbrev pub with_ending : List ℕ → Ending → List ℕ
with_ending prefix Nothing = prefix
with_ending prefix Returns = prefix ++ codes " returns"
with_ending prefix Raises = prefix ++ codes " raises"
with_ending prefix Yes = prefix ++ codes " yes"
with_ending prefix No = prefix ++ codes " no"
with_ending prefix (Left left) = prefix ++ codes " left" ++ names_text (members left)

-- the word, the names after it and the ending
abbrev pub row_text : Row → List ℕ
row_text r = with_ending (with_names (word_text r.word) (kinds_of r.word) r.numbers) r.ending

abbrev pub action_text : Action → List ℕ
action_text a = row_text (row_of a)

-- the line of the event at this place
abbrev pub event_line : ℕ → Event → List ℕ
event_line n e = decimal n ++ codes " t" ++ decimal e.thread.0 ++ codes " " ++ action_text e.action ++ newline

abbrev pub end_line : ℕ → List ℕ
end_line n = codes "end " ++ decimal n ++ newline

-- a mutex, and the value after it
pub record MutexValue : Type 0 where
  pub mutex : ℕ
  pub value : ℕ

abbrev pub value_line : MutexValue → List ℕ
value_line v = codes "value m" ++ decimal v.mutex ++ codes " " ++ decimal v.value ++ newline

abbrev pub values_text : List MutexValue → List ℕ
values_text [] = []
values_text (v ∷ vs) = value_line v ++ values_text vs

-- values of mutexes in strictly rising order from least on
abbrev pub AreValues : Layout → ℕ → List MutexValue → Type 0
AreValues l least [] = Unit {0}
AreValues l least (v ∷ vs) = (least ≤ v.mutex) × (v.mutex < l.mutexes) × (v.value < 2 ^ 64) × AreValues l (v.mutex + 1) vs

-- the text from the event at place n on
abbrev pub rest_text : ℕ → List Event → List MutexValue → List ℕ
rest_text n [] vs = end_line n ++ values_text vs
rest_text n (e ∷ es) vs = event_line n e ++ rest_text (n + 1) es vs

-- the one text of the layout, the events and the values
abbrev pub trace_text : Layout → List Event → List MutexValue → List ℕ
trace_text l es vs = head_text l ++ rest_text 0 es vs

-- The bytes are the text of the layout, the events and the values, all of whose names are lawful.
pub record ReadsAs (bytes : List ℕ) (l : Layout) (es : List Event) (vs : List MutexValue) : Type 0 where
  pub lawful : IsLawful l
  pub named : AllByRecursion (HasNames l) es
  pub few : length es < 2 ^ 64
  pub valued : AreValues l 0 vs
  pub text : bytes ≡ trace_text l es vs

abbrev pub IsTrace : List ℕ → Type 0
IsTrace bytes = (l : Layout) × (es : List Event) × (vs : List MutexValue) × ReadsAs bytes l es vs

-- value lines of mutexes from least on
abbrev pub IsValues : Layout → ℕ → List ℕ → Type 0
IsValues l least bytes = (vs : List MutexValue) × AreValues l least vs × (bytes ≡ values_text vs)

-- the rest of a trace text from the event at place n on
abbrev pub IsRest : Layout → ℕ → List ℕ → Type 0
IsRest l n bytes =
    (es : List Event) × (vs : List MutexValue) × AllByRecursion (HasNames l) es × (n + length es < 2 ^ 64) × AreValues l 0 vs
    × (bytes ≡ rest_text n es vs)

-- the rest of a trace text of the version from the layout line on
abbrev pub IsLaid : Version → List ℕ → Type 0
IsLaid v bytes = (l : Layout) × (rest : List ℕ) × (IsLawful l × (l.version ≡ v)) × IsRest l 0 rest × (bytes ≡ layout_line l ++ rest)
