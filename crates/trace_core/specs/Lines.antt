-- Reading the lines of a trace text.
use Rattle.std.specs.Prelude.{◌≡◌, ℕ, ◌+◌, ◌^◌, ◌<◌, ◌≤◌, nat_lt, ◌&&◌, Bool, true, false, List, [], ◌∷◌, ◌++◌, if◌then◌else◌, codes, decimal, Ok, Err, Result}
use Rattle.larch_actions.specs.declared.event.Version.{Version}
use Rattle.larch_actions.specs.declared.event.Version.TheVariants as version
use Rattle.larch_actions.specs.declared.event.Layout.{Layout}
use Rattle.larch_actions.specs.declared.event.Event.{Event}
use Rattle.larch_actions.specs.declared.event.Action.{Action}
use Rattle.larch_actions.specs.declared.kind.Kind.{Kind}
use Rattle.larch_actions.specs.declared.rows.Word.{Word}
use Rattle.larch_actions.specs.declared.rows.Numbers.{Numbers}
use Rattle.larch_actions.specs.declared.rows.Kinds.{Kinds}
use Rattle.larch_actions.specs.declared.rows.Kinds.TheVariants as kinds
use Rattle.larch_actions.specs.declared.rows.Endings.{Endings}
use Rattle.larch_actions.specs.declared.rows.Endings.TheVariants as endings
use Rattle.larch_actions.specs.declared.rows.Ending.{Ending}
use Rattle.larch_actions.specs.declared.rows.Ending.TheVariants as ending
use Rattle.larch_actions.specs.Rows.{words, word_text, since, kinds_of, endings_of, none, one, two, answer_of, made}
use Rattle.larch_actions.specs.Layout.{IsLawful, HasNames, count_of, letter, layout_in, most_objects, most_in}
use Rattle.trace_core.specs.declared.line.Line.{Line}
use Rattle.trace_core.specs.declared.line.Line.TheVariants as line
use Rattle.trace_core.specs.declared.line.Expect.{Expect}
use Rattle.trace_core.specs.declared.line.Expect.TheVariants as expect
use Rattle.std.specs.declared.result.Result.{Result}
use Rattle.exact_text.specs.declared.stop.Stop.{Stop}
use Rattle.exact_text.specs.declared.stop.Stop.TheVariants.{Dead}
use Rattle.exact_text.specs.Reading.{Reader, ◌>>=◌, word_at, after_word, both, as_value, either, only_if, number_at, flag_at}
use Rattle.trace_core.specs.Names.{number_from, names_at, set_from}
use Rattle.trace_core.specs.Made.{IsMade}
use Rattle.trace_core.specs.Text.{first_line, layout_line, event_line, end_line, value_line, IsRest, IsLaid, IsTrace, IsValues, MutexValue, AreValues, values_text}

-- the place of an event, and what stands before its thread's number
abbrev pub place_at : ℕ → List ℕ → Result (List ℕ) Stop
place_at n bytes = word_at (decimal n) bytes >>= word_at (codes " t")

-- a word, and a name below the bound up to the byte that stops it
abbrev pub named_at : List ℕ → ℕ → ℕ → Reader ℕ
named_at word bound stop = only_if (nat_lt 0 bound) (after_word word (number_at 0 bound stop))

-- the byte after the last name, or after a word with none: a newline where nothing may follow
abbrev pub stop_of : Endings → ℕ
stop_of endings.Nothing = 10
stop_of _ = 32

-- the byte after a word
abbrev pub gap_of : Kinds → Endings → ℕ
gap_of kinds.Nothing es = stop_of es
gap_of _ es = 32

abbrev pub outcome_of : Bool → Ending
outcome_of returns = if returns then ending.Returns else ending.Raises

-- what stands after the names
abbrev pub ending_at : Layout → Endings → Reader Ending
ending_at l endings.Nothing = λ rest. Ok (ending.Nothing, rest)
ending_at l endings.Outcome = as_value outcome_of (flag_at (codes "returns" ++ 10 ∷ []) (codes "raises" ++ 10 ∷ []))
ending_at l endings.Answer = as_value answer_of (flag_at (codes "yes" ++ 10 ∷ []) (codes "no" ++ 10 ∷ []))
ending_at l endings.Threads = as_value ending.Left (after_word (codes "left") (as_value set_from (names_at l.threads)))

-- a name up to the byte that stops it
abbrev pub name_at : Layout → Kind → ℕ → Reader ℕ
name_at l k stop = after_word (letter k ∷ []) (number_at 0 (count_of l k) stop)

-- the names and the ending
abbrev pub after_at : Layout → Kinds → Endings → Reader (Numbers × Ending)
after_at l kinds.Nothing es = as_value (λ e. (none, e)) (ending_at l es)
after_at l (kinds.One k) es = as_value (λ p. (one p.0, p.1)) (both (name_at l k (stop_of es)) (λ _. ending_at l es))
after_at l (kinds.Two k j) es =
    as_value (λ p. (two p.0 p.1.0, p.1.1)) (both (name_at l k 32) (λ _. both (name_at l j (stop_of es)) (λ _. ending_at l es)))

-- there are things of each kind
abbrev pub are_some : Layout → Kinds → Bool
are_some l kinds.Nothing = true
are_some l (kinds.One k) = nat_lt 0 (count_of l k)
are_some l (kinds.Two k j) = nat_lt 0 (count_of l k) && nat_lt 0 (count_of l j)

-- what came with the one version is in the other
abbrev pub is_in : Version → Version → Bool
is_in version.One v = true
is_in version.Two version.One = false
is_in version.Two version.Two = true

-- the word is one of the version, and there are things of each kind that it names
abbrev pub may_stand : Layout → Word → Bool
may_stand l w = is_in (since w) l.version && are_some l (kinds_of w)

-- an action with this word up to the end of its line
abbrev pub row_at : Layout → Word → Reader Action
row_at l w =
    as_value (λ p. made w p.0 p.1) (only_if (may_stand l w) (after_word (word_text w)
    (after_word (gap_of (kinds_of w) (endings_of w) ∷ []) (after_at l (kinds_of w) (endings_of w)))))

-- an action with one of these words
abbrev pub rows_at : Layout → List Word → Reader Action
rows_at l [] = λ bytes. Err Dead
rows_at l (w ∷ ws) = either (row_at l w) (rows_at l ws)

abbrev pub action_at : Layout → Reader Action
action_at l = rows_at l words

abbrev pub event_of : ℕ × Action → Event
event_of p = record { thread = record { 0 = p.0 }; action = p.1 }

unfoldable pub event_at : Layout → ℕ → Reader Event
event_at l n = after_word (decimal n) (after_word (codes " t") (as_value event_of (both (number_at 0 l.threads 32) (λ _. action_at l))))

abbrev pub end_at : ℕ → Reader Line
end_at n = after_word (codes "end ") (after_word (decimal n) (after_word (10 ∷ []) (λ rest. Ok (line.End, rest))))

abbrev pub event_or_end_at : Layout → ℕ → Reader Line
event_or_end_at l n = either (as_value line.Event (event_at l n)) (end_at n)

abbrev pub layout_from : Version → ℕ × (ℕ × (ℕ × ℕ)) → Layout
layout_from v p = layout_in v p.0 p.1.0 p.1.1.0 p.1.1.1

abbrev pub counts_at : Version → Reader Layout
counts_at v =
    as_value (layout_from v)
    (after_word (codes "threads ")
    (both (number_at 1 (most_in v + 1) 32) (λ _.
    after_word (codes "mutexes ")
    (both (number_at 0 (most_objects + 1) 32) (λ _.
    after_word (codes "conditions ")
    (both (number_at 0 (most_objects + 1) 32) (λ _.
    after_word (codes "semaphores ")
    (number_at 0 (most_objects + 1) 10))))))))

abbrev pub head_of : Bool → Line
head_of one = line.Head (if one then version.One else version.Two)

abbrev pub head_at : Reader Line
head_at = as_value head_of (flag_at (first_line version.One) (first_line version.Two))

abbrev pub value_of : (ℕ × ℕ) × ℕ → Line
value_of p = line.Value p.0.0 p.1

-- the value line of a mutex from least on
abbrev pub value_at : Layout → ℕ → Reader Line
value_at l least =
    as_value value_of (after_word (codes "value m") (both (number_from false least l.mutexes) (λ _. number_at 0 (2 ^ 64) 10)))

-- the line that comes next
abbrev pub line_at : Expect → Reader Line
line_at expect.Head = head_at
line_at (expect.Counts v) = as_value line.Counts (counts_at v)
line_at (expect.Events l n) = event_or_end_at l n
line_at (expect.Values l least) = value_at l least

-- what is asked for can come: the layout is lawful, another event may stand after the next, and some mutex may have a value
abbrev pub IsPossible : Expect → Type 0
IsPossible expect.Head = Unit {0}
IsPossible (expect.Counts v) = Unit {0}
IsPossible (expect.Events l n) = IsLawful l × (n + 1 < 2 ^ 64)
IsPossible (expect.Values l least) = IsLawful l × (least < l.mutexes)

-- the line may come next
abbrev pub IsAllowed : Expect → Line → Type 0
IsAllowed expect.Head (line.Head v) = Unit {0}
IsAllowed (expect.Counts v) (line.Counts l) = IsLawful l × (l.version ≡ v)
IsAllowed (expect.Events l n) (line.Event e) = HasNames l e × IsMade e.action
IsAllowed (expect.Events l n) line.End = Unit {0}
IsAllowed (expect.Values l least) (line.Value k v) = (least ≤ k) × (k < l.mutexes) × (v < 2 ^ 64)
IsAllowed _ _ = ⊥

-- the place of the event that comes next
abbrev pub place_in : Expect → ℕ
place_in (expect.Events l n) = n
place_in _ = 0

-- the text of the line in its place
abbrev pub line_text : Expect → Line → List ℕ
line_text x (line.Head v) = first_line v
line_text x (line.Counts l) = layout_line l
line_text x (line.Event e) = event_line (place_in x) e
line_text x line.End = end_line (place_in x)
line_text x (line.Value k v) = value_line (record { mutex = k; value = v })

-- the value line of a mutex from least on, and then others
abbrev pub IsSomeValues : Layout → ℕ → List ℕ → Type 0
IsSomeValues l least bytes = (v : MutexValue) × (vs : List MutexValue) × AreValues l least (v ∷ vs) × (bytes ≡ values_text (v ∷ vs))

-- from the line that comes next on, the bytes are the rest of a trace text
abbrev pub IsTextFrom : Expect → List ℕ → Type 0
IsTextFrom expect.Head bytes = IsTrace bytes
IsTextFrom (expect.Counts v) bytes = IsLaid v bytes
IsTextFrom (expect.Events l n) bytes = IsRest l n bytes
IsTextFrom (expect.Values l least) bytes = IsSomeValues l least bytes

-- after this line, the bytes are the rest of a trace text
abbrev pub IsTextAfter : Expect → Line → List ℕ → Type 0
IsTextAfter expect.Head (line.Head v) bytes = IsLaid v bytes
IsTextAfter (expect.Counts v) (line.Counts l) bytes = IsRest l 0 bytes
IsTextAfter (expect.Events l n) (line.Event e) bytes = IsRest l (n + 1) bytes
IsTextAfter (expect.Events l n) line.End bytes = IsValues l 0 bytes
IsTextAfter (expect.Values l least) (line.Value k v) bytes = IsValues l (k + 1) bytes
IsTextAfter _ _ bytes = ⊥
