-- The events of a trace as a JSON text.
use Rattle.std.specs.Prelude.{ℕ, zero, suc, ◌+◌, List, [], ◌∷◌, ◌++◌, codes, decimal, Some, None}
use Rattle.std.specs.declared.option.Option.{Option}
use Rattle.larch_actions.specs.declared.event.Layout.{Layout}
use Rattle.larch_actions.specs.declared.event.Event.{Event}
use Rattle.trace_core.specs.Text.{action_text}
use Rattle.trace_json.specs.declared.spans.Span.{Span}
use Rattle.trace_json.specs.declared.spans.Span.TheVariants.{Mutex, Wait, Semaphore}
use Rattle.trace_json.specs.Spans.{ended_by, begun_by}

-- words and a number
abbrev pub with_number : List ℕ → ℕ → List ℕ
with_number words n = words ++ decimal n

-- What begins the text: the name of the only process. Each later item of the list begins with its comma.
unfoldable pub opening_text : List ℕ
opening_text =
    codes "{\"displayTimeUnit\":\"ms\",\"traceEvents\":[\n{\"ph\":\"M\",\"pid\":0,\"name\":\"process_name\",\"args\":{\"name\":\"firefly\"}}"

-- the row of a thread: its name, and that rows stand in the order of their threads
unfoldable pub row_text : ℕ → List ℕ
row_text t =
    with_number (codes ",\n{\"ph\":\"M\",\"pid\":0,\"tid\":") t ++ with_number (codes ",\"name\":\"thread_name\",\"args\":{\"name\":\"t") t
    ++ with_number (codes "\"}},\n{\"ph\":\"M\",\"pid\":0,\"tid\":") t
    ++ with_number (codes ",\"name\":\"thread_sort_index\",\"args\":{\"sort_index\":") t ++ codes "}}"

-- the rows of the threads below n
unfoldable pub rows_text : ℕ → List ℕ
rows_text zero = []
rows_text (suc n) = rows_text n ++ row_text n

unfoldable pub head_text : Layout → List ℕ
head_text l = opening_text ++ rows_text l.threads

-- on which row and when: an event is as many microseconds after the start as there are events before it
unfoldable pub place_text : ℕ → ℕ → List ℕ
place_text n t = with_number (codes ",\"pid\":0,\"tid\":") t ++ with_number (codes ",\"ts\":") n

-- the event n as an instant, with its action as its name
unfoldable pub instant_text : ℕ → Event → List ℕ
instant_text n e =
    codes ",\n{\"ph\":\"i\",\"s\":\"t\"" ++ place_text n e.thread.0 ++ codes ",\"name\":\"" ++ action_text e.action ++ codes "\"}"

-- which span of which kind: of one kind those with one id follow one another
unfoldable pub span_name : ℕ → Span → List ℕ
span_name t (Mutex m) = with_number (codes "\",\"cat\":\"mutex\",\"id\":\"m") m.0 ++ with_number (codes "\",\"name\":\"m") m.0
span_name t (Wait c) = with_number (codes "\",\"cat\":\"wait\",\"id\":\"t") t ++ with_number (codes "\",\"name\":\"c") c.0
span_name t (Semaphore s) = with_number (codes "\",\"cat\":\"semaphore\",\"id\":\"s") s.0 ++ with_number (codes "\",\"name\":\"s") s.0

-- the event n of the thread t ends (`e`) or begins (`b`) a span
unfoldable pub turn_text : ℕ → ℕ → ℕ → Span → List ℕ
turn_text side n t x =
    (codes ",\n{\"ph\":\"" ++ side ∷ []) ++ span_name t x ++ (codes "\"" ++ place_text n t)
    ++ (with_number (codes ",\"args\":{\"thread\":\"t") t ++ codes "\"}}")

-- where there is such a span
abbrev pub turn_if : ℕ → ℕ → ℕ → Option Span → List ℕ
turn_if side n t None = []
turn_if side n t (Some x) = turn_text side n t x

-- the event n: the instant, the span that it ends, and the span that it begins
unfoldable pub event_text : ℕ → Event → List ℕ
event_text n e = instant_text n e ++ turn_if 101 n e.thread.0 (ended_by e.action) ++ turn_if 98 n e.thread.0 (begun_by e.action)

-- the events from place n on
unfoldable pub events_text : ℕ → List Event → List ℕ
events_text n [] = []
events_text n (e ∷ es) = event_text n e ++ events_text (n + 1) es

abbrev pub closing_text : List ℕ
closing_text = codes "\n]}\n"

-- what stands before the closing
unfoldable pub open_text : Layout → List Event → List ℕ
open_text l es = head_text l ++ events_text 0 es

-- the whole text
unfoldable pub json_text : Layout → List Event → List ℕ
json_text l es = open_text l es ++ closing_text
