-- The spans of a legal trace begin and end in turn.
use Rattle.std.specs.Prelude.{◌≡◌, ℕ, Bool, true, false, cond, eqb, ◌&&◌, List, [], ◌∷◌, Some, None}
use Rattle.std.specs.declared.option.Option.{Option}
use Rattle.larch_actions.specs.declared.event.Event.{Event}
use Rattle.larch_actions.specs.declared.event.Version.{Version}
use Rattle.larch_actions.specs.Actions.{Spec, IsRun}
use Rattle.trace_json.specs.declared.spans.Span.{Span}
use Rattle.trace_json.specs.declared.spans.Span.TheVariants.{Mutex, Wait, Semaphore}
use Rattle.trace_json.specs.Spans.{ended_by, begun_by}

-- whether the span is that of the mutex m, and whether it is a wait
abbrev pub is_mutex : ℕ → Option Span → Bool
is_mutex m None = false
is_mutex m (Some (Mutex k)) = eqb m k.0
is_mutex m (Some (Wait c)) = false
is_mutex m (Some (Semaphore s)) = false

abbrev pub is_wait : Option Span → Bool
is_wait None = false
is_wait (Some (Mutex k)) = false
is_wait (Some (Wait c)) = true
is_wait (Some (Semaphore s)) = false

-- The first of these events that ends or begins the span, which is open now or not, ends an open one or begins one that is not open; so does
-- the next, and so on.
abbrev pub InTurn : (Event → Bool) → (Event → Bool) → Bool → List Event → Type 0
InTurn ends begins is_open [] = Unit {0}
InTurn ends begins is_open (e ∷ es) =
    (ends e ≡ true → is_open ≡ true) × (begins e ≡ true → is_open ≡ false)
    × InTurn ends begins (cond (begins e) true (cond (ends e) false is_open)) es

abbrev pub MutexesInTurn : Type 0
MutexesInTurn =
    (version : Version) (es : List Event) (s : Spec) → IsRun version es s → (m : ℕ)
    → InTurn (λ e. is_mutex m (ended_by e.action)) (λ e. is_mutex m (begun_by e.action)) false es

-- the waits of the thread t
abbrev pub WaitsInTurn : Type 0
WaitsInTurn =
    (version : Version) (es : List Event) (s : Spec) → IsRun version es s → (t : ℕ)
    → InTurn (λ e. eqb t e.thread.0 && is_wait (ended_by e.action)) (λ e. eqb t e.thread.0 && is_wait (begun_by e.action)) false es
