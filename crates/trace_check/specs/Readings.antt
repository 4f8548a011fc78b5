-- What a trace text reads as.
use Rattle.std.specs.Prelude.{◌≡◌, ℕ, ◌-◌, ◌^◌, ◌<◌, List, [], length, map}
use Rattle.larch_actions.specs.declared.event.Layout.{Layout}
use Rattle.larch_actions.specs.declared.event.Event.{Event}
use Rattle.larch_actions.specs.declared.event.ThreadId.{ThreadId}
use Rattle.larch_actions.specs.declared.event.Action.{Action}
use Rattle.larch_actions.specs.declared.event.Action.TheVariants.{Signal}
use Rattle.trace_core.specs.Names.{set_from}
use Rattle.trace_core.specs.Text.{MutexValue, ReadsAs, members}

-- the threads that an action leaves, rising
abbrev pub left_by : Action → List ℕ
left_by (Signal c left) = members left
left_by a = []

-- the action without them
abbrev pub bare : Action → Action
bare (Signal c left) = Signal c (set_from [])
bare a = a

-- an event, with the set of threads that it leaves as a list
abbrev pub listed : Event → ThreadId × Action × List ℕ
listed e = (e.thread, bare e.action, left_by e.action)

-- A text reads as one layout, one list of values, and one list of events, but for how their sets of threads are kept.
abbrev pub OneReading : Type 0
OneReading =
    (bytes : List ℕ) (l k : Layout) (es ds : List Event) (vs us : List MutexValue) → length bytes < 2 ^ 64 - 1 → ReadsAs bytes l es vs
    → ReadsAs bytes k ds us → (l ≡ k) × (map listed es ≡ map listed ds) × (vs ≡ us)
