-- Texts that are put piece by piece.
use Rattle.std.specs.Prelude.{◌≡◌, ℕ, ◌+◌, List, [], ◌∷◌, ◌++◌}
use Rattle.std.specs.Io.KnownBytes.{Appends}
use Rattle.std.specs.declared.option.Option.{Option}
use Rattle.larch_actions.specs.declared.event.Event.{Event}
use Rattle.trace_core.specs.Text.{event_line, MutexValue}

-- the lines of the events from place n on
abbrev pub event_lines : ℕ → List Event → List ℕ
event_lines n [] = []
event_lines n (e ∷ es) = event_line n e ++ event_lines (n + 1) es

-- each value with the number of its mutex, from k on
abbrev pub numbered : ℕ → List ℕ → List MutexValue
numbered k [] = []
numbered k (v ∷ vs) = record { mutex = k; value = v } ∷ numbered (k + 1) vs

-- the text was put after the bytes that were held back: some were sent, and the others are held back now
abbrev pub Flows : Option (List ℕ) → Option (List ℕ) → List ℕ → List ℕ → List ℕ → Type 0
Flows old new before after text = (sent : List ℕ) × Appends old new sent × (sent ++ after ≡ before ++ text)
