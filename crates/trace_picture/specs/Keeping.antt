-- What is drawn of a band once all its events are kept.
use Rattle.std.specs.Prelude.{ℕ, ◌+◌, ◌-◌, Bool, true, false, if◌then◌else◌, List, [], ◌∷◌, ◌++◌, length}
use Rattle.larch_actions.specs.declared.event.Layout.{Layout}
use Rattle.larch_actions.specs.declared.event.Event.{Event}
use Rattle.trace_shapes.specs.declared.view.DrawnRange.{DrawnRange}
use Rattle.trace_board.specs.Tracked.{tracked_after}
use Rattle.trace_shapes.specs.Places.{in_view, is_open}
use Rattle.trace_picture.specs.Plan.{page_of}
use Rattle.trace_picture.specs.Shown.{Drawn, drawn_after}
use Rattle.trace_picture.specs.Bands.{step_text}

-- a new page, where there are events that are kept
abbrev pub turned : Layout → List Event → Drawn → Drawn
turned l [] d = d
turned l (e ∷ es) d = record { board = d.board; shown = d.shown; page = page_of l d.board (e ∷ es) d.page.next }

-- what these events of one band add from the event n on, and what was drawn then
unfoldable pub band_steps : Layout → DrawnRange → ℕ → Drawn → List Event → List ℕ
band_steps l v n d [] = []
band_steps l v n d (e ∷ es) = step_text l v d.page d.board n e ++ band_steps l v (n + 1) (drawn_after l v n e d) es

unfoldable pub drawn_over : Layout → DrawnRange → ℕ → Drawn → List Event → Drawn
drawn_over l v n d [] = d
drawn_over l v n d (e ∷ es) = drawn_over l v (n + 1) (drawn_after l v n e d) es

-- what the event n adds where these are kept before it, what was drawn then, and what is kept then: an event in view is kept, until its band is full
abbrev pub fills : DrawnRange → ℕ → Bool
fills v n = if is_open v (n + 1) then false else true

abbrev pub added_on : Layout → DrawnRange → ℕ → Drawn → List Event → List ℕ
added_on l v n d es = if fills v n then band_steps l v (n + 1 - length es) (turned l es d) es else []

abbrev pub drawn_on : Layout → DrawnRange → ℕ → Drawn → List Event → Drawn
drawn_on l v n d es = if fills v n then drawn_over l v (n + 1 - length es) (turned l es d) es else d

abbrev pub kept_on : DrawnRange → ℕ → List Event → List Event
kept_on v n es = if fills v n then [] else es

-- an event that comes after those that are kept is kept too, and drawn where it fills their band; out of view it is only noted
abbrev pub noted_on : ℕ → Event → Drawn → Drawn
noted_on n e d = record { board = tracked_after n e d.board; shown = d.shown; page = d.page }

abbrev pub event_text : Layout → DrawnRange → ℕ → Drawn → List Event → Event → List ℕ
event_text l v n d es e = if in_view v n then added_on l v n d (es ++ e ∷ []) else []

abbrev pub event_drawn : Layout → DrawnRange → ℕ → Drawn → List Event → Event → Drawn
event_drawn l v n d es e = if in_view v n then drawn_on l v n d (es ++ e ∷ []) else noted_on n e d

abbrev pub event_kept : DrawnRange → ℕ → List Event → Event → List Event
event_kept v n es e = if in_view v n then kept_on v n (es ++ e ∷ []) else es
