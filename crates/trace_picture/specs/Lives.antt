-- The rows of threads that begin and end: a row goes from its thread's fork to its end.
use Rattle.std.specs.Prelude.{ℕ, ◌+◌, ◌-◌, ◌&&◌, not, if◌then◌else◌, List, [], ◌++◌, codes}
use Rattle.larch_actions.specs.declared.event.Version.{Version}
use Rattle.trace_board.specs.declared.history.Change.{Change}
use Rattle.trace_board.specs.declared.history.Change.TheVariants.{Begins, Ends, Stays}
use Rattle.trace_board.specs.Tracked.{Tracked}
use Rattle.trace_shapes.specs.declared.view.Band.{Band}
use Rattle.trace_shapes.specs.declared.geometry.TheConstants.{COLUMN, ROW_RIGHT}
use Rattle.trace_shapes.specs.Places.{event_x, kind_in, row_y, row_height}
use Rattle.trace_shapes.specs.Shapes.{with_number, place_text, row_name, row_text}
use Rattle.trace_picture.specs.Plan.{has_row, is_absent}

-- the row of a thread at the start of a band, where it lives and has one
abbrev pub row_if : Version → Band → Tracked → ℕ → List ℕ
row_if version b k t = if has_row version k t && not (is_absent (kind_in b t)) then row_text b t else []

-- the box of a row from this point on
unfoldable pub row_box : Band → ℕ → ℕ → List ℕ
row_box b x t = with_number (codes "' height='") (row_height b t) ++ with_number (codes "' width='") (ROW_RIGHT - x) ++ place_text x (row_y b t)

-- the row of a thread from this point on, with its name
unfoldable pub row_from : Band → ℕ → ℕ → List ℕ
row_from b x t = codes "<rect class='r" ++ row_box b x t ++ row_name b t

-- what is no more of the row of a thread, from this point on
unfoldable pub row_until : Band → ℕ → ℕ → List ℕ
row_until b x t = codes "<rect class='z" ++ row_box b x t ++ with_number (codes "'><title>t") t ++ codes " has ended</title></rect>\n"

-- what the event n does to a row: it begins in its column, or ends after it
abbrev pub life_row : Band → ℕ → Change → List ℕ
life_row b n (Begins t) = row_from b (event_x b n) t
life_row b n (Ends t) = row_until b (event_x b n + COLUMN) t
life_row b n Stays = []
