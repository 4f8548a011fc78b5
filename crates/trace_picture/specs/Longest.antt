-- The last lines of a picture: the longest hold of each mutex, three in a row.
use Rattle.std.specs.Prelude.{ℕ, ◌+◌, ◌*◌, ◌/◌, ◌%◌, if◌then◌else◌, List, ◌++◌, codes, Some, None}
use Rattle.std.specs.declared.option.Option.{Option}
use Rattle.trace_board.specs.declared.holds.Hold.{Hold}
use Rattle.trace_board.specs.Holds.{held_for}
use Rattle.trace_board.specs.Tracked.{Tracked, longest_in}
use Rattle.trace_shapes.specs.declared.geometry.TheConstants.{LEFT, LINE, NAME_LEFT, NAME_LINE}
use Rattle.trace_shapes.specs.Shapes.{with_number, each_below, place_text}

-- by which event a hold ended, where it did
unfoldable pub hold_end : Hold → List ℕ
hold_end h = if h.ended then with_number (codes " to ") h.last else codes " on"

-- by whom, for how many events, and from which event to which a mutex was held
unfoldable pub hold_text : Hold → List ℕ
hold_text h =
    with_number (codes "longest: t") h.since.thread.0 ++ with_number (codes ", events: ") (held_for h) ++ with_number (codes ", ") h.since.place
    ++ hold_end h

abbrev pub reported_hold : Option Hold → List ℕ
reported_hold None = codes "never held"
reported_hold (Some h) = hold_text h

-- where the line of the mutex m stands, below the bands
abbrev pub line_x : ℕ → ℕ
line_x m = LEFT + 400 * (m % 3)

abbrev pub line_y : ℕ → ℕ → ℕ
line_y low m = low + 8 + LINE * (m / 3)

-- a bar of the mutex, as it looks
unfoldable pub sample_text : ℕ → ℕ → List ℕ
sample_text low m =
    with_number (codes "<rect width='34' height='12' rx='2' class='m") m ++ place_text (line_x m) (line_y low m)
    ++ (codes "'/><text class='x" ++ place_text (line_x m + NAME_LEFT) (line_y low m + NAME_LINE)) ++ with_number (codes "'>m") m
    ++ codes "</text>"

unfoldable pub hold_line : ℕ → ℕ → Option Hold → List ℕ
hold_line low m h =
    sample_text low m ++ (codes "<text class='t" ++ place_text (line_x m + 40) (line_y low m + NAME_LINE))
    ++ (with_number (codes "'><title>m") m ++ codes "</title>") ++ reported_hold h ++ codes "</text>\n"

-- the lines of all mutexes, after n events
abbrev pub holds_text : ℕ → Tracked → ℕ → ℕ → List ℕ
holds_text mutexes k n low = each_below (λ m. hold_line low m (longest_in k n m)) mutexes

-- how high these lines are
abbrev pub holds_height : ℕ → ℕ
holds_height mutexes = (mutexes + 2) / 3 * LINE
