-- The overview: a column for each band, which links to it, with the threads that had an event in it and the mutexes that were held. A style at the end of the picture
-- shows it where there are more than ten bands, above them.
use Rattle.std.specs.Prelude.{ℕ, ◌+◌, ◌-◌, ◌*◌, ◌/◌, ◌%◌, nat_lt, if◌then◌else◌, List, [], ◌++◌, codes, Some, None}
use Rattle.std.specs.declared.option.Option.{Option}
use Rattle.larch_actions.specs.declared.event.Layout.{Layout}
use Rattle.trace_board.specs.declared.history.Origin.{Origin}
use Rattle.trace_board.specs.Tracked.{Tracked, has_run, was_held}
use Rattle.trace_shapes.specs.declared.view.DrawnRange.{DrawnRange}
use Rattle.trace_shapes.specs.Places.{bands}
use Rattle.trace_shapes.specs.Shapes.{with_number, each_below, place_text}

-- how high a row of a hundred columns is
abbrev pub columns_height : Layout → ℕ
columns_height l = 6 * l.threads + 6 * l.mutexes + 30

-- where the column of this band stands
abbrev pub over_x : ℕ → ℕ
over_x band = 44 + 12 * (band % 100)

abbrev pub over_y : Layout → ℕ → ℕ
over_y l band = band / 100 * columns_height l

-- a cell of a column
unfoldable pub cell_text : ℕ → ℕ → List ℕ
cell_text x y = place_text x y ++ codes "' width='11' height='5'/>\n"

-- the cell of the thread t: where it had an event from the event `start` on, or where it only waits
abbrev pub waiting_cell : Option Origin → ℕ → ℕ → List ℕ
waiting_cell None x y = []
waiting_cell (Some o) x y = codes "<rect class='u1" ++ cell_text x y

abbrev pub ran_cell : Tracked → ℕ → ℕ → ℕ → ℕ → List ℕ
ran_cell k start x y t =
    if has_run k start t then codes "<rect class='u0" ++ cell_text x (y + 6 * t) else waiting_cell (k.waits t) x (y + 6 * t)

-- the cell of the mutex m, below the threads, where it was held at some time since
abbrev pub held_cell : Tracked → ℕ → ℕ → ℕ → ℕ → List ℕ
held_cell k start x y m = if was_held k start m then with_number (codes "<rect class='m") m ++ cell_text x (y + 6 * m) else []

-- the link of a column to its band, and which events those are
unfoldable pub link_text : ℕ → ℕ → ℕ → List ℕ
link_text band start to =
    with_number (codes "<a class='u' href='#b") band ++ with_number (codes "'><title>events ") start ++ with_number (codes " to ") (to - 1)
    ++ codes "</title>\n"

-- the column of the band that begins at `start`, up to the event before `to`
unfoldable pub column_text : Layout → Tracked → ℕ → ℕ → ℕ → List ℕ
column_text l k band start to =
    link_text band start to ++ each_below (ran_cell k start (over_x band) (over_y l band)) l.threads
    ++ each_below (held_cell k start (over_x band) (over_y l band + 6 * l.threads + 6)) l.mutexes ++ codes "</a>\n"

-- how much higher the overview makes the picture of n events
abbrev pub over_height : Layout → DrawnRange → ℕ → ℕ
over_height l v n = if nat_lt 10 (bands v n) then (bands v n + 99) / 100 * columns_height l + 24 else 0

-- what shows the overview, above the bands
abbrev pub over_style : Layout → DrawnRange → ℕ → List ℕ
over_style l v n =
    if nat_lt 10 (bands v n) then
    with_number (codes "px)}.u{display:inline;transform:translate(0,8px) translate(0,-") (over_height l v n) ++ codes "px)}</style>\n</svg>\n"
    else codes "px)}</style>\n</svg>\n"
