-- The texts of marks, bars and rows.
use Rattle.std.specs.Prelude.{ℕ, zero, suc, ◌+◌, ◌-◌, ◌*◌, ◌%◌, ◌==◌, ◌&&◌, nat_lt, nat_le, min, max, Bool, true, false, if◌then◌else◌, List, [], ◌∷◌, ◌++◌, codes, decimal, Some, None}
use Rattle.std.specs.declared.option.Option.{Option}
use Rattle.larch_actions.specs.declared.event.Event.{Event}
use Rattle.larch_actions.specs.declared.event.Broken.{Broken}
use Rattle.larch_actions.specs.declared.event.Broken.TheVariants as broken
use Rattle.trace_core.specs.Text.{action_text}
use Rattle.trace_board.specs.declared.history.Origin.{Origin}
use Rattle.trace_board.specs.declared.history.Change.{Change}
use Rattle.trace_board.specs.declared.history.Change.TheVariants.{Begins}
use Rattle.trace_board.specs.Marks.{marks}
use Rattle.trace_shapes.specs.declared.view.RowKind.{RowKind}
use Rattle.trace_shapes.specs.declared.view.Band.{Band}
use Rattle.trace_shapes.specs.declared.view.Reach.{Reach}
use Rattle.trace_shapes.specs.declared.view.Strip.{Strip}
use Rattle.trace_shapes.specs.declared.geometry.TheConstants.{LETTER_LINE, DIGIT_LEFT, DIGITS_END, NAME_LEFT, NAME_LINE, NAMED_WAIT, MIDDLE, FLAG_GAP, FLAG_TURN}
use Rattle.trace_shapes.specs.Looks.{look_of, has_number}
use Rattle.trace_shapes.specs.Places.{is_thin, kind_in, row_y, row_height, mark_y, lane_y, wait_top, wait_line, name_line, event_x, bar_x, bar_width, wait_x, wait_end}

-- words and a number
abbrev pub with_number : List ℕ → ℕ → List ℕ
with_number word n = word ++ decimal n

-- the texts of the numbers below n, one after another
unfoldable pub each_below : (ℕ → List ℕ) → ℕ → List ℕ
each_below f zero = []
each_below f (suc n) = each_below f n ++ f n

-- the line of the event in a trace text, without its newline
unfoldable pub line_of : ℕ → Event → List ℕ
line_of n e = decimal n ++ codes " t" ++ decimal e.thread.0 ++ codes " " ++ action_text e.action

abbrev pub clause_word : Broken → List ℕ
clause_word broken.Order = codes "order"
clause_word broken.Requires = codes "requires"
clause_word broken.When = codes "when"
clause_word broken.Ensures = codes "ensures"

-- a place, within a tag
unfoldable pub place_text : ℕ → ℕ → List ℕ
place_text x y = with_number (codes "' x='") x ++ with_number (codes "' y='") y

-- a place and a width, within a tag
unfoldable pub box_text : ℕ → ℕ → ℕ → List ℕ
box_text x y width = place_text x y ++ with_number (codes "' width='") width

abbrev pub begins : Change → Bool
begins (Begins k) = true
begins _ = false

-- how the mark of an event that takes a mutex is called, where the lock order is wanted: its edge may become a ring
abbrev pub mark_id : Bool → ℕ → Event → List ℕ
mark_id ordered n e = if ordered && begins (marks e).mutex then with_number (codes "' id='e") n else []

-- the mark of an event: its letter, and its line as the title
unfoldable pub mark_text : Bool → Band → ℕ → Event → List ℕ
mark_text ordered b n e =
    (codes "<use href='#" ++ (look_of (marks e).mark).letter ∷ []) ++ place_text (event_x b n) (mark_y b e.thread.0)
    ++ mark_id ordered n e ++ (codes "'><title>" ++ line_of n e) ++ codes "</title></use>\n"

-- how many digits a small number has, and where it stands in its mark: a longer one ends at the mark's end
abbrev pub digits_of : ℕ → ℕ
digits_of k = if nat_lt k 10 then 1 else (if nat_lt k 100 then 2 else 3)

abbrev pub number_left : ℕ → ℕ
number_left k = if nat_lt k 10 then DIGIT_LEFT else DIGITS_END

-- the number of an event's object, beside the letter of its mark
unfoldable pub object_text : Band → ℕ → Event → List ℕ
object_text b n e =
    with_number (codes "<text class='s") (digits_of (marks e).object)
    ++ place_text (event_x b n + number_left (marks e).object) (row_y b e.thread.0 + LETTER_LINE)
    ++ with_number (codes "'>") (marks e).object ++ codes "</text>\n"

-- the same, but where a bar has the name, or the row
abbrev pub object_if : Band → ℕ → Event → List ℕ
object_if b n e = if has_number (marks e).mark then object_text b n e else []

abbrev pub clause_name : Broken → List ℕ
clause_name broken.Order = codes "ORDER"
clause_name broken.Requires = codes "REQUIRES"
clause_name broken.When = codes "WHEN"
clause_name broken.Ensures = codes "ENSURES"

-- a line through the band at an event that fails
unfoldable pub strike_text : Band → ℕ → List ℕ
strike_text b n =
    with_number (codes "<path class='fl' d='M") (event_x b n + MIDDLE) ++ with_number (codes " 19V") b.plan.end
    ++ codes "'/>\n"

-- a flag at its upper end, with what the event fails
unfoldable pub flag_place : Band → ℕ → List ℕ
flag_place b n =
    if nat_lt (n - b.start) FLAG_TURN then with_number (codes "<text class='ft' y='13' x='") (event_x b n + MIDDLE + FLAG_GAP)
    else with_number (codes "<text class='fe' y='13' x='") (event_x b n + MIDDLE - FLAG_GAP)

unfoldable pub flag_text : Band → ℕ → Broken → List ℕ
flag_text b n why = flag_place b n ++ with_number (codes "'>event ") n ++ (codes " fails " ++ clause_name why) ++ codes "</text>\n"

-- the mark of an event that fails, with its line and what it fails
unfoldable pub failed_mark : Band → ℕ → Event → Broken → List ℕ
failed_mark b n e why =
    codes "<use href='#F" ++ place_text (event_x b n) (mark_y b e.thread.0) ++ (codes "'><title>" ++ line_of n e)
    ++ (codes " fails " ++ clause_word why) ++ codes "</title></use>\n"

-- the mark comes after the line, which it covers
unfoldable pub failed_text : Band → ℕ → Event → Broken → List ℕ
failed_text b n e why = strike_text b n ++ failed_mark b n e why ++ flag_text b n why

-- where a bar ends
unfoldable pub end_words : Bool → ℕ → List ℕ
end_words ended to = if ended then with_number (codes " to event ") (to - 1) else codes " on"

-- of which thread, and from which event to which, a bar is
unfoldable pub span_text : List ℕ → Reach → Origin → List ℕ
span_text of r o = with_number of o.thread.0 ++ with_number (codes " from event ") o.place ++ end_words r.ended r.to

-- which event gave the mutex back before, where it was one of another thread
unfoldable pub giver_text : Origin → List ℕ
giver_text o = with_number (codes ", after event ") o.place ++ with_number (codes " of t") o.thread.0 ++ codes " gave it back"

abbrev pub given_text : ℕ → Option Origin → List ℕ
given_text t None = []
given_text t (Some o) = if o.thread.0 == t then [] else giver_text o

-- where a bar stands
unfoldable pub bar_box : Reach → Strip → List ℕ
bar_box r x = box_text (bar_x r x.since) (lane_y r.band x.since.thread.0 x.lane) (bar_width r x.since)

-- the end of a bar's tag, and its name
unfoldable pub bar_name : List ℕ → Reach → Strip → List ℕ
bar_name name r x =
    codes "</title></rect><text class='x" ++ place_text (bar_x r x.since + NAME_LEFT) (lane_y r.band x.since.thread.0 x.lane + NAME_LINE)
    ++ with_number name x.number ++ codes "</text>\n"

-- a mutex that is held
unfoldable pub bar_text : Reach → Strip → List ℕ
bar_text r x =
    with_number (codes "<rect class='m") x.number ++ bar_box r x ++ with_number (codes "' height='12' rx='2'><title>m") x.number
    ++ span_text (codes " held by t") r x.since ++ given_text x.since.thread.0 x.given ++ bar_name (codes "'>m") r x

-- a semaphore that is taken
unfoldable pub taken_text : Reach → Strip → List ℕ
taken_text r x =
    codes "<rect class='e" ++ bar_box r x ++ with_number (codes "' height='12' rx='2'><title>s") x.number
    ++ span_text (codes " taken by t") r x.since ++ bar_name (codes "'>s") r x

-- the upper edge of a wait
abbrev pub wait_y : Reach → Origin → ℕ
wait_y r o = row_y r.band o.thread.0 + wait_top (kind_in r.band o.thread.0)

-- the name of the condition of a wait, where there is room for it
unfoldable pub wait_name : Reach → Origin → List ℕ
wait_name r o =
    codes "<text class='hx" ++ place_text (wait_x r o + NAME_LEFT) (wait_y r o + wait_line (kind_in r.band o.thread.0))
    ++ with_number (codes "'>c") o.object ++ codes "</text>\n"

abbrev pub wait_name_if : Reach → Origin → List ℕ
wait_name_if r o = if nat_lt (wait_end r - wait_x r o) NAMED_WAIT then [] else wait_name r o

-- how high a wait is, before the number of its condition
abbrev pub wait_tag : RowKind → List ℕ
wait_tag k = if is_thin k then codes "' height='8'><title>wait on c" else codes "' height='9'><title>wait on c"

-- a part of a wait, from one point to another
unfoldable pub wait_part : List ℕ → Reach → Origin → ℕ → ℕ → List ℕ
wait_part tag r o x end =
    tag ++ box_text x (wait_y r o) (end - x) ++ with_number (wait_tag (kind_in r.band o.thread.0)) o.object ++ span_text (codes " of t") r o

-- that it is in its condition, up to this point
unfoldable pub in_text : Reach → Origin → ℕ → List ℕ
in_text r o end = wait_part (codes "<rect class='h") r o (wait_x r o) end ++ codes "</title></rect>\n"

abbrev pub in_if : Reach → Origin → ℕ → List ℕ
in_if r o end = if nat_lt (wait_x r o) end then in_text r o end else []

-- from where on it was let go on by the event p, and that it was
abbrev pub let_go_x : Reach → Origin → Origin → ℕ
let_go_x r o p = max (wait_x r o) (if nat_le r.band.start p.place then event_x r.band (min p.place r.to) + MIDDLE else 0)

unfoldable pub out_text : Reach → Origin → Origin → List ℕ
out_text r o p =
    wait_part (codes "<rect class='d") r o (let_go_x r o p) (wait_end r) ++ with_number (codes ", let go on by event ") p.place
    ++ with_number (codes " of t") p.thread.0 ++ codes "</title></rect>\n"

abbrev pub out_if : Reach → Origin → Origin → List ℕ
out_if r o p = if nat_lt (let_go_x r o p) (wait_end r) then out_text r o p else []

-- a wait: in the condition, and let go on but not yet resumed
abbrev pub parts_text : Reach → Origin → Option Origin → List ℕ
parts_text r o None = in_if r o (wait_end r)
parts_text r o (Some p) = in_if r o (let_go_x r o p) ++ out_if r o p

unfoldable pub wait_text : Reach → Origin → Option Origin → List ℕ
wait_text r o p = parts_text r o p ++ wait_name_if r o

-- the end of a row's tag, and its name
abbrev pub name_tag : RowKind → List ℕ
name_tag k = if is_thin k then codes "'/><text class='c' x='6' y='" else codes "'/><text class='y' x='6' y='"

unfoldable pub row_name : Band → ℕ → List ℕ
row_name b t =
    with_number (name_tag (kind_in b t)) (row_y b t + name_line (kind_in b t)) ++ with_number (codes "'>t") t ++ codes "</text>\n"

-- the row of a thread, with its name
unfoldable pub row_text : Band → ℕ → List ℕ
row_text b t =
    with_number (codes "<rect class='r' x='40' width='1208' height='") (row_height b t) ++ with_number (codes "' y='") (row_y b t)
    ++ row_name b t

-- the number of each fifth event above its column
unfoldable pub number_text : Band → ℕ → List ℕ
number_text b n =
    if (n - b.start) % 5 == 0 then with_number (codes "<text class='n' y='11' x='") (event_x b n + MIDDLE) ++ with_number (codes "'>") n
    ++ codes "</text>\n" else []
