-- The legend: an entry for each sort of thing that is drawn, six in a line, in a fixed order.
use Rattle.std.specs.Prelude.{ℕ, ◌+◌, ◌*◌, ◌/◌, ◌%◌, Bool, is_some, if◌then◌else◌, List, [], ◌∷◌, ◌++◌, codes, slice_index_or}
use Rattle.std.specs.declared.option.Option.{Option}
use Rattle.larch_actions.specs.State.{count_below}
use Rattle.trace_board.specs.declared.history.Origin.{Origin}
use Rattle.trace_board.specs.declared.marks.Mark.{Mark}
use Rattle.trace_board.specs.declared.marks.Mark.TheVariants.{Acquire, Release, Enqueue, Resume, Signal, Broadcast, P, V, Alert, TestAlert, AlertEnqueue, AlertReturn, AlertRaise, AlertPReturn, AlertPRaise, Fork, End, Join, Failed}
use Rattle.trace_shapes.specs.declared.geometry.TheConstants.{LEFT, LINE}
use Rattle.trace_shapes.specs.declared.legend.TheConstants.{ARROWS, TAKINGS, HOLDS, WAITS, LET_GO}
use Rattle.trace_shapes.specs.declared.legend.Entry.{Entry}
use Rattle.trace_shapes.specs.declared.legend.Entry.TheVariants.{OfMark, Arrows, Takings, Holds, Waits, LetGo}
use Rattle.trace_shapes.specs.Looks.{look_of, letter_x, words_of}
use Rattle.trace_shapes.specs.Shapes.{with_number, each_below}

-- all that a legend may explain, in its order
abbrev pub all_entries : List Entry
all_entries =
    OfMark Acquire ∷ OfMark Release ∷ OfMark Enqueue ∷ OfMark Resume ∷ OfMark Signal ∷ OfMark Broadcast ∷ OfMark P ∷ OfMark V ∷ OfMark Alert
    ∷ OfMark TestAlert ∷ OfMark AlertEnqueue ∷ OfMark AlertReturn ∷ OfMark AlertRaise ∷ OfMark AlertPReturn ∷ OfMark AlertPRaise
    ∷ OfMark Fork ∷ OfMark End ∷ OfMark Join ∷ OfMark Failed ∷ Arrows ∷ Holds ∷ Takings ∷ Waits ∷ LetGo ∷ []

abbrev pub entry_at : ℕ → Entry
entry_at n = slice_index_or all_entries n Arrows

-- how an entry is called: as its mark, or as the class of what it shows
abbrev pub name_of : Entry → ℕ
name_of (OfMark m) = (look_of m).letter
name_of Arrows = ARROWS
name_of Takings = TAKINGS
name_of Holds = HOLDS
name_of Waits = WAITS
name_of LetGo = LET_GO

-- where an entry stands that so many others stand before
abbrev pub entry_x : ℕ → ℕ
entry_x before = LEFT + 200 * (before % 6)

abbrev pub entry_y : ℕ → ℕ
entry_y before = 6 + LINE * (before / 6)

unfoldable pub place_in_legend : ℕ → List ℕ
place_in_legend before =
    with_number (codes "<g transform='translate(") (entry_x before) ++ with_number (codes " ") (entry_y before) ++ codes ")'>"

-- where the letter of a mark stands, and the letter
unfoldable pub letter_text : Mark → List ℕ
letter_text m =
    with_number (codes "' width='22' height='15' rx='3'/><text class='i' y='12' x='") (letter_x m)
    ++ (codes "'>" ++ (look_of m).shown ∷ [])

-- a mark as it is drawn, and one that is drawn so
unfoldable pub shape_text : Mark → List ℕ
shape_text m =
    (codes "<defs><g id='" ++ (look_of m).letter ∷ []) ++ (codes "'><rect class='" ++ (look_of m).class ∷ []) ++ letter_text m
    ++ (codes "</text></g></defs><use href='#" ++ (look_of m).letter ∷ []) ++ codes "'/>"

-- what it is the mark of
unfoldable pub words_text : Mark → List ℕ
words_text m = codes "<text x='26' y='12'>" ++ words_of m ++ codes "</text></g>\n"

abbrev pub mark_body : Mark → List ℕ
mark_body m = shape_text m ++ words_text m

-- what an entry shows, and its words
abbrev pub body_of : Entry → List ℕ
body_of (OfMark m) = mark_body m
body_of Arrows = codes "<path class='a' d='M0 8H32'/><text x='39' y='12'>lets another thread go on</text></g>\n"
body_of Takings =
    codes "<rect class='e' y='2' width='34' height='12' rx='2'/><text class='x' x='4' y='12'>s0</text><text x='39' y='12'>semaphore s0 is taken</text></g>\n"
body_of Holds =
    codes "<rect class='m0' y='2' width='34' height='12' rx='2'/><text class='x' x='4' y='12'>m0</text><text x='39' y='12'>holds mutex m0</text></g>\n"
body_of Waits =
    codes "<rect class='h' y='3' width='34' height='9'/><text class='hx' x='4' y='11'>c0</text><text x='39' y='12'>waits in condition c0</text></g>\n"
body_of LetGo = codes "<rect class='d' y='3' width='34' height='9'/><text x='39' y='12'>let go on, not yet resumed</text></g>\n"

unfoldable pub entry_text : ℕ → Entry → List ℕ
entry_text before e = place_in_legend before ++ body_of e

-- the entry at the place n of all is shown, since some event
abbrev pub is_shown : (ℕ → Option Origin) → ℕ → Bool
is_shown shown n = is_some (shown (name_of (entry_at n)))

-- how many of the first n entries are shown
abbrev pub shown_before : (ℕ → Option Origin) → ℕ → ℕ
shown_before shown n = count_below (is_shown shown) n

-- that entry, after those before it that are shown
abbrev pub entry_if : (ℕ → Option Origin) → ℕ → List ℕ
entry_if shown n = if is_shown shown n then entry_text (shown_before shown n) (entry_at n) else []

unfoldable pub legend_text : (ℕ → Option Origin) → List ℕ
legend_text shown = each_below (entry_if shown) 24

-- how high the legend is
abbrev pub legend_height : (ℕ → Option Origin) → ℕ
legend_height shown = 14 + LINE * ((shown_before shown 24 + 5) / 6)
