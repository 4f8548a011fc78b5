-- What stands at the top of a picture: the verdict with its counts, and of an illegal trace the rule and what stood before the event, as `explain` says it.
use Rattle.std.specs.Prelude.{ℕ, ◌+◌, ◌-◌, ◌==◌, ◌&&◌, nat_lt, min, if◌then◌else◌, List, [], ◌∷◌, ◌++◌, codes, Some, None}
use Rattle.std.specs.List.{flat_map}
use Rattle.std.specs.declared.option.Option.{Option}
use Rattle.larch_actions.specs.declared.event.Version.{Version}
use Rattle.larch_actions.specs.declared.event.Event.{Event}
use Rattle.larch_actions.specs.declared.event.Broken.{Broken}
use Rattle.trace_check.specs.declared.checker.Summary.{Summary}
use Rattle.trace_board.specs.Tracked.{Tracked}
use Rattle.trace_shapes.specs.declared.view.DrawnRange.{DrawnRange}
use Rattle.trace_shapes.specs.Shapes.{with_number, line_of, clause_word}
use Rattle.trace_explain.specs.Rules.{rule_of}
use Rattle.trace_explain.specs.Facts.{facts}

-- which of the first n events were drawn
unfoldable pub part_text : DrawnRange → ℕ → List ℕ
part_text v n =
    if nat_lt v.first (min n v.end) then with_number (codes ", drawn: ") v.first ++ with_number (codes " to ") (min n v.end - 1)
    else codes ", drawn: none"

-- what is left at the end, in another colour where a mutex is held or a thread waits
abbrev pub left_words : Summary → List ℕ
left_words s = if s.held == 0 && s.waiting == 0 then codes "; <tspan>at the end held: " else codes "; <tspan class='at'>at the end held: "

unfoldable pub left_text : Summary → List ℕ
left_text s =
    with_number (left_words s) s.held ++ with_number (codes ", waiting: ") s.waiting ++ with_number (codes ", alerted: ") s.alerted
    ++ codes "</tspan>"

abbrev pub left_if : Option Summary → List ℕ
left_if None = []
left_if (Some s) = left_text s

abbrev pub legal_words : List ℕ
legal_words = codes "<text class='hd' x='44' y='18'><tspan class='ok'>legal</tspan>, events: "

abbrev pub cut_words : List ℕ
cut_words = codes "<text class='hd' x='44' y='18'><tspan class='no'>the input can't be read further</tspan>, events: "

-- these words, the count of the events, which of them were drawn, and what is left
unfoldable pub counted_line : DrawnRange → ℕ → List ℕ → Option Summary → List ℕ
counted_line v n words left = with_number words n ++ part_text v n ++ left_if left ++ codes "</text>\n"

-- which clause the event n fails, its line, and which events were drawn
unfoldable pub failed_line : DrawnRange → ℕ → Event → Broken → List ℕ
failed_line v n e why =
    codes "<text class='hd' x='44' y='18'><tspan class='no'>illegal</tspan>, fails " ++ clause_word why ++ codes ": " ++ line_of n e
    ++ part_text v (n + 1)

-- lines as sentences: a stop stands for the end of a line
abbrev pub spelled : ℕ → List ℕ
spelled c = if c == 10 then codes ". " else c ∷ []

abbrev pub sentences : List ℕ → List ℕ
sentences lines = flat_map spelled lines

-- the rule that the event fails
unfoldable pub rule_line : Version → Event → Broken → List ℕ
rule_line version e why = codes "</text>\n<text x='44' y='36'>rule: " ++ rule_of version why e.action ++ codes "</text>\n"

-- all that the explanation says of what stood before it
unfoldable pub facts_line : Version → Tracked → Event → List ℕ
facts_line version k e = codes "<text x='44' y='54'>before it: " ++ sentences (facts version k e) ++ codes "</text>\n"

unfoldable pub refusal : Version → DrawnRange → Tracked → ℕ → Event → Broken → List ℕ
refusal version v k n e why = failed_line v n e why ++ rule_line version e why ++ facts_line version k e
