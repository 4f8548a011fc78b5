-- The text for each thing that a check finds.
use Rattle.std.specs.Prelude.{ℕ, ◌-◌, ◌==◌, if◌then◌else◌, List, [], ◌++◌, codes, Some, None}
use Rattle.std.specs.declared.option.Option.{Option}
use Rattle.larch_actions.specs.declared.event.Layout.{Layout}
use Rattle.larch_actions.specs.declared.event.Version.{Version}
use Rattle.larch_actions.specs.declared.event.Event.{Event}
use Rattle.larch_actions.specs.declared.event.Broken.{Broken}
use Rattle.trace_check.specs.declared.checker.Summary.{Summary}
use Rattle.trace_check.specs.declared.checker.Verdict.{Verdict}
use Rattle.trace_check.specs.declared.checker.Verdict.TheVariants.{Legal, Illegal, BadLine, TooLong, ReadFault}
use Rattle.trace_check.specs.declared.checker.Found.{Found}
use Rattle.trace_board.specs.Tracked.{Tracked}
use Rattle.trace_shapes.specs.Shapes.{with_number, line_of, clause_word}
use Rattle.trace_explain.specs.Rules.{rule_of}
use Rattle.trace_explain.specs.Facts.{facts}

-- of a legal trace its counts, as `check` writes them
unfoldable pub legal_text : Summary → List ℕ
legal_text s =
    with_number (codes "legal ") s.events ++ with_number (codes " held ") s.held ++ with_number (codes " waiting ") s.waiting
    ++ with_number (codes " alerted ") s.alerted ++ codes "\n"

-- the verdict, as `check` writes it, and the event's line
unfoldable pub failed_text : ℕ → Event → Broken → List ℕ
failed_text n e why = with_number (codes "illegal ") n ++ codes " " ++ clause_word why ++ codes "\nevent: " ++ line_of n e

-- the rule that the event fails, and the state before it
unfoldable pub illegal_text : Version → Tracked → ℕ → Event → Broken → List ℕ
illegal_text version k n e why = failed_text n e why ++ codes "\nrule: " ++ rule_of version why e.action ++ codes "\n" ++ facts version k e

-- what may stand on the line of the event n
unfoldable pub later_text : ℕ → List ℕ
later_text n =
    with_number (codes ": here stands event ") n
    ++ codes ", as its number, the name of a thread, an action and names below the layout's counts; or `end` and that number; or, behind such a line, `value`, a mutex above those before it and a number\n"

-- what may stand on the line
abbrev pub expected : ℕ → List ℕ
expected n =
    if n == 1 then codes ": the first line is `firefly-trace 1` or `firefly-trace 2`\n"
    else (if n == 2
    then codes ": the second line is `threads T mutexes M conditions C semaphores S`, T from 1 to 64, behind `firefly-trace 2` to 256, the others from 0 to 64\n" else later_text (n - 3))

unfoldable pub bad_text : ℕ → List ℕ
bad_text n = with_number (codes "bad line ") n ++ expected n

-- the text for a verdict, where the layout was read, that event fails, and this is kept of the events before
abbrev pub text_of : Verdict → Tracked → Option Layout → Option Event → List ℕ
text_of (Legal s) k layout failed = legal_text s
text_of (Illegal n why) k (Some l) (Some e) = illegal_text l.version k n e why
text_of (Illegal n why) k _ _ = []
text_of (BadLine n) k layout failed = bad_text n
text_of TooLong k layout failed = []
text_of ReadFault k layout failed = []

abbrev pub text_found : Tracked → Found → List ℕ
text_found k found = text_of found.verdict k found.layout found.failed
