-- Which text explains a verdict.
use Rattle.std.specs.Prelude.{◌≡◌, ℕ, List, [], IfSome, Some}
use Rattle.larch_actions.specs.declared.event.Layout.{Layout}
use Rattle.larch_actions.specs.declared.event.Event.{Event}
use Rattle.std.specs.declared.option.Option.{Option}
use Rattle.std.specs.Io.KnownBytes.{Appends}
use Rattle.firefly_outside.specs.Causes.{AppendsPrefix}
use Rattle.trace_check.specs.declared.checker.Verdict.{Verdict}
use Rattle.trace_check.specs.declared.checker.Verdict.TheVariants as verdict
use Rattle.trace_check.specs.Verdicts.{IsIllegalText, IsJust}
use Rattle.trace_board.specs.Tracked.{Tracked, tracked_since, extended, IsNoted}
use Rattle.trace_explain.specs.Words.{legal_text, illegal_text, bad_text}

-- The text explains the verdict on an input of these bytes: of an illegal one by what is kept of the events before the one that fails.
abbrev pub Explains : ℕ → Option (List ℕ) → Verdict → List ℕ → Type 0
Explains budget left (verdict.Legal s) text = text ≡ legal_text s
Explains budget left (verdict.Illegal place why) text =
    IfSome left (λ bytes. (w : IsIllegalText budget bytes place why) × (text ≡ illegal_text w.layout.version
    (tracked_since (extended [] w.events)) place w.event why))
Explains budget left (verdict.BadLine n) text = text ≡ bad_text n
Explains budget left verdict.TooLong text = text ≡ []
Explains budget left verdict.ReadFault text = text ≡ []

-- the sink got the text that explains the verdict
abbrev pub GotText : ℕ → Option (List ℕ) → Option (List ℕ) → Option (List ℕ) → Verdict → Type 0
GotText budget left reported reported' v = (text : List ℕ) × Explains budget left v text × Appends reported reported' text

-- the sink got a prefix of the text that explains a verdict which is just
abbrev pub GotPrefix : ℕ → Option (List ℕ) → Option (List ℕ) → ℕ → ℕ → Option (List ℕ) → Option (List ℕ) → Type 0
GotPrefix budget left left' before now reported reported' =
    (v : Verdict) × IsJust budget left left' before now v × ((text : List ℕ) × Explains budget left v text × AppendsPrefix reported reported' text)

-- of an event that fails: it is the input's, and this is kept of the events before it
abbrev pub IsFailure : ℕ → Option (List ℕ) → Verdict → Tracked → Option Layout → Option Event → Type 0
IsFailure budget left (verdict.Illegal place why) k layout failed =
    IfSome left (λ bytes. (w : IsIllegalText budget bytes place why) × (layout ≡ Some w.layout) × (failed ≡ Some w.event)
    × (k ≡ tracked_since (extended [] w.events)))
IsFailure budget left _ k layout failed = Unit {0}

-- of an event that fails: it is there, with its layout, and its names are small
abbrev pub IsExplainable : Verdict → Option Layout → Option Event → Type 0
IsExplainable (verdict.Illegal place why) layout failed = (l : Layout) × (e : Event) × (layout ≡ Some l) × (failed ≡ Some e) × IsNoted e
IsExplainable _ layout failed = Unit {0}
