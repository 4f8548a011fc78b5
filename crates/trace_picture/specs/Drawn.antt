-- What a sink got of a picture.
use Rattle.std.specs.Prelude.{◌≡◌, ℕ, ◌⊎◌, List, [], IfSome}
use Rattle.std.specs.Io.KnownBytes.{Appends}
use Rattle.std.specs.declared.option.Option.{Option}
use Rattle.firefly_outside.specs.Causes.{AppendsPrefix}
use Rattle.larch_actions.specs.declared.event.Layout.{Layout}
use Rattle.larch_actions.specs.declared.event.Event.{Event}
use Rattle.larch_actions.specs.declared.event.Broken.{Broken}
use Rattle.larch_actions.specs.Actions.{Spec}
use Rattle.trace_check.specs.declared.checker.Summary.{Summary}
use Rattle.trace_check.specs.declared.checker.Verdict.{Verdict}
use Rattle.trace_check.specs.declared.checker.Verdict.TheVariants.{Legal, Illegal, BadLine, TooLong, ReadFault}
use Rattle.trace_check.specs.Verdicts.{IsPrefixText, Counts, IsLegalText, IsIllegalText}
use Rattle.trace_shapes.specs.declared.view.DrawnRange.{DrawnRange}
use Rattle.trace_picture.specs.Picture.{failed_picture, cut_picture}
use Rattle.trace_picture.specs.Rings.{IsLegalPicture}

-- the sink got nothing, since there is no head, or the picture of events at the front of the input
abbrev pub GotCut : ℕ → DrawnRange → List ℕ → Option (List ℕ) → Option (List ℕ) → Type 0
GotCut budget v bytes reported reported' =
    Appends reported reported' [] ⊎ ((w : IsPrefixText budget bytes) × Appends reported reported' (cut_picture w.layout v w.events))

-- the sink got the picture that this verdict asks for
abbrev pub Got : ℕ → DrawnRange → List ℕ → Option (List ℕ) → Option (List ℕ) → Verdict → Type 0
Got budget v bytes reported reported' (Legal s) =
    (w : IsLegalText budget bytes s) × (text : List ℕ) × IsLegalPicture w.layout v s w.events text × Appends reported reported' text
Got budget v bytes reported reported' (Illegal place why) =
    (w : IsIllegalText budget bytes place why) × Appends reported reported' (failed_picture w.layout v w.events w.event why)
Got budget v bytes reported reported' (BadLine k) = GotCut budget v bytes reported reported'
Got budget v bytes reported reported' TooLong = GotCut budget v bytes reported reported'
Got budget v bytes reported reported' ReadFault = GotCut budget v bytes reported reported'

abbrev pub IsDrawn : ℕ → DrawnRange → Option (List ℕ) → Option (List ℕ) → Option (List ℕ) → Verdict → Type 0
IsDrawn budget v left reported reported' verdict = IfSome left (λ bytes. Got budget v bytes reported reported' verdict)

-- the text is one of the pictures of these events, which lead to this state
abbrev pub IsAPicture : Layout → DrawnRange → List Event → Spec → List ℕ → Type 0
IsAPicture l v es last text =
    ((s : Summary) × Counts l es last s × IsLegalPicture l v s es text) ⊎ (text ≡ cut_picture l v es)
    ⊎ ((e : Event) × (why : Broken) × (text ≡ failed_picture l v es e why))

-- the sink failed, and got a proper prefix of a picture of events at the front of the input
abbrev pub IsCutOff : ℕ → DrawnRange → Option (List ℕ) → Option (List ℕ) → Option (List ℕ) → Type 0
IsCutOff budget v left reported reported' =
    IfSome left (λ bytes. (w : IsPrefixText budget bytes) × (text : List ℕ) × IsAPicture w.layout v w.events w.last text
    × AppendsPrefix reported reported' text)
