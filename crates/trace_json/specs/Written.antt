-- What a sink got of the events.
use Rattle.std.specs.Prelude.{◌≡◌, ◌≢◌, ℕ, ◌⊎◌, ◌≤◌, List, [], ◌++◌, Result, IfSome, IfOk, OnErr}
use Rattle.std.specs.Borrow.{MutBor}
use Rattle.std.specs.Io.KnownBytes.{Appends}
use Rattle.std.specs.declared.option.Option.{Option}
use Rattle.firefly_outside.specs.Causes.{AppendsPrefix, HasCause, Rose}
use Rattle.larch_actions.specs.declared.event.Layout.{Layout}
use Rattle.larch_actions.specs.declared.event.Event.{Event}
use Rattle.trace_check.specs.declared.checker.Verdict.{Verdict}
use Rattle.trace_check.specs.declared.checker.Verdict.TheVariants.{Legal, Illegal, BadLine, TooLong, ReadFault}
use Rattle.trace_check.specs.Verdicts.{IsPrefixText, IsJust, IsLegalText, IsIllegalText}
use Rattle.text_output.specs.Sent.{Sends}
use Rattle.trace_json.specs.Texts.{json_text, open_text}

-- the sink got nothing, since there is no head, or the text of events at the front of the input
abbrev pub GotPrefix : ℕ → List ℕ → Option (List ℕ) → Option (List ℕ) → Type 0
GotPrefix budget bytes reported reported' =
    Appends reported reported' [] ⊎ ((w : IsPrefixText budget bytes) × Appends reported reported' (json_text w.layout w.events))

-- the sink got the text that this verdict asks for: of all events, or of those before the one that fails
abbrev pub Got : ℕ → List ℕ → Option (List ℕ) → Option (List ℕ) → Verdict → Type 0
Got budget bytes reported reported' (Legal s) = (w : IsLegalText budget bytes s) × Appends reported reported' (json_text w.layout w.events)
Got budget bytes reported reported' (Illegal place why) =
    (w : IsIllegalText budget bytes place why) × Appends reported reported' (json_text w.layout w.events)
Got budget bytes reported reported' (BadLine k) = GotPrefix budget bytes reported reported'
Got budget bytes reported reported' TooLong = GotPrefix budget bytes reported reported'
Got budget bytes reported reported' ReadFault = GotPrefix budget bytes reported reported'

abbrev pub IsWritten : ℕ → Option (List ℕ) → Option (List ℕ) → Option (List ℕ) → Verdict → Type 0
IsWritten budget left reported reported' v = IfSome left (λ bytes. Got budget bytes reported reported' v)

-- the sink failed, and got a proper prefix of the text of events at the front of the input
abbrev pub IsCutShort : ℕ → Option (List ℕ) → Option (List ℕ) → Option (List ℕ) → Type 0
IsCutShort budget left reported reported' =
    IfSome left (λ bytes. (w : IsPrefixText budget bytes) × AppendsPrefix reported reported' (json_text w.layout w.events))

-- what a call answers, and what it did to its input and its sink
pub record Answers {E : Type 0} (budget : ℕ) (left left' : Option (List ℕ)) (before now : ℕ) (reported reported' : Option (List ℕ)) (sunk sunk' : ℕ)
    (r : Result Verdict E) : Type 0 where
  pub just : IfOk r (λ v. IsJust budget left left' before now v)
  pub written : IfOk r (λ v. IsWritten budget left reported reported' v)
  pub cut_short : OnErr r (IsCutShort budget left reported reported')
  pub cause : HasCause sunk sunk' r
  pub unfailed : IfOk r (λ v. v ≢ ReadFault → now ≡ before)
  pub later : before ≤ now

module _ {O : Type 0} (held : O → Option (List ℕ)) (faults : O → ℕ) where
  -- the head of a layout and these events were put, by way of what is held
  pub record HasWritten (kept : List ℕ) (out : MutBor O) (l : Layout) (es : List Event) (kept' : List ℕ) (out' : MutBor O) : Type 0 where
    pub same : out'.ghost_name ≡ out.ghost_name
    pub sent : Sends (held out.now) kept (open_text l es) (held out'.now) kept'
    pub later : faults out.now ≤ faults out'.now

  -- the sink failed, and got a proper prefix of what was held and that text
  pub record HasFailed (kept : List ℕ) (out : MutBor O) (l : Layout) (es : List Event) (out' : MutBor O) : Type 0 where
    pub same : out'.ghost_name ≡ out.ghost_name
    pub cut : AppendsPrefix (held out.now) (held out'.now) (kept ++ open_text l es)
    pub later : faults out.now ≤ faults out'.now
    pub failed : Rose (faults out.now) (faults out'.now)
