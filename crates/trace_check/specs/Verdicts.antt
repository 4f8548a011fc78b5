-- When each verdict is just.
use Rattle.std.specs.Prelude.{◌≡◌, ◌≢◌, ℕ, ◌-◌, ◌^◌, ◌<◌, ◌≤◌, List, [], ◌∷◌, ◌++◌, length, take, IfSome, Some}
use Rattle.std.specs.List.{AllByRecursion}
use Rattle.std.specs.Io.KnownBytes.{Consumes}
use Rattle.std.specs.declared.option.Option.{Option}
use Rattle.firefly_outside.specs.Causes.{Rose}
use Rattle.larch_actions.specs.declared.event.Layout.{Layout}
use Rattle.larch_actions.specs.declared.event.Event.{Event}
use Rattle.larch_actions.specs.declared.event.Broken.{Broken}
use Rattle.larch_actions.specs.Layout.{IsLawful, HasNames}
use Rattle.larch_actions.specs.Actions.{Spec, IsRun, IsLegal, FirstFault}
use Rattle.larch_actions.specs.State as state
use Rattle.exact_text.specs.declared.fault.TextFault.{TextFault}
use Rattle.exact_text.specs.declared.fault.TextFault.TheVariants as fault
use Rattle.exact_text.specs.Prefixes.{Begins}
use Rattle.exact_text.specs.Exact.{IsShown}
use Rattle.trace_core.specs.Text.{MutexValue, head_text, ReadsAs, IsTrace}
use Rattle.trace_core.specs.Whole.{event_lines}
use Rattle.trace_check.specs.declared.checker.Summary.{Summary}
use Rattle.trace_check.specs.declared.checker.Verdict.{Verdict}
use Rattle.trace_check.specs.declared.checker.Verdict.TheVariants.{Legal, Illegal, BadLine, TooLong, ReadFault}

-- the verdict on a text that can't be read; a reader of traces takes no memory
abbrev pub refusal : TextFault → Verdict
refusal (fault.BadLine k) = BadLine k
refusal fault.TooLong = TooLong
refusal fault.Read = ReadFault
refusal fault.Memory = ReadFault

-- the head of a text, and the lines of its first events
abbrev pub prefix_text : Layout → List Event → List ℕ
prefix_text l es = head_text l ++ event_lines 0 es

-- whole lines of events at the front of the bytes are those of a legal list
abbrev pub NoFault : List ℕ → Type 0
NoFault bytes =
    (l : Layout) (es : List Event) (more : List ℕ) → IsLawful l → AllByRecursion (HasNames l) es → bytes ≡ prefix_text l es ++ more
    → IsLegal l.version es

-- The input begins with the head and the lines of these events, which are a run, within the budget.
pub record IsPrefixText (budget : ℕ) (bytes : List ℕ) : Type 0 where
  pub layout : Layout
  pub events : List Event
  pub rest : List ℕ
  pub last : Spec
  pub lawful : IsLawful layout
  pub named : AllByRecursion (HasNames layout) events
  pub text : bytes ≡ prefix_text layout events ++ rest
  pub within : length (prefix_text layout events) ≤ budget
  pub run : IsRun layout.version events last

-- the counts of the events and of the state that they lead to
pub record Counts (l : Layout) (es : List Event) (last : Spec) (s : Summary) : Type 0 where
  pub events : s.events ≡ length es
  pub held : s.held ≡ state.held l last
  pub waiting : s.waiting ≡ state.waiting l last
  pub alerted : s.alerted ≡ state.alerted l last

-- The whole input is a trace text within the budget, and its events are a run to a state with these counts.
pub record IsLegalText (budget : ℕ) (bytes : List ℕ) (s : Summary) : Type 0 where
  pub layout : Layout
  pub events : List Event
  pub values : List MutexValue
  pub last : Spec
  pub text : ReadsAs bytes layout events values
  pub within : length bytes ≤ budget
  pub run : IsRun layout.version events last
  pub counts : Counts layout events last s

-- The input begins with the head and the lines of some events, within the budget. The last of them is the first that fails.
pub record IsIllegalText (budget : ℕ) (bytes : List ℕ) (place : ℕ) (why : Broken) : Type 0 where
  pub layout : Layout
  pub events : List Event
  pub event : Event
  pub rest : List ℕ
  pub lawful : IsLawful layout
  pub named : AllByRecursion (HasNames layout) (events ++ event ∷ [])
  pub text : bytes ≡ prefix_text layout (events ++ event ∷ []) ++ rest
  pub within : length (prefix_text layout (events ++ event ∷ [])) ≤ budget
  pub fault : FirstFault layout.version (events ++ event ∷ []) events event why
  pub counted : place ≡ length events

-- what was given until reading failed is the prefix of a trace text, and shows no event that fails
abbrev pub IsCutOff : ℕ → List ℕ → Option (List ℕ) → Type 0
IsCutOff budget bytes left' =
    (given : List ℕ) × Consumes (Some bytes) left' given × Begins IsTrace given × (length given ≤ budget) × NoFault given

-- the verdict is just, for an input of these bytes
abbrev pub IsJust : ℕ → Option (List ℕ) → Option (List ℕ) → ℕ → ℕ → Verdict → Type 0
IsJust budget left left' before now (Legal s) = IfSome left (λ bytes. IsLegalText budget bytes s)
IsJust budget left left' before now (Illegal place why) = IfSome left (λ bytes. IsIllegalText budget bytes place why)
IsJust budget left left' before now (BadLine k) = IfSome left (λ bytes. IsShown IsTrace budget bytes k × NoFault (take budget bytes))
IsJust budget left left' before now TooLong =
    IfSome left (λ bytes. (budget < length bytes) × Begins IsTrace (take budget bytes) × NoFault (take budget bytes))
IsJust budget left left' before now ReadFault = Rose before now × IfSome left (λ bytes. IsCutOff budget bytes left')

-- For an input of these bytes, at most one verdict other than a failed read is just.
abbrev pub OneVerdict : Type 0
OneVerdict =
    (budget : ℕ) (bytes : List ℕ) (left left' : Option (List ℕ)) (before now before' now' : ℕ) (v w : Verdict) → budget < 2 ^ 64 - 1
    → v ≢ ReadFault → w ≢ ReadFault
    → IsJust budget (Some bytes) left before now v → IsJust budget (Some bytes) left' before' now' w → v ≡ w
