-- What is shown of a trace while it is checked.
use Rattle.std.specs.Prelude.{◌≡◌, ℕ, List, length, IfSome, Some, None}
use Rattle.std.specs.List.{AllByRecursion}
use Rattle.std.specs.declared.option.Option.{Option}
use Rattle.larch_actions.specs.declared.event.Layout.{Layout}
use Rattle.larch_actions.specs.declared.event.Event.{Event}
use Rattle.larch_actions.specs.Layout.{IsLawful, HasNames}
use Rattle.larch_actions.specs.Actions.{Spec, Acts, IsRun}
use Rattle.trace_check.specs.declared.checker.Verdict.{Verdict}
use Rattle.trace_check.specs.declared.checker.Verdict.TheVariants.{Legal, Illegal}
use Rattle.exact_text.specs.declared.fault.TextFault.{TextFault}
use Rattle.trace_check.specs.Verdicts.{refusal, IsPrefixText, IsLegalText, IsIllegalText}

-- The events are a run of that layout, and this event may come next, at this place.
pub record IsNext (l : Layout) (es : List Event) (place : ℕ) (e : Event) : Type 0 where
  pub last : Spec
  pub next : Spec
  pub lawful : IsLawful l
  pub names : HasNames l e
  pub run : IsRun l.version es last
  pub acts : Acts last e next
  pub counted : place ≡ length es

-- The input begins with the head and the lines of exactly these events.
abbrev pub Begins : ℕ → List ℕ → Layout → List Event → Type 0
Begins budget bytes l es = (t : IsPrefixText budget bytes) × (t.layout ≡ l) × (t.events ≡ es)

-- They are those of which the verdict speaks: all events of a legal trace, or those before the one that fails.
abbrev pub IsReadTo : ℕ → List ℕ → Layout → List Event → Option Event → Verdict → Type 0
IsReadTo budget bytes l es failed (Legal s) = (t : IsLegalText budget bytes s) × (t.layout ≡ l) × (t.events ≡ es)
IsReadTo budget bytes l es failed (Illegal place why) =
    (t : IsIllegalText budget bytes place why) × (t.layout ≡ l) × (t.events ≡ es) × (failed ≡ Some t.event)
IsReadTo budget bytes l es failed _ = Unit {0}

-- the number of events that the verdict reports
abbrev pub IsCount : Verdict → ℕ → Type 0
IsCount (Legal s) n = s.events ≡ n
IsCount (Illegal place why) n = place ≡ n
IsCount _ n = Unit {0}

-- an event fails exactly where the verdict says so, and its names are those of the layout
abbrev pub IsFailing : Verdict → Layout → Option Event → Type 0
IsFailing (Illegal place why) l failed = (e : Event) × (failed ≡ Some e) × HasNames l e
IsFailing _ l failed = failed ≡ None

module _ {W : Type 0} (keeps : W → Layout → List Event → W → Type 0) (budget : ℕ) (left : Option (List ℕ)) where
  -- The watcher was shown that layout and some events, which are a run, and nothing else. These are what the input begins with.
  pub record HasSeen (w : W) (l : Layout) (failed : Option Event) (v : Verdict) (w' : W) : Type 0 where
    pub events : List Event
    pub last : Spec
    pub lawful : IsLawful l
    pub named : AllByRecursion (HasNames l) events
    pub run : IsRun l.version events last
    pub kept : keeps w l events w'
    pub counted : IsCount v (length events)
    pub fails : IsFailing v l failed
    pub front : IfSome left (λ bytes. Begins budget bytes l events)
    pub read : IfSome left (λ bytes. IsReadTo budget bytes l events failed v)

  -- where the head of the text can't be read, the watcher was shown nothing
  abbrev pub HasWatched : W → Option Layout → Option Event → Verdict → W → Type 0
  HasWatched w None failed v w' = (w' ≡ w) × (failed ≡ None) × ((fault : TextFault) × (v ≡ refusal fault))
  HasWatched w (Some l) failed v w' = HasSeen w l failed v w'

-- The watcher stopped the check when it was shown the last of some events, or the layout, with which the input begins.
pub record HasStopped {W E : Type 0} (stops : W → Layout → List Event → W → E → Type 0) (budget : ℕ) (left : Option (List ℕ)) (w w' : W) (stop : E) : Type 0 where
  pub layout : Layout
  pub events : List Event
  pub stopped : stops w layout events w' stop
  pub front : IfSome left (λ bytes. Begins budget bytes layout events)
