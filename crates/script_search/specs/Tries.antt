-- What a search has done at one scene.
use Rattle.std.specs.Prelude.{◌≡◌, ◌≢◌, ℕ, ◌+◌, ◌<◌, Bool, true, MatchBool, List, length, Option, Some, slice_get}
use Rattle.larch_actions.specs.declared.event.Event.{Event}
use Rattle.larch_actions.specs.declared.event.Layout.{Layout}
use Rattle.script_text.specs.declared.line.Line.{Line}
use Rattle.larch_actions.specs.declared.event.CondId.{CondId}
use Rattle.larch_actions.specs.declared.event.Action.TheVariants as action
use Rattle.larch_actions.specs.declared.thread_set.ThreadSet.{ThreadSet}
use Rattle.larch_actions.specs.Sets.{in_set}
use Rattle.larch_actions.specs.Layout.{HasNames}
use Rattle.script_text.specs.Runs.{event}
use Rattle.script_plays.specs.declared.choice.Choice.{Choice}
use Rattle.script_plays.specs.Choices.{Gives, next}
use Rattle.script_plays.specs.Scenes.{Scene, rest_of}
use Rattle.script_plays.specs.Plays.{Goes, GoesOn, IsPlayTo}
use Rattle.script_search.specs.declared.found.Found.{Found}
use Rattle.script_search.specs.Boards.{Moment, spec_of, scene_of, played_of}
use Rattle.script_search.specs.Founds.{moments_of, IsKeyed}
use Rattle.script_search.specs.Seen.{HasEnd, IsSeen}

-- the boards are kept as their bytes in the layout, and each is found from an earlier one
pub record IsSound (l : Layout) (xs : List Line) (f : Found) : Type 0 where
  pub keyed : IsKeyed f
  pub layout : f.layout ≡ l
  pub seen : IsSeen l xs (moments_of f) f.parents.items

-- the moment stands at the place
abbrev pub IsAt : Found → ℕ → Moment → Type 0
IsAt f k m = slice_get (moments_of f) k ≡ Some m

-- all that was found is still there
pub record Grows (l : Layout) (xs : List Line) (old new : Found) : Type 0 where
  pub sound : IsSound l xs new
  pub kept : (k : ℕ) (m : Moment) → IsAt old k m → IsAt new k m
  pub limit : new.limit ≡ old.limit

-- where one of these events leads on from the moment, the end of the chain after it is there now, and the answer says whether one does
pub record Tries (l : Layout) (xs : List Line) (old new : Found) (m : Moment) (here : Event → Type 0) (answer : Bool) : Type 0 where
  pub grows : Grows l xs old new
  pub covers : (e : Event) (s : Scene) → here e → Goes l xs (scene_of m) e s → HasEnd l xs (moments_of new) s
  pub goes : MatchBool answer (GoesOn l xs (scene_of m)) ((e : Event) (s : Scene) → here e → Goes l xs (scene_of m) e s → ⊥)

-- more scenes than are allowed, all different, are reached by plays
pub record Exceeds (l : Layout) (xs : List Line) (limit : ℕ) : Type 0 where
  pub scenes : List Scene
  pub count : length scenes ≡ limit + 1
  pub reached : (k : ℕ) (s : Scene) → slice_get scenes k ≡ Some s → (h : List Event) × IsPlayTo l xs h s
  pub distinct : (i k : ℕ) (s u : Scene) → slice_get scenes i ≡ Some s → slice_get scenes k ≡ Some u → i < k → s ≢ u

-- the thread's lines give the choice, and its names are lawful
pub record MayTry (l : Layout) (xs : List Line) (m : Moment) (t : ℕ) (c : Choice) : Type 0 where
  pub named : HasNames l (event t c.action)
  pub gives : Gives l.version (rest_of xs (played_of m) t) c

abbrev pub MayTryAll : Layout → List Line → Moment → ℕ → List (Option Choice) → Type 0
MayTryAll l xs m t cs = (k : ℕ) (c : Choice) → slice_get cs k ≡ Some (Some c) → MayTry l xs m t c

-- the event is that of the choice, if there is one, or of one of these choices
abbrev pub IsTried : ℕ → Option Choice → Event → Type 0
IsTried t o e = (c : Choice) × (o ≡ Some c) × (e ≡ event t c.action)

abbrev pub AreTried : ℕ → List (Option Choice) → Event → Type 0
AreTried t cs e = (k : ℕ) × (c : Choice) × (slice_get cs k ≡ Some (Some c)) × (e ≡ event t c.action)

-- a signal whose set agrees with this one below the thread n, and has no other threads than some of those in the condition
pub record Leaves (m : Moment) (threads t : ℕ) (c : CondId) (left : ThreadSet) (n : ℕ) (e : Event) : Type 0 where
  pub set : ThreadSet
  pub event_is : e ≡ event t (action.Signal c set)
  pub agrees : (u : ℕ) → u < n → in_set set u ≡ in_set left u
  pub within : (u : ℕ) → in_set set u ≡ true → (u < threads) × ((spec_of m).members c.0 u ≡ true)

-- the thread's lines give a signal of the condition
abbrev pub MaySignal : Layout → List Line → Moment → ℕ → CondId → Type 0
MaySignal l xs m t c = (x : ThreadSet) → ((u : ℕ) → in_set x u ≡ true → u < l.threads) → MayTry l xs m t (next (action.Signal c x))
