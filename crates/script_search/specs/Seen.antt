-- What a search has found, and when it has found all.
use Rattle.std.specs.Prelude.{◌≡◌, ◌≢◌, ◌⊎◌, ℕ, ◌<◌, List, length, Some, slice_get}
use Rattle.larch_actions.specs.declared.event.Event.{Event}
use Rattle.larch_actions.specs.declared.event.Layout.{Layout}
use Rattle.script_text.specs.declared.line.Line.{Line}
use Rattle.script_plays.specs.Scenes.{Scene, first_scene}
use Rattle.script_plays.specs.Plays.{Goes, GoesOn, AllFinished}
use Rattle.script_search.specs.Boards.{Moment, scene_of, IsBoard}
use Rattle.script_search.specs.Chains.{IsChain}

-- one of the moments shows the scene
abbrev pub HasScene : List Moment → Scene → Type 0
HasScene ms s = (k : ℕ) × (m : Moment) × (slice_get ms k ≡ Some m) × (scene_of m ≡ s)

-- one of the moments shows the end of a chain from the scene
abbrev pub HasEnd : Layout → List Line → List Moment → Scene → Type 0
HasEnd l xs ms s = (h : List Event) × (u : Scene) × IsChain l xs s h u × HasScene ms u

-- the moment m, which stands at the place k, was found from an earlier one: by an event, and the chain after it
pub record IsChild (l : Layout) (xs : List Line) (ms : List Moment) (parents : List ℕ) (k : ℕ) (m : Moment) : Type 0 where
  pub place : ℕ
  pub parent : Moment
  pub event : Event
  pub named : slice_get parents k ≡ Some place
  pub before : place < k
  pub there : slice_get ms place ≡ Some parent
  pub between : Scene
  pub rest : List Event
  pub goes : Goes l xs (scene_of parent) event between
  pub chain : IsChain l xs between rest (scene_of m)

-- the moments are found each from an earlier one, but for the first, and show different scenes
pub record IsSeen (l : Layout) (xs : List Line) (ms : List Moment) (parents : List ℕ) : Type 0 where
  pub size : length parents ≡ length ms
  pub first : HasScene ms (first_scene l.version)
  pub root : (m : Moment) → slice_get ms 0 ≡ Some m → scene_of m ≡ first_scene l.version
  pub boards : (k : ℕ) (m : Moment) → slice_get ms k ≡ Some m → IsBoard l m
  pub linked : (k : ℕ) (m : Moment) → slice_get ms k ≡ Some m → 0 < k → IsChild l xs ms parents k m
  pub distinct : (i k : ℕ) (m n : Moment) → slice_get ms i ≡ Some m → slice_get ms k ≡ Some n → i < k → scene_of m ≢ scene_of n

-- the ends of the chains from all scenes to which one of the first n leads are there
abbrev pub IsClosed : Layout → List Line → List Moment → ℕ → Type 0
IsClosed l xs ms n = (k : ℕ) (m : Moment) → k < n → slice_get ms k ≡ Some m → (e : Event) (s : Scene) → Goes l xs (scene_of m) e s → HasEnd l xs ms s

-- in each of the first n all threads are finished, or some event leads on
abbrev pub IsAlive : Layout → List Line → List Moment → ℕ → Type 0
IsAlive l xs ms n = (k : ℕ) (m : Moment) → k < n → slice_get ms k ≡ Some m → AllFinished l xs (scene_of m) ⊎ GoesOn l xs (scene_of m)
