-- Laws of plays.
use Rattle.std.specs.Prelude.{◌≡◌, ◌+◌, ◌*◌, ◌≤◌, List, ◌++◌, length}
use Rattle.std.specs.List.{AllByRecursion}
use Rattle.larch_actions.specs.declared.event.Event.{Event}
use Rattle.larch_actions.specs.declared.event.Layout.{Layout}
use Rattle.larch_actions.specs.Actions.{IsClosed, IsRun}
use Rattle.larch_actions.specs.Layout.{HasNames}
use Rattle.script_text.specs.declared.line.Line.{Line}
use Rattle.script_text.specs.Text.{IsScript}
use Rattle.script_text.specs.Visited.{AreVisited}
use Rattle.script_plays.specs.Scenes.{Scene}
use Rattle.script_plays.specs.Plays.{IsPlayTo, IsPlay, IsWhole, IsStuck, Ends}

-- a play is a legal list of events that leads to the state of its scene
abbrev pub PlaysAreLegal : Type 0
PlaysAreLegal = (l : Layout) (xs : List Line) (h : List Event) (s : Scene) → IsPlayTo l xs h s → IsRun l.version h s.spec

-- a play leads to one scene
abbrev pub PlaysHaveOneScene : Type 0
PlaysHaveOneScene = (l : Layout) (xs : List Line) (h : List Event) (s u : Scene) → IsPlayTo l xs h s → IsPlayTo l xs h u → s ≡ u

-- no play of a script that ends gets stuck
abbrev pub EndsExcludesStuck : Type 0
EndsExcludesStuck = (l : Layout) (xs : List Line) (h : List Event) → Ends l xs → IsStuck l xs h → ⊥

-- a play has at most so many events, whatever the threads wait for
abbrev pub PlaysAreBounded : Type 0
PlaysAreBounded =
    (l : Layout) (xs : List Line) (h : List Event) → IsPlay l xs h → length h ≤ (2 * l.threads + 1) * (length xs + l.threads) + l.threads

-- each play of a script that ends is the beginning of a whole one
abbrev pub PlaysCanBeFinished : Type 0
PlaysCanBeFinished = (l : Layout) (xs : List Line) (h : List Event) → Ends l xs → IsPlay l xs h → (g : List Event) × IsWhole l xs (h ++ g)

-- A legal and closed history is a whole play if the numbers along it are those of the lines. So what is known of all plays of a
-- script is known of each of its runs.
abbrev pub RunsAreWhole : Type 0
RunsAreWhole = (l : Layout) (xs : List Line) (h : List Event) → IsScript l xs → IsClosed l.version h → AllByRecursion (HasNames l) h → AreVisited l xs h → IsWhole l xs h

-- the beginning of a play is a play: where a script ends, no run of it is stuck at any time
abbrev pub BeginningsArePlays : Type 0
BeginningsArePlays = (l : Layout) (xs : List Line) (h g : List Event) → IsPlay l xs (h ++ g) → IsPlay l xs h
