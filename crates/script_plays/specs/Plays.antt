-- Plays: the histories that the published table allows for a script, and when a script can get stuck.
use Rattle.std.specs.Prelude.{◌≡◌, ◌⊎◌, ℕ, ◌<◌, ◌≤◌, false, List, [], ◌∷◌, ◌++◌, length}
use Rattle.larch_actions.specs.declared.event.Event.{Event}
use Rattle.larch_actions.specs.declared.event.Layout.{Layout}
use Rattle.larch_actions.specs.declared.event.Version.{Version}
use Rattle.larch_actions.specs.declared.event.Version.TheVariants.{One, Two}
use Rattle.larch_actions.specs.declared.event.Life.TheVariants.{Ended}
use Rattle.larch_actions.specs.Actions.{Acts}
use Rattle.script_text.specs.declared.line.Line.{Line}
use Rattle.script_text.specs.Operations.{is_born, none_forked, forked_after}
use Rattle.script_text.specs.Runs.{lines_of}
use Rattle.script_plays.specs.declared.choice.Turn.{Turn}
use Rattle.script_plays.specs.Choices.{Gives}
use Rattle.script_plays.specs.Scenes.{Scene, first_scene, rest_of, settled, turned}

-- the event leads from the scene to the next: its thread's lines give it, the table allows it, and silent lines are played after it
pub record Goes (l : Layout) (xs : List Line) (s : Scene) (e : Event) (s' : Scene) : Type 0 where
  pub thread : e.thread.0 < l.threads
  pub turn : Turn
  pub gives : Gives l.version (rest_of xs s.played e.thread.0) (record { action = e.action; turn = turn })
  pub acts : Acts s.spec e s'.spec
  pub played : s'.played ≡ settled l.threads xs e.thread.0 (turned turn e.thread.0 s.played)

-- the events lead from the first scene to the second
abbrev pub Plays : Layout → List Line → Scene → List Event → Scene → Type 0
Plays l xs s [] s' = s ≡ s'
Plays l xs s (e ∷ es) s' = (u : Scene) × Goes l xs s e u × Plays l xs u es s'

abbrev pub IsPlayTo : Layout → List Line → List Event → Scene → Type 0
IsPlayTo l xs h s = Plays l xs (first_scene l.version) h s

abbrev pub IsPlay : Layout → List Line → List Event → Type 0
IsPlay l xs h = (s : Scene) × IsPlayTo l xs h s

-- the thread t is past its last line, and in version two has ended, or is one that no line forks
abbrev pub IsFinished : Version → List Line → Scene → ℕ → Type 0
IsFinished One xs s t = length (lines_of t xs) ≤ s.played t
IsFinished Two xs s t = (s.spec.life t ≡ Ended) ⊎ (is_born (forked_after none_forked xs) t ≡ false)

abbrev pub AllFinished : Layout → List Line → Scene → Type 0
AllFinished l xs s = (t : ℕ) → t < l.threads → IsFinished l.version xs s t

-- a play at whose end all threads are finished
abbrev pub IsWhole : Layout → List Line → List Event → Type 0
IsWhole l xs h = (s : Scene) × IsPlayTo l xs h s × AllFinished l xs s

-- some event may come next
abbrev pub CanGoOn : Layout → List Line → List Event → Type 0
CanGoOn l xs h = (e : Event) × IsPlay l xs (h ++ e ∷ [])

-- a play that isn't whole and can't go on
pub record IsStuck (l : Layout) (xs : List Line) (h : List Event) : Type 0 where
  pub play : IsPlay l xs h
  pub unfinished : ¬ IsWhole l xs h
  pub no_more : ¬ CanGoOn l xs h

-- each play is whole or can go on
abbrev pub Ends : Layout → List Line → Type 0
Ends l xs = (h : List Event) → IsPlay l xs h → IsWhole l xs h ⊎ CanGoOn l xs h

-- some event leads on from the scene
abbrev pub GoesOn : Layout → List Line → Scene → Type 0
GoesOn l xs s = (e : Event) × (s' : Scene) × Goes l xs s e s'
