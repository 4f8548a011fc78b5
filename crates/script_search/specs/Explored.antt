-- What a search answers.
use Rattle.std.specs.Prelude.{◌≡◌, ℕ, List, length, Some, slice_get}
use Rattle.larch_actions.specs.declared.event.Layout.{Layout}
use Rattle.script_text.specs.declared.line.Line.{Line}
use Rattle.script_plays.specs.Scenes.{number_of}
use Rattle.script_plays.specs.Plays as plays
use Rattle.script_plays.specs.Plays.{IsPlayTo, IsStuck}
use Rattle.script_search.specs.declared.explorer.Stuck.{Stuck}
use Rattle.script_search.specs.declared.explorer.Answer.{Answer}
use Rattle.script_search.specs.declared.explorer.Answer.TheVariants as answer
use Rattle.script_search.specs.Boards.{moment_of, scene_of, played_of, IsBoard}

-- the numbers of the first n mutexes in order, where so many lines of each thread are played
pub record AreNumbers (l : Layout) (xs : List Line) (played : ℕ → ℕ) (n : ℕ) (numbers : List ℕ) : Type 0 where
  pub size : length numbers ≡ n
  pub each : (m x : ℕ) → slice_get numbers m ≡ Some x → x ≡ number_of l.threads xs played m

-- the events are a play that gets stuck, at the scene that the board shows, with the numbers there
pub record IsStuckAt (l : Layout) (xs : List Line) (s : Stuck) : Type 0 where
  pub stuck : IsStuck l xs s.events.items
  pub play : IsPlayTo l xs s.events.items (scene_of (moment_of s.board))
  pub board : IsBoard l (moment_of s.board)
  pub numbers : AreNumbers l xs (played_of (moment_of s.board)) l.mutexes s.numbers.items

-- the answer is true of the script
abbrev pub IsAnswer : Layout → List Line → Answer → Type 0
IsAnswer l xs answer.Ends = plays.Ends l xs
IsAnswer l xs (answer.Stuck s) = IsStuckAt l xs s
