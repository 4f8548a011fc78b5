-- How far a search has come, and where it stops.
use Rattle.std.specs.Prelude.{◌≡◌, ◌≤◌, ℕ, List, length}
use Rattle.larch_actions.specs.declared.event.Layout.{Layout}
use Rattle.script_text.specs.declared.line.Line.{Line}
use Rattle.script_plays.specs.Plays.{GoesOn, AllFinished}
use Rattle.script_search.specs.declared.found.Found.{Found}
use Rattle.script_search.specs.Boards.{Moment, scene_of}
use Rattle.script_search.specs.Founds.{moments_of}
use Rattle.script_search.specs.Seen.{IsClosed, IsAlive}
use Rattle.script_search.specs.Tries.{IsSound, IsAt}

-- the first n boards are looked at: the scenes to which they lead are there, as many as need be, and each is whole or goes on
pub record Searched (l : Layout) (xs : List Line) (limit : ℕ) (f : Found) (n : ℕ) : Type 0 where
  pub sound : IsSound l xs f
  pub limit_is : f.limit ≡ limit
  pub low : n ≤ length (moments_of f)
  pub closed : IsClosed l xs (moments_of f) n
  pub alive : IsAlive l xs (moments_of f) n

-- at the scene of the board at this place not all threads are finished, and no event leads on
pub record IsDead (l : Layout) (xs : List Line) (f : Found) (place : ℕ) : Type 0 where
  pub sound : IsSound l xs f
  pub moment : Moment
  pub at : IsAt f place moment
  pub unfinished : AllFinished l xs (scene_of moment) → ⊥
  pub no_more : GoesOn l xs (scene_of moment) → ⊥
