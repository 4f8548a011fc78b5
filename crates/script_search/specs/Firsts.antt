-- The first scene as plain lists.
use Rattle.std.specs.Prelude.{◌≡◌, ℕ, false, cond, eqb, List, length, Some, slice_get}
use Rattle.larch_actions.specs.declared.event.Layout.{Layout}
use Rattle.larch_actions.specs.declared.event.Version.{Version}
use Rattle.larch_actions.specs.declared.event.Version.TheVariants.{One, Two}
use Rattle.script_plays.specs.Scenes.{first_scene}
use Rattle.script_search.specs.declared.board.Place.{Place}
use Rattle.script_search.specs.declared.board.Place.TheVariants as place
use Rattle.script_search.specs.declared.board.Thread.{Thread}
use Rattle.script_search.specs.Boards.{Moment, scene_of, IsBoard}

-- where the thread t stands at first
abbrev pub first_place : Version → ℕ → Place
first_place One t = place.Running
first_place Two t = cond (eqb t 0) place.Running place.Unborn

abbrev pub first_thread : Version → ℕ → Thread
first_thread v t = record { played = 0; place = first_place v t; alerted = false }

-- these are the first n threads of the first scene
pub record AreFirst (v : Version) (n : ℕ) (threads : List Thread) : Type 0 where
  pub size : length threads ≡ n
  pub each : (k : ℕ) (x : Thread) → slice_get threads k ≡ Some x → x ≡ first_thread v k

-- the moment shows the first scene of the layout
pub record IsFirst (l : Layout) (m : Moment) : Type 0 where
  pub board : IsBoard l m
  pub scene : scene_of m ≡ first_scene l.version
