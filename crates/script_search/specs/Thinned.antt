-- Threads that a signal takes out of a condition.
use Rattle.std.specs.Prelude.{◌≡◌, not, ℕ, ◌<◌, Bool, true, false, cond, eqb, List, length, slice_index_or}
use Rattle.larch_actions.specs.State.{shown_at}
use Rattle.script_search.specs.declared.board.Place.{Place}
use Rattle.script_search.specs.declared.board.Place.TheVariants as place
use Rattle.script_search.specs.declared.board.Thread.{Thread}
use Rattle.script_search.specs.Boards.{is_inside}

-- the place of a thread that is taken out of the condition c unless it stays there
abbrev pub thin_place : ℕ → Bool → Place → Place
thin_place c stays (place.Waiting m k inside) = place.Waiting m k (cond inside (cond stays true (not (eqb k c))) false)
thin_place c stays (place.AlertWaiting m k inside) = place.AlertWaiting m k (cond inside (cond stays true (not (eqb k c))) false)
thin_place c stays p = p

abbrev pub thin : ℕ → Bool → Thread → Thread
thin c stays x = record x { place = thin_place c stays x.place }

-- of each thread that isn't left there this was done
pub record IsThinned (c : ℕ) (left : ℕ → Bool) (old new : List Thread) : Type 0 where
  pub size : length new ≡ length old
  pub each : (t : ℕ) (d : Thread) → t < length old → slice_index_or new t d ≡ thin c (left t) (slice_index_or old t d)

-- which of the threads are in the condition
abbrev pub members_in : List Thread → ℕ → ℕ → Bool
members_in threads c = shown_at (λ x. is_inside c x.place) false threads
