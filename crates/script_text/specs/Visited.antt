-- The visits of a whole run: in turn for each mutex, in the order in which the history gives it
-- back, and each thread's as its lines make them.
use Rattle.std.specs.Prelude.{◌≡◌, ℕ, ◌<◌, List}
use Rattle.larch_actions.specs.declared.event.Event.{Event}
use Rattle.larch_actions.specs.declared.event.Layout.{Layout}
use Rattle.larch_actions.specs.Actions.{by_thread}
use Rattle.larch_actions.specs.Takers.{givers}
use Rattle.script_text.specs.declared.line.Line.{Line}
use Rattle.script_text.specs.Runs.{total}
use Rattle.script_text.specs.Visits.{AreThreadVisits, LeadTo, Visit, visitors, visits_at, visits_by}

-- there are visits to the mutexes of this history such that those of each mutex lead from 0 to the
-- sum of all that the lines add to it, each getting what the one before left; the threads that give
-- a mutex back are those of its visits, in this order; and the events and visits of each thread are
-- those of its lines: an `until` waits exactly while its number is too small
pub record AreVisited (l : Layout) (xs : List Line) (h : List Event) : Type 0 where
  pub visits : List Visit
  pub lead : (m : ℕ) → m < l.mutexes → LeadTo 0 (visits_at m visits) (total xs m)
  pub gives : (m : ℕ) → givers m h ≡ visitors m visits
  pub own : (t : ℕ) → t < l.threads → AreThreadVisits l.version xs t (by_thread t h) (visits_by t visits)
