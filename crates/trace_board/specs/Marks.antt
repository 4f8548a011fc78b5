-- The table of actions: which mark each has, and what it does to what is kept of the events before.
use Rattle.std.specs.Prelude.{ℕ, []}
use Rattle.larch_actions.specs.declared.event.Event.{Event}
use Rattle.larch_actions.specs.declared.event.Action.{Action}
use Rattle.larch_actions.specs.declared.event.Action.TheVariants.{Acquire, Release, Enqueue, Resume, AlertEnqueue, AlertReturn, AlertRaise, Signal, Broadcast, P, V, Alert, TestAlert, AlertPReturn, AlertPRaise, Fork, End, Join}
use Rattle.larch_actions.specs.Sets.{set_of}
use Rattle.trace_board.specs.declared.history.Change.TheVariants as effect
use Rattle.trace_board.specs.declared.causes.CauseChange.TheVariants.{Awaits, Ends, Frees, Opens, Comes, Stays}
use Rattle.trace_board.specs.declared.board.Reason.TheVariants.{Condition, Semaphore, Alerted, Ended, Nobody}
use Rattle.trace_board.specs.declared.marks.Mark.{Mark}
use Rattle.trace_board.specs.declared.marks.Mark.TheVariants as mark
use Rattle.trace_board.specs.declared.marks.Effects.{Effects}

-- a mark of the object of this number, and nothing done
abbrev pub plain : Mark → ℕ → Effects
plain k n =
    record {
      mark = k;
      object = n;
      mutex = effect.Stays;
      semaphore = effect.Stays;
      wait = effect.Stays;
      life = effect.Stays;
      stand = Stays;
      avail = Stays;
      alert = Stays;
      waker = Nobody;
    }

-- the first part of a wait, and the second that returns or raises
abbrev pub begun : Mark → ℕ → ℕ → ℕ → Effects
begun k t m c = record (plain k c) { mutex = effect.Ends m; wait = effect.Begins t; stand = Awaits t c }

abbrev pub ended : Mark → ℕ → ℕ → ℕ → Effects
ended k t m c = record (plain k c) { mutex = effect.Begins m; wait = effect.Ends t; stand = Ends t; waker = Condition t }

abbrev pub raised : Mark → ℕ → ℕ → ℕ → Effects
raised k t m c = record (plain k c) { mutex = effect.Begins m; wait = effect.Ends t; stand = Ends t; alert = Ends t; waker = Alerted t }

-- a semaphore is taken, and the own alert
abbrev pub semaphore_taken : Mark → ℕ → Effects
semaphore_taken k s = record (plain k s) { semaphore = effect.Begins s; avail = Awaits s s; waker = Semaphore s }

abbrev pub heard : Mark → ℕ → ℕ → Effects
heard k t n = record (plain k n) { alert = Ends t; waker = Alerted t }

-- what an action of the thread t shows, and of which object; which mutex it takes or gives back, and which semaphore it takes or makes available; whether it begins or ends a wait, and the life of a thread; what it does to those who stand
-- in conditions, to semaphores and to alerts; and what it goes on by
abbrev pub marks_of : ℕ → Action → Effects
marks_of t (Acquire m) = record (plain mark.Acquire m.0) { mutex = effect.Begins m.0 }
marks_of t (Release m) = record (plain mark.Release m.0) { mutex = effect.Ends m.0 }
marks_of t (Enqueue m c) = begun mark.Enqueue t m.0 c.0
marks_of t (Resume m c) = ended mark.Resume t m.0 c.0
marks_of t (AlertEnqueue m c) = begun mark.AlertEnqueue t m.0 c.0
marks_of t (AlertReturn m c) = ended mark.AlertReturn t m.0 c.0
marks_of t (AlertRaise m c) = raised mark.AlertRaise t m.0 c.0
marks_of t (Signal c left) = record (plain mark.Signal c.0) { stand = Frees c.0 left }
marks_of t (Broadcast c) = record (plain mark.Broadcast c.0) { stand = Frees c.0 (set_of []) }
marks_of t (P s) = semaphore_taken mark.P s.0
marks_of t (V s) = record (plain mark.V s.0) { semaphore = effect.Ends s.0; avail = Opens s.0 }
marks_of t (Alert who) = record (plain mark.Alert who.0) { alert = Comes who.0 }
marks_of t (TestAlert answer) = heard mark.TestAlert t t
marks_of t (AlertPReturn s) = semaphore_taken mark.AlertPReturn s.0
marks_of t (AlertPRaise s) = heard mark.AlertPRaise t s.0
marks_of t (Fork who) = record (plain mark.Fork who.0) { life = effect.Begins who.0 }
marks_of t End = record (plain mark.End t) { life = effect.Ends t }
marks_of t (Join who) = record (plain mark.Join who.0) { waker = Ended who.0 }

-- what an event shows and does
abbrev pub marks : Event → Effects
marks e = marks_of e.thread.0 e.action
