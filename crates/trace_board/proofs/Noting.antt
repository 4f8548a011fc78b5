-- Lawful names are small.
use Rattle.std.proofs.Common.{ℕ, ◌<◌, arith}
use Rattle.larch_actions.specs.declared.event.Layout.{Layout}
use Rattle.larch_actions.specs.declared.event.Event.{Event}
use Rattle.larch_actions.specs.declared.event.Action.{Action}
use Rattle.larch_actions.specs.declared.event.Action.TheVariants.{Acquire, Release, Enqueue, Resume, AlertEnqueue, AlertReturn, AlertRaise, Signal, Broadcast, P, V, Alert, TestAlert, AlertPReturn, AlertPRaise, Fork, End, Join}
use Rattle.larch_actions.specs.Layout.{IsLawful, HasNames, IsNamed, most_threads}
use Rattle.larch_actions.proofs.Names.{few_threads}
use Rattle.trace_board.specs.declared.marks.Effects.{Effects}
use Rattle.trace_board.specs.Marks.{marks_of}
use Rattle.trace_board.specs.History.{IsWithin}
use Rattle.trace_board.specs.Causes.{IsSmall}
use Rattle.trace_board.specs.Tracked.{IsNear, IsNoted}

-- the mutex, the semaphore, the wait, the life, the condition, the alert and what it goes on by have small numbers
abbrev AreSmall : Effects → Type 0
AreSmall m = IsWithin m.mutex × IsWithin m.semaphore × IsWithin m.wait × IsWithin m.life × IsSmall m.stand × IsSmall m.avail × IsSmall m.alert × IsNear m.waker

module _ (l : Layout) (w : IsLawful l) (t : ℕ) (h : t < l.threads) where
  below : (k : ℕ) → k < l.threads → k < most_threads
  below k b = omega (arith, b, w.threads, few_threads l.version)

  thread : t < most_threads
  thread = below t h

  small : (a : Action) → IsNamed l a → AreSmall (marks_of t a)
  small (Acquire m) n = (omega (arith, n, w.mutexes), tt, tt, tt, tt, tt, tt, tt)
  small (Release m) n = (omega (arith, n, w.mutexes), tt, tt, tt, tt, tt, tt, tt)
  small (Enqueue m c) n = (omega (arith, n.0, w.mutexes), tt, thread, tt, thread, tt, tt, tt)
  small (Resume m c) n = (omega (arith, n.0, w.mutexes), tt, thread, tt, thread, tt, tt, thread)
  small (AlertEnqueue m c) n = (omega (arith, n.0, w.mutexes), tt, thread, tt, thread, tt, tt, tt)
  small (AlertReturn m c) n = (omega (arith, n.0, w.mutexes), tt, thread, tt, thread, tt, tt, thread)
  small (AlertRaise m c) n = (omega (arith, n.0, w.mutexes), tt, thread, tt, thread, tt, thread, thread)
  small (Signal c left) n = (tt, tt, tt, tt, tt, tt, tt, tt)
  small (Broadcast c) n = (tt, tt, tt, tt, tt, tt, tt, tt)
  small (P s) n = (tt, omega (arith, n, w.semaphores), tt, tt, tt, omega (arith, n, w.semaphores), tt, omega (arith, n, w.semaphores))
  small (V s) n = (tt, omega (arith, n, w.semaphores), tt, tt, tt, omega (arith, n, w.semaphores), tt, tt)
  small (Alert who) n = (tt, tt, tt, tt, tt, tt, below who.0 n, tt)
  small (TestAlert b) n = (tt, tt, tt, tt, tt, tt, thread, thread)
  small (AlertPReturn s) n = (tt, omega (arith, n, w.semaphores), tt, tt, tt, omega (arith, n, w.semaphores), tt, omega (arith, n, w.semaphores))
  small (AlertPRaise s) n = (tt, tt, tt, tt, tt, tt, thread, thread)
  small (Fork who) n = (tt, tt, tt, below who.0 n.1, tt, tt, tt, tt)
  small End n = (tt, tt, tt, thread, tt, tt, tt, tt)
  small (Join who) n = (tt, tt, tt, tt, tt, tt, tt, below who.0 n.1)

pub noted : (l : Layout) (e : Event) → IsLawful l → HasNames l e → IsNoted e
noted l e w n =
    let k = small l w e.thread.0 n.0 e.action n.1 in
    record { thread = thread l w e.thread.0 n.0; held = k.0; taken = k.1; waits = k.2; life = k.3; stands = k.4; opens = k.5; alerts = k.6; waker = k.7 }
