-- How an alertable call ends, and the event by which it does.
use Rattle.std.specs.Prelude.{ℕ}
use Rattle.larch_actions.specs.declared.event.Event.{Event}
use Rattle.larch_actions.specs.declared.event.Action.TheVariants.{AlertReturn, AlertRaise, AlertPReturn, AlertPRaise}
use Rattle.nub_rule.specs.Plays.{event}
use Rattle.alert_wait.specs.declared.outcome.Outcome.{Outcome}
use Rattle.alert_wait.specs.declared.outcome.Outcome.TheVariants.{Returned, Alerted}

-- the second part of an alertable wait of the thread t on the mutex m in the condition c
abbrev pub wait_end : Outcome → ℕ → ℕ → ℕ → Event
wait_end Returned t m c = event t (AlertReturn record { 0 = m } record { 0 = c })
wait_end Alerted t m c = event t (AlertRaise record { 0 = m } record { 0 = c })

-- an alertable P of the thread t on the semaphore s
abbrev pub p_end : Outcome → ℕ → ℕ → Event
p_end Returned t s = event t (AlertPReturn record { 0 = s })
p_end Alerted t s = event t (AlertPRaise record { 0 = s })
