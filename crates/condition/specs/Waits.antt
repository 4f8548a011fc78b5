-- The second event of a wait, which acquires the mutex again.
use Rattle.std.specs.Prelude.{ℕ}
use Rattle.larch_actions.specs.declared.event.Event.{Event}
use Rattle.larch_actions.specs.declared.event.Action.TheVariants.{Resume}
use Rattle.nub_rule.specs.Plays.{event}

abbrev pub resume_event : ℕ → ℕ → ℕ → Event
resume_event t m c = event t (Resume record { 0 = m } record { 0 = c })
