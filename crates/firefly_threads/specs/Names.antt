-- What definitions and proofs of a program name, in one place.
pub use Rattle.std.specs.List.{range_with_len}
pub use mathlib.Core.Option.{some}
pub use lib.ListN.{get_elem?}
pub use Rattle.larch_actions.specs.declared.event.Event.{Event}
pub use Rattle.larch_actions.specs.Actions.{by_thread}
pub use Rattle.monitor.specs.Waits.{alert_waits, waits}
pub use Rattle.nub.specs.Ended.{IsDone, IsFirst, IsWhole, KeepsLocks}
pub use Rattle.nub.specs.Guarded.{Guarded, OneValue}
pub use Rattle.nub.specs.Holding.{IsHolding}
pub use Rattle.nub.specs.Idle.{IsIdle}
pub use Rattle.nub.specs.Totals.{total}
pub use Rattle.nub_rule.specs.Ends.{firsts}
pub use Rattle.nub_rule.specs.Items.{Each}
pub use Rattle.nub_rule.specs.Known.{Known, Shape}
pub use Rattle.package_crew.specs.Runs.{HasDone, HasWorked, HaveWorked}
pub use Rattle.package_crew.specs.Times.{HasAll, times}
