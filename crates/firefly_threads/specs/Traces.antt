-- A closed package whose whole history is known.
use Rattle.std.specs.Prelude.{◌≡◌, List, Some}
use Rattle.larch_actions.specs.Layout.{IsLawful}
use Rattle.larch_actions.specs.declared.event.Event.{Event}
use Rattle.larch_actions.specs.declared.event.Layout.{Layout}
use Rattle.nub.specs.Ended.{Ended, IsWhole}

-- the package was traced, and this is its whole history: legal and closed, each thread's own events its part
pub record IsTraced {T H W : Type 0} (c : Ended T H W) : Type 0 where
  pub lawful : IsLawful c.layout
  pub history : List Event
  pub is : c.trace ≡ Some history
  pub whole : IsWhole c.layout c.threads history
