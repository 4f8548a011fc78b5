-- What tests need of a layout.
use Rattle.std.specs.Prelude.{◌≤◌}
use Rattle.larch_actions.specs.declared.event.Layout.{Layout}

-- there are at least two mutexes, two conditions and five semaphores
abbrev pub HasFew : Layout → Type 0
HasFew l = (2 ≤ l.mutexes) × (2 ≤ l.conditions) × (5 ≤ l.semaphores)
