-- Where a buffer is.
use Rattle.std.specs.Prelude.{◌<◌}
use Rattle.larch_actions.specs.declared.event.Layout.{Layout}
use Rattle.bounded_buffer.specs.declared.at.BufferAt.{BufferAt}

-- the buffer's mutex and conditions are in the layout
pub record IsNamed (l : Layout) (at : BufferAt) : Type 0 where
  pub mutex : at.mutex.0 < l.mutexes
  pub room : at.room.0 < l.conditions
  pub more : at.more.0 < l.conditions
