-- The tables of who holds what, and of who was forked.
use Rattle.std.specs.Prelude.{◌≡◌, ℕ, ◌+◌, ◌*◌, ◌<◌, Bool, false, List, slice_index_or, length}
use Rattle.larch_actions.specs.declared.event.Layout.{Layout}
use Rattle.script_text.specs.declared.table.Use.{Use}
use Rattle.script_text.specs.declared.table.Use.TheVariants.{Takes, Gives, Needs, Nothing}
use Rattle.script_text.specs.declared.table.Fate.{Fate}
use Rattle.script_text.specs.declared.table.Fate.TheVariants as fate
use Rattle.script_text.specs.Operations.{Holding, Forked}

-- the entry 64 t + m says whether the thread t holds the mutex m
pub record Shows (table : List Bool) (h : Holding) : Type 0 where
  pub size : length table ≡ 16384
  pub entry : (t m : ℕ) → t < 256 → m < 64 → slice_index_or table (64 * t + m) false ≡ h t m

-- the entry t says whether the thread t was forked
pub record Marks (table : List Bool) (f : Forked) : Type 0 where
  pub size : length table ≡ 256
  pub entry : (t : ℕ) → t < 256 → slice_index_or table t false ≡ f t

-- the mutex is within the layout
abbrev pub UseWithin : Layout → Use → Type 0
UseWithin l (Takes m) = m.0 < l.mutexes
UseWithin l (Gives m) = m.0 < l.mutexes
UseWithin l (Needs m) = m.0 < l.mutexes
UseWithin l Nothing = Unit {0}

-- the thread has an entry
abbrev pub FateWithin : Fate → Type 0
FateWithin (fate.Begins u) = u.0 < 256
FateWithin (fate.Awaits u) = u.0 < 256
FateWithin fate.Nothing = Unit {0}
