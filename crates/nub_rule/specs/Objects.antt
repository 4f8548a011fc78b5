-- The numbers of objects.
use Rattle.std.specs.Prelude.{ℕ, ◌<◌}
use Rattle.larch_actions.specs.declared.event.Layout.{Layout}
use Rattle.nub_rule.specs.declared.object.Object.{Object}
use Rattle.nub_rule.specs.declared.object.Object.TheVariants.{Mutex, Sem, Cond}
use Rattle.nub_rule.specs.Places.{sem_object, cond_object}

-- mutexes come first, then semaphores, then conditions
abbrev pub object_of : Object → ℕ
object_of (Mutex m) = m.0
object_of (Sem s) = sem_object s.0
object_of (Cond c) = cond_object c.0

-- the object has a bit with its queue
abbrev pub IsGate : Object → Type 0
IsGate (Mutex m) = Unit {0}
IsGate (Sem s) = Unit {0}
IsGate (Cond c) = ⊥

abbrev pub IsCond : Object → Type 0
IsCond (Cond c) = Unit {0}
IsCond _ = ⊥

-- the layout has the object
abbrev pub HasObject : Layout → Object → Type 0
HasObject l (Mutex m) = m.0 < l.mutexes
HasObject l (Sem s) = s.0 < l.semaphores
HasObject l (Cond c) = c.0 < l.conditions
