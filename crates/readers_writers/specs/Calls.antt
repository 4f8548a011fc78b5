-- The events of a call.
use Rattle.std.specs.Prelude.{◌≡◌, ◌≢◌, ◌⊎◌, ℕ, List, [], ◌∷◌, Some, None}
use Rattle.nub_rule.specs.Known.{Known}
use Rattle.nub_rule.specs.Plays.{acquire_event, release_event, event, broadcast_action}
use Rattle.nub.specs.Rest.{Adds}
use Rattle.monitor.specs.Waits.{AreRefused, waits}
use Rattle.readers_writers.specs.declared.role.RoleChange.{RoleChange}
use Rattle.readers_writers.specs.declared.state.RwState.{RwState}
use Rattle.readers_writers.specs.Roles.{turn_from_reading}

abbrev pub RwThread : Type 0
RwThread = Known RwState (List RoleChange) (Prim.Unit {0})

-- the thread t took m, waited in c each time that it found a state that keeps it out, and gave m back
abbrev pub Enters : (RwState → Type 0) → ℕ → ℕ → ℕ → RwThread → RwThread → Type 0
Enters keeps_out t m c a b = (k : ℕ) × Adds (acquire_event t m ∷ waits t m c k) (release_event t m) a b × AreRefused keeps_out k

-- a reader is kept out by a writer alone, and a writer by a writer or by readers
abbrev pub KeepsReaderOut : RwState → Type 0
KeepsReaderOut q = q.writer ≢ None

abbrev pub KeepsWriterOut : RwState → Type 0
KeepsWriterOut q = (q.writer ≢ None) ⊎ (q.readers ≢ 0)

-- the thread t acquired m, woke all threads that wait in c, and released m
abbrev pub LeavesAndWakes : ℕ → ℕ → ℕ → RwThread → RwThread → Type 0
LeavesAndWakes t m c a b = Adds (acquire_event t m ∷ event t (broadcast_action c []) ∷ []) (release_event t m) a b

-- the thread t, whose share was s, ended to read and noted how many readers that left. Where none is left it took m, woke all that wait in c, and
-- gave m back; else it woke nobody
abbrev pub LeavesReaders : ℕ → ℕ → ℕ → List RoleChange → RwThread → RwThread → Type 0
LeavesReaders t m c s a b = (n : ℕ) × (b.share ≡ Some (turn_from_reading m n ∷ s)) × (n ≡ 0 → LeavesAndWakes t m c a b)
    × (n ≢ 0 → Adds (acquire_event t m ∷ []) (release_event t m) a b)
