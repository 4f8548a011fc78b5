-- What a holder knows follows from what is kept, and each allowed change keeps it.
use Rattle.std.specs.Prelude.{◌≡◌, ℕ, List, slice_set}
use Rattle.std.proofs.Common.{arith}
use Rattle.firefly_threads.specs.Names.{get_elem?, some}
use Rattle.firefly_threads.specs.Laws.{own_part, part_set}
use Rattle.example_race.specs.declared.uses.Part.{Part}
use Rattle.example_race.specs.declared.uses.Track.{Track}
use Rattle.example_race.specs.Races.{IsKept, IsKnown, Moves}

pub known : (x : Track) (shares : List Part) (t : ℕ) (s : Part) → get_elem? shares t ≡ some s → IsKept x shares → IsKnown x s
known x shares t s there was = grind (arith, own_part (λ (r : Part). r.runs) shares t s there)

pub kept : (x y : Track) (shares : List Part) (t : ℕ) (s r : Part) → get_elem? shares t ≡ some s → Moves x y s r → IsKept x shares
    → IsKept y (slice_set shares t r)
kept x y shares t s r there moves was =
    let runs = part_set (λ (u : Part). u.runs) shares t s r there in
    let came = part_set (λ (u : Part). u.arrived) shares t s r there in
    let seen = part_set (λ (u : Part). u.seen) shares t s r there in
    grind arith
