-- The two laws of the use: what a holder knows follows from the invariant, and an allowed change keeps it.
use Rattle.std.specs.Prelude.{◌≡◌, ℕ, List, slice_set}
use Rattle.std.proofs.Common.{arith}
use Rattle.firefly_threads.specs.Names.{get_elem?, some}
use Rattle.firefly_threads.specs.Laws.{own_part, part_set}
use Rattle.example_countdown.specs.Counts.{IsLeft, IsPart, Moves}

pub known : (left : ℕ) (shares : List ℕ) (t s : ℕ) → get_elem? shares t ≡ some s → IsLeft left shares → IsPart left s
known left shares t s there was = grind (arith, own_part (λ (u : ℕ). u) shares t s there)

pub kept : (left now : ℕ) (shares : List ℕ) (t s r : ℕ) → get_elem? shares t ≡ some s → Moves left now s r → IsLeft left shares
    → IsLeft now (slice_set shares t r)
kept left now shares t s r there moves was = grind (arith, part_set (λ (u : ℕ). u) shares t s r there)
