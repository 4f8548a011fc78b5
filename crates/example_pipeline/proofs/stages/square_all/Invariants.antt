use Rattle.std.proofs.Common.{◌≡◌, ℕ, List, [], ◌∷◌, map}
use Rattle.bounded_buffer.specs.Parts.{unused}
use Rattle.bounded_buffer.specs.Using.{HasUsed, items_of}
use Rattle.example_pipeline.specs.Stages.{squared}
use Rattle.example_pipeline.proofs.stages.square_all.Given as goal

-- the squares of what was taken so far are in the second buffer
abbrev pub invariant-loop : goal.invariant-loop
invariant-loop g l = (takes : List (ℕ × ℕ)) × (puts : List (ℕ × ℕ)) × HasUsed l.p l.initial.me.number (record unused { takes = takes } ∷ record unused { puts = puts } ∷ []) l.me
    × (items_of puts ≡ map squared (items_of takes))
