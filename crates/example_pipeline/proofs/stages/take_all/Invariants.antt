use Rattle.std.proofs.Common.{◌≡◌, ℕ, List, [], ◌∷◌, false}
use Rattle.bounded_buffer.specs.Parts.{unused}
use Rattle.bounded_buffer.specs.Using.{HasUsed, items_of}
use Rattle.example_pipeline.proofs.stages.take_all.Given as goal

-- what was taken so far has come, but for what was lost
abbrev pub invariant-loop : goal.invariant-loop
invariant-loop g l = (takes : List (ℕ × ℕ)) × HasUsed l.p l.initial.me.number (unused ∷ record unused { takes = takes } ∷ []) l.me × (l.came.lost ≡ false → l.came.items.items ≡ items_of takes)
