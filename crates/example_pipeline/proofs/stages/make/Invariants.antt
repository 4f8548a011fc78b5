use Rattle.std.proofs.Common.{◌≡◌, ℕ, List, [], ◌∷◌}
use Rattle.bounded_buffer.specs.Parts.{unused}
use Rattle.bounded_buffer.specs.Using.{HasUsed, items_of}
use Rattle.example_pipeline.specs.Stages.{numbers}
use Rattle.example_pipeline.proofs.stages.make.Given as goal

-- the numbers so far are in the first buffer
abbrev pub invariant-loop-i : goal.invariant-loop-i
invariant-loop-i g l = (puts : List (ℕ × ℕ)) × HasUsed l.p l.initial.me.number (record unused { puts = puts } ∷ unused ∷ []) l.me × (items_of puts ≡ numbers l.i)
