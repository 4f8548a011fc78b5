use Rattle.std.proofs.Common.{ℕ, List}
use Rattle.bounded_buffer.specs.Parts.{Used}
use Rattle.bounded_buffer.specs.Using.{HasUsed}
use Rattle.bounded_buffer.proofs.anyway.take_anyway.Given as goal

-- what the thread has done is what it had done before
abbrev pub invariant-loop : goal.invariant-loop
invariant-loop g l = ((n : ℕ) (us : List (Used g.row.T.Denot)) → HasUsed l.p n us l.fn.me → HasUsed l.p n us l.me)
