use Rattle.std.proofs.Common.{ℕ, ◌≤◌, List, length, replicate, arith}
use Rattle.std.proofs.lemmas.List.{length-replicate}
use Rattle.trace_explain.proofs.explain_verdict.explain_verdict.Goals as goal

-- said of any number of bytes, since counting so many takes long
enough : (n : ℕ) → 16384 ≤ n → 16384 ≤ length (let bytes : List ℕ = replicate n 0 in bytes)
enough n h = rw length-replicate h

large : 16384 ≤ 16384
large = omega arith

pub explain_with-requires-clause-large : goal.explain_with-requires-clause-large
explain_with-requires-clause-large g c = enough 16384 large
