use Rattle.std.proofs.Common.{ℕ, ◌≤◌, List, length, replicate, arith}
use Rattle.std.proofs.lemmas.List.{length-replicate}
use Rattle.trace_picture.proofs.verdicts.add_state.Goals as goal

-- said of any number of bytes, since counting so many takes long
enough : (n : ℕ) → 14500 ≤ n → 14500 ≤ length (let bytes : List ℕ = replicate n 0 in bytes)
enough n h = rw length-replicate h

large : 14500 ≤ 14500
large = omega arith

pub add_facts_by-requires-clause-large : goal.add_facts_by-requires-clause-large
add_facts_by-requires-clause-large c = enough 14500 large
