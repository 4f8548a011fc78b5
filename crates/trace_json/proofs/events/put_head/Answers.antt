use Rattle.std.proofs.Common.{ℕ, ◌≤◌, List, length, replicate, arith}
use Rattle.std.proofs.lemmas.List.{length-replicate}
use Rattle.trace_json.proofs.events.put_head.Goals as goal

-- said of any number of bytes, since counting so many takes long
enough : (n : ℕ) → 65000 ≤ n → 65000 ≤ length (let bytes : List ℕ = replicate n 0 in bytes)
enough n h = rw length-replicate h

all : 65000 ≤ 65000
all = omega arith

pub put_head_by-requires-clause-large : goal.put_head_by-requires-clause-large
put_head_by-requires-clause-large g c = enough 65000 all
