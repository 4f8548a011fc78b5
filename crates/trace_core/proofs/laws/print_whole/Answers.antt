use Rattle.std.proofs.Common.{ℕ, ◌≤◌, List, length, replicate, arith}
use Rattle.std.proofs.lemmas.List.{length-replicate}
use Rattle.trace_core.proofs.Wholes.{whole_reads}
use Rattle.trace_core.proofs.laws.print_whole.Goals as goal

-- said of any number of bytes, since counting so many takes long
enough : (n : ℕ) → 2000 ≤ n → 2000 ≤ length (let bytes : List ℕ = replicate n 0 in bytes)
enough n h = rw length-replicate h

large : 2000 ≤ 65536
large = omega arith

pub returns-clause-reads : goal.returns-clause-reads
returns-clause-reads g c = whole_reads c.args.layout.now c.args.events.now c.args.values.now c.requires.lawful c.requires.named c.put_whole.ensures.few c.requires.valued (λ i. omega (arith, c.type_inv.values i))

pub put_whole-requires-clause-large : goal.put_whole-requires-clause-large
put_whole-requires-clause-large g c = enough 65536 large
