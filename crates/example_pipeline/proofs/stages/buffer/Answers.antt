use Rattle.std.proofs.Common.{arith}
use Rattle.bounded_buffer.proofs.Using.{plain_named}
use Rattle.example_pipeline.proofs.stages.buffer.Goals as goal

pub returns-clause-named : goal.returns-clause-named
returns-clause-named c =
    let l = c.requires.two in
    let mutexes = l.mutexes in
    let conditions = l.conditions in
    let at = c.plain_buffer.ensures in
    (plain_named c.args.p.now.layout c.plain_buffer.result c.args.number at.plain at.mutex (omega arith) (omega arith), at.plain)
