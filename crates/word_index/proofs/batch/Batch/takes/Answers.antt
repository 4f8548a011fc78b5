use Rattle.std.proofs.Common.{◌≡◌, ◌+◌, ◌-◌, length, sym, arith}
use Rattle.word_index.proofs.Batches.{above_last}
use Rattle.word_index.proofs.batch.Batch.takes.Goals as goal

pub returns-in-Less : goal.returns-in-Less
returns-in-Less c = λ yes.
    let end : c.len-many.result - 1 + 1 ≡ length c.self.inside.paths = omega (arith, c.len-many.ensures, c.if-many-eq0.false) in
    rw (← c.self.view_is) (above_last c.self.inside.paths c.args.path.now (c.len-many.result - 1) end c.self.invariant.rising (rw (← c.get.ensures, ← c.as_bytes.ensures.value) (sym c.in-Less.ensures)))
