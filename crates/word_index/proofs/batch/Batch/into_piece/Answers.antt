use Rattle.std.proofs.Common.{sym}
use Rattle.word_index.proofs.Batches.{batch_sound, index_of_batch}
use Rattle.word_index.proofs.batch.Batch.into_piece.Goals as goal

pub invariant_of-result : goal.invariant_of-result
invariant_of-result c = batch_sound c.self.inside.paths c.self.inside.skipped c.self.inside.lows c.in-Ok.table.words c.in-Ok.table.places c.self.invariant c.in-Ok.ensures

pub returns-in-Ok : goal.returns-in-Ok
returns-in-Ok c = λ fs holds. index_of_batch fs (record { paths = c.self.inside.paths; skipped = c.self.inside.skipped; lows = c.self.inside.lows }) c.in-Ok.table.words c.in-Ok.table.places (rw (sym c.self.view_is) at holds) c.in-Ok.ensures c.self.invariant
