use Rattle.std.proofs.Common.{◌<◌, length, sym, ap}
use Rattle.word_index.proofs.Parts.{length_parts}
use Rattle.word_index.proofs.rows.Rows.get.Goals as goal

pub part_of-requires-clause-within : goal.part_of-requires-clause-within
part_of-requires-clause-within c =
    let within = rw (sym c.self.view_is) at c.requires in
    rw (c.deref-2.ensures.value, ← length_parts c.self.inside.places.items 0 c.self.inside.ends.items) within
