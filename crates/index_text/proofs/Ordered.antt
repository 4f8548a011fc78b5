-- Rows of an index text are in order.
use Rattle.std.proofs.Common.{List, None}
use Rattle.word_index.specs.Index.{Row, IsRising}
use Rattle.index_table.specs.Rows.{paths_of, AreOrdered}
use Rattle.index_text.specs.Texts.{IsHit, IsRow, AreRows}
use Rattle.index_text.proofs.Turns.{hit_path, row_word, each, rises}

pub ordered_rows : (rs : List Row) → AreRows None rs → AreOrdered rs
ordered_rows rs are = record {
  words = rises row_word IsRow (λ last r l. l.above) None rs are;
  hits = each row_word IsRow (λ r. IsRising (paths_of r.hits)) (λ last r l. rises hit_path IsHit (λ last h k. k.above) None r.hits l.hits) None rs are;
}
