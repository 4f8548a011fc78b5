use Rattle.std.proofs.Common.{◌≡◌, List, ℕ, sym}
use Rattle.word_index.specs.Index.{entries}
use Rattle.word_index.proofs.Sides.{numbers_apart}
use Rattle.word_index.proofs.Views.{ordered_view, either}
use Rattle.word_index.proofs.merges.merge_pieces.Goals as goal

pub join_tables-requires-clause-apart : goal.join_tables-requires-clause-apart
join_tables-requires-clause-apart c =
    let meet = rw (← c.a.view_is, ← c.b.view_is) at c.requires in
    numbers_apart c.in_ok-paths.ensures.first c.in_ok-paths.ensures.second (λ p here there. meet (p, here, there))

pub returns-in-Ok-join_tables : goal.returns-in-Ok-join_tables
returns-in-Ok-join_tables c =
    let table = c.in-Ok-join_tables.ensures in
    let same = rw (← c.a.view_is, ← c.b.view_is) at table.same in
    let paths = c.in_ok-paths.paths.all in
    rw (← c.a.view_is, ← c.b.view_is) (record {
      ordered = ordered_view paths c.in-Ok.skipped.all c.in-Ok-join_tables.table.words c.in-Ok-join_tables.table.places
          (record { paths = c.in_ok-paths.ensures.rising; skipped = c.in-Ok.ensures.rising; words = table.words; many = table.many; each = table.each });
      paths = c.in_ok-paths.ensures.members;
      skipped = c.in-Ok.ensures.members;
      entries = either _ _ _ same;
    })
