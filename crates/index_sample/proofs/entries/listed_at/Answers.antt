use Rattle.std.proofs.Common.{◌∙◌, ◌*◌, ap, map}
use Rattle.std.specs.List.{range_with_len}
use Rattle.firefly_outside.specs.Samples.{file_entry}
use Rattle.index_sample.specs.Listings.{of_dir}
use Rattle.index_sample.proofs.entries.listed_at.Goals as goal

pub returns : goal.returns
returns c =
    of_dir c.in-Some.number c.in-Some.ensures.some.0 c.in-Some.ensures.some.1
    (c.in_ok-entries-2.ensures ∙ ap (λ m. map file_entry (range_with_len (100 * c.in-Some.number) m)) c.many_in-many.ensures)
