use Rattle.std.proofs.Common.{◌≡◌, Err}
use Rattle.std.specs.Prelude.{slice_index_or}
use Rattle.exact_text.specs.declared.stop.Stop.TheVariants.{Dead}
use Rattle.script_text.specs.declared.table.Word.TheVariants as word
use Rattle.script_text.specs.Drafts.{held_in, forked_in}
use Rattle.script_text.specs.NextLine.{first_below, row_at}
use Rattle.script_text.proofs.parse.operation.Given as goal

abbrev pub invariant-loop-word : goal.invariant-loop-word
invariant-loop-word l =
    first_below (λ i. row_at l.draft.layout (held_in l.draft) (forked_in l.draft) l.thread (slice_index_or l.words i word.Acquire)) l.word-index l.bytes ≡ Err Dead
