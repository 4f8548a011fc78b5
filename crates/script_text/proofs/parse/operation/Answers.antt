use Rattle.std.proofs.Common.{◌+◌, length, refl}
use Rattle.std.specs.Prelude.{slice_index_or}
use Rattle.script_text.specs.declared.table.Word.TheVariants as word
use Rattle.script_text.specs.Drafts.{held_in, forked_in}
use Rattle.script_text.specs.NextLine.{row_at}
use Rattle.script_text.proofs.Choice.{below_ok, below_more, below_dead}
use Rattle.script_text.proofs.parse.operation.Goals as goal

pub returns-in-Err-More : goal.returns-in-Err-More
returns-in-Err-More c =
    let d = c.args.draft.now in
    let ws = c.args.words.now in
    let read = rw c.in-Err-More.field-0-is at c.in-Err-More.ensures in
    below_more (λ i. row_at d.layout (held_in d) (forked_in d) c.args.thread (slice_index_or ws i word.Acquire)) c.args.bytes.now c.loop-word.word-index (length ws) c.loop-word.invariant read c.loop-word-test.true

pub returns-in-Ok : goal.returns-in-Ok
returns-in-Ok c =
    let d = c.args.draft.now in
    let ws = c.args.words.now in
    below_ok (λ i. row_at d.layout (held_in d) (forked_in d) c.args.thread (slice_index_or ws i word.Acquire)) c.args.bytes.now c.loop-word.word-index (length ws) (c.in-Ok.read.0, c.in-Ok.read.1.now) c.loop-word.invariant
    c.in-Ok.ensures c.loop-word-test.true

pub loop-word-preserved : goal.loop-word-preserved
loop-word-preserved c =
    let d = c.args.draft.now in
    let ws = c.args.words.now in
    let read = rw c.in-Err-Dead.field-0-is at c.in-Err-Dead.ensures in
    below_dead (λ i. row_at d.layout (held_in d) (forked_in d) c.args.thread (slice_index_or ws i word.Acquire)) c.args.bytes.now c.loop-word.word-index (c.loop-word.word-index + 1) refl c.loop-word.invariant read
