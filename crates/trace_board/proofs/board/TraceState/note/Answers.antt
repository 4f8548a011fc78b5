use Rattle.std.proofs.Common.{ap, sym, subst, ◌∙◌}
use Rattle.trace_board.specs.declared.history.Origin.{Origin}
use Rattle.trace_board.specs.declared.marks.Effects.{Effects}
use Rattle.trace_board.specs.History.{changed, begun_by, ended_by, entry_of, IsWithin}
use Rattle.trace_board.specs.Causes.{moved, cause_of}
use Rattle.trace_board.specs.declared.history.Change.{Change}
use Rattle.trace_board.specs.declared.history.Change.TheVariants.{Begins, Ends, Stays}
use Rattle.trace_board.specs.Marks.{marks}
use Rattle.trace_board.specs.Rows.{turned, turned_by_semaphore, row_of}
use Rattle.trace_board.specs.Holds.{lengthened, longest_of}
use Rattle.trace_board.proofs.board.TraceState.note.Goals as goal

within_end : (effect : Change) → IsWithin effect → IsWithin (ended_by effect)
within_end (Begins k) h = tt
within_end (Ends k) h = h
within_end Stays h = h

pub note-requires-8 : goal.note-requires-8
note-requires-8 c =
    let is = c.marks_of-marks.ensures in
    let about = c.ended_by.ensures ∙ ap (λ m. ended_by m.mutex) is in
    subst IsWithin (sym about) (within_end (marks c.args.e.now).mutex c.requires.held)

pub returns : goal.returns
returns c =
    let by : Effects → Origin = λ m. record { thread = c.args.e.now.thread; object = m.object; place = c.args.place } in
    let b = c.args.self.now in
    let t = c.args.e.now.thread.0 in
    let is = c.marks_of-marks.ensures in
    let longest = c.note.ensures ∙ ap (λ m. lengthened m.mutex c.args.place (entry_of b.held) (longest_of b.longest)) is in
    let rows = c.note_semaphore.ensures ∙ ap (turned_by_semaphore c.marks_of-marks.result.semaphore t (entry_of b.taken)) c.note-2.ensures ∙ ap (λ m. turned_by_semaphore m.semaphore t (entry_of b.taken) (turned m.mutex t (row_of b.rows))) is in
    let held = c.note-3.ensures ∙ ap (λ m. changed m.mutex (by m) (entry_of b.held)) is in
    let waits = c.note-4.ensures ∙ ap (λ m. changed m.wait (by m) (entry_of b.waits)) is in
    let stands = c.note-5.ensures ∙ ap (λ m. moved m.stand (by m) (cause_of b.stands)) is in
    let opens = c.note-6.ensures ∙ ap (λ m. moved m.avail (by m) (cause_of b.opens)) is in
    let alerts = c.note-7.ensures ∙ ap (λ m. moved m.alert (by m) (cause_of b.alerts)) is in
    let given = c.note-8.ensures ∙ ap (λ t. changed t (by c.marks_of-marks.result) (entry_of b.given)) c.ended_by.ensures ∙ ap (λ m. changed (ended_by m.mutex) (by m) (entry_of b.given)) is in
    let latest = c.note-10.ensures ∙ ap (λ m. changed (Begins t) (by m) (entry_of b.latest)) is in
    let taken = c.note-9.ensures ∙ ap (λ m. changed m.semaphore (by m) (entry_of b.taken)) is in
    let born = c.note-11.ensures.born ∙ ap (λ m. changed (begun_by m.life) (by m) (entry_of b.lives.born)) is in
    let over = c.note-11.ensures.over ∙ ap (λ m. changed (ended_by m.life) (by m) (entry_of b.lives.over)) is in
    λ i. record { held = held i; waits = waits i; stands = stands i; opens = opens i; alerts = alerts i; rows = rows i; given = given i; taken = taken i; longest = longest i; latest = latest i; born = born i; over = over i }
