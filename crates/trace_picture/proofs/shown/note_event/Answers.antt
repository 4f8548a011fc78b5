use Rattle.std.proofs.Common.{true, ◌∙◌}
use Rattle.trace_board.specs.History.{entry_of}
use Rattle.trace_shapes.specs.declared.legend.TheConstants.{ARROWS, TAKINGS, HOLDS, WAITS, LET_GO}
use Rattle.trace_picture.specs.Shown.{shown_if}
use Rattle.trace_picture.proofs.shown.note_event.Goals as goal

pub returns : goal.returns
returns c =
    let by = c.args.by in
    let look = c.look_of-mark.ensures in
    let mutex = c.begins.ensures in
    let semaphore = c.begins-2.ensures in
    let wait = c.begins-3.ensures in
    let let_go = c.lets_go_on.ensures in
    let with_mark = c.show_if.ensures ∙ (λ i. shown_if (look i).letter true by (entry_of c.args.shown.now)) in
    let with_held = c.show_if-2.ensures ∙ (λ i. shown_if HOLDS (mutex i) by (with_mark i)) in
    let with_taken = c.show_if-3.ensures ∙ (λ i. shown_if TAKINGS (semaphore i) by (with_held i)) in
    let with_waits = c.show_if-4.ensures ∙ (λ i. shown_if WAITS (wait i) by (with_taken i)) in
    let with_arrows = c.show_if-5.ensures ∙ (λ i. shown_if ARROWS c.args.arrows by (with_waits i)) in
    c.show_if-6.ensures ∙ (λ i. shown_if LET_GO (let_go i) by (with_arrows i))
