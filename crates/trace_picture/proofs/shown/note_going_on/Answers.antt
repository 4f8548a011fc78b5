use Rattle.std.proofs.Common.{◌∙◌}
use Rattle.std.specs.Prelude.{nat_lt}
use Rattle.trace_board.specs.History.{entry_of}
use Rattle.trace_shapes.specs.declared.legend.TheConstants.{TAKINGS, HOLDS, WAITS, LET_GO}
use Rattle.trace_picture.specs.Shown.{shown_if}
use Rattle.trace_picture.proofs.shown.note_going_on.Goals as goal

pub returns : goal.returns
returns c =
    let by = c.args.by in
    let held = c.count_in-held.ensures.count in
    let taken = c.count_in-taken.ensures.count in
    let waits = c.count_in-waits.ensures.count in
    let let_go = c.count_let_go-let_go.ensures.count in
    let with_held = c.show_if.ensures ∙ (λ i. shown_if HOLDS (nat_lt 0 (held i)) by (entry_of c.args.shown.now)) in
    let with_taken = c.show_if-2.ensures ∙ (λ i. shown_if TAKINGS (nat_lt 0 (taken i)) by (with_held i)) in
    let with_waits = c.show_if-3.ensures ∙ (λ i. shown_if WAITS (nat_lt 0 (waits i)) by (with_taken i)) in
    c.show_if-4.ensures ∙ (λ i. shown_if LET_GO (nat_lt 0 (let_go i)) by (with_waits i))
