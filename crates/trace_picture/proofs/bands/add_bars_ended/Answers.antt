use Rattle.std.proofs.Common.{[], ◌++◌, take, ◌∙◌}
use Rattle.trace_board.specs.Tracked.{tracked_of}
use Rattle.trace_picture.specs.Bands.{bar_ended, taken_ended, wait_ended}
use Rattle.trace_shapes.proofs.Added.{added_three}
use Rattle.trace_picture.proofs.bands.add_bars_ended.Goals as goal

pub returns-clause-text : goal.returns-clause-text
returns-clause-text c =
    let old = take c.args.at c.args.buf.now in
    let r = c.args.reach.now in
    let k = tracked_of c.args.board.now in
    let m = c.args.shown.now in
    let by = c.waker-by.ensures in
    added_three old _ _ _ _ _ _ [] [] c.add_bar_ended-at.ensures.text c.add_taken_ended-at.ensures.text c.add_wait_ended.ensures.text
    ∙ (λ i. old ++ (bar_ended r k m.mutex ++ taken_ended r k m.semaphore ++ wait_ended r k (by i) m.wait))
