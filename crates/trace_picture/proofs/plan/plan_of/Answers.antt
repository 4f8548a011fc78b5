use Rattle.std.proofs.Common.{◌≡◌, ℕ, ◌+◌, ◌*◌, ◌<◌, ◌≤◌, ◌++◌, List, [], ◌∷◌, length, take, refl, ap, sym, ◌∙◌, arith}
use Rattle.std.proofs.lemmas.List.{take_more_set, take_all, length-set, length-replicate}
use Rattle.trace_board.specs.Tracked.{tracked_of}
use Rattle.trace_shapes.specs.declared.view.BandRow.{BandRow}
use Rattle.trace_shapes.specs.Places.{lanes_of}
use Rattle.trace_picture.specs.Plan.{row_of, top_of, step_of, height_of, kind_of, gap_below, rows_below, sum_below, plan_of}
use Rattle.trace_picture.proofs.Planning.{rows_more, rows_none, sum_more, sum_none}
use Rattle.trace_picture.proofs.plan.plan_of.Goals as goal

pub loop-t-init : goal.loop-t-init
loop-t-init c =
    let l = c.args.layout.now in
    let k = tracked_of c.args.board.now in
    let es = c.args.kept.now in
    record { rows = sym (rows_none (row_of l k es)); end = ap (λ n. 20 + n) (sym (sum_none (step_of l k es))); small = omega arith; long = refl }

pub loop-t-preserved : goal.loop-t-preserved
loop-t-preserved c =
    let l = c.args.layout.now in
    let k = tracked_of c.args.board.now in
    let es = c.args.kept.now in
    let t = c.loop-t.t in
    let i = c.loop-t.invariant in
    let row = c.row_at-row.ensures.row in
    let here : c.row_at-row.result ≡ row_of l k es t = row ∙ (λ j. record { y = i.end j; height = height_of l k es t; kind = kind_of l k es t }) in
    let low : t < length c.loop-t.rows = omega (arith, i.long, c.loop-t-test.true) in
    let step : c.row_at-row.result.height + c.gap_below.result ≡ step_of l k es t = (λ j. (row j).height + (c.gap_below.ensures.gap ∙ ap (λ (r : BandRow). gap_below r.kind) row) j) in
    record {
      rows = take_more_set c.loop-t.rows t c.row_at-row.result low ∙ (λ j. i.rows j ++ here j ∷ []) ∙ sym (rows_more (row_of l k es) t);
      end = omega (arith, i.end, step, sum_more (step_of l k es) t);
      small = omega (arith, i.small, c.row_at-row.ensures.small, c.gap_below.ensures.small);
      long = length-set c.loop-t.rows t c.row_at-row.result ∙ i.long;
    }
