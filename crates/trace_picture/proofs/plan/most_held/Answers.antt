use Rattle.std.proofs.Common.{◌≡◌, ℕ, max, ap, sym, ◌∙◌, arith}
use Rattle.trace_board.specs.History.{entry_of}
use Rattle.trace_board.specs.declared.rows.Bar.TheVariants.{Mutex}
use Rattle.trace_board.specs.Tracked.{tracked_of}
use Rattle.trace_picture.specs.Plan.{lanes_to, most_below}
use Rattle.trace_picture.proofs.Planning.{most_more, most_none}
use Rattle.trace_picture.proofs.plan.most_held.Goals as goal

pub loop-m-init : goal.loop-m-init
loop-m-init c = record { lanes = sym (most_none (λ m. lanes_to (tracked_of c.args.board.now) c.args.t (Mutex m) (entry_of c.args.board.now.held m))); few = omega arith }

pub loop-m-preserved : goal.loop-m-preserved
loop-m-preserved c =
    let k = tracked_of c.args.board.now in
    let f : ℕ → ℕ = λ m. lanes_to k c.args.t (Mutex m) (entry_of c.args.board.now.held m) in
    let here = c.lanes_to-lanes.ensures.lanes ∙ ap (λ o. lanes_to k c.args.t (Mutex c.loop-m.m) o) c.at.ensures in
    let most = c.loop-m.invariant.lanes in
    record {
      lanes = c.larger-most.ensures ∙ (λ i. max (most i) (here i)) ∙ sym (most_more f c.loop-m.m);
      few = omega (arith, c.larger-most.ensures, c.loop-m.invariant.few, c.lanes_to-lanes.ensures.few);
    }
