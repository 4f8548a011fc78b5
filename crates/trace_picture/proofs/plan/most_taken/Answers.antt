use Rattle.std.proofs.Common.{◌≡◌, ℕ, max, ap, sym, ◌∙◌, arith}
use Rattle.trace_board.specs.History.{entry_of}
use Rattle.trace_board.specs.declared.rows.Bar.TheVariants.{Semaphore}
use Rattle.trace_board.specs.Tracked.{tracked_of}
use Rattle.trace_picture.specs.Plan.{lanes_to, most_below}
use Rattle.trace_picture.proofs.Planning.{most_more, most_none}
use Rattle.trace_picture.proofs.plan.most_taken.Goals as goal

pub loop-s-init : goal.loop-s-init
loop-s-init c = record { lanes = sym (most_none (λ s. lanes_to (tracked_of c.args.board.now) c.args.t (Semaphore s) (entry_of c.args.board.now.taken s))); few = omega arith }

pub loop-s-preserved : goal.loop-s-preserved
loop-s-preserved c =
    let k = tracked_of c.args.board.now in
    let f : ℕ → ℕ = λ s. lanes_to k c.args.t (Semaphore s) (entry_of c.args.board.now.taken s) in
    let here = c.lanes_to-lanes.ensures.lanes ∙ ap (λ o. lanes_to k c.args.t (Semaphore c.loop-s.s) o) c.at.ensures in
    let most = c.loop-s.invariant.lanes in
    record {
      lanes = c.larger-most.ensures ∙ (λ i. max (most i) (here i)) ∙ sym (most_more f c.loop-s.s);
      few = omega (arith, c.larger-most.ensures, c.loop-s.invariant.few, c.lanes_to-lanes.ensures.few);
    }
