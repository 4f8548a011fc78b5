use Rattle.std.proofs.Common.{ℕ, List, ◌+◌, ◌++◌, take, ap, sym, ◌∙◌, append-nil, arith}
use Rattle.trace_board.specs.History.{entry_of}
use Rattle.trace_shapes.specs.Shapes.{each_below}
use Rattle.trace_shapes.proofs.Added.{each_more, each_none, added_more}
use Rattle.trace_explain.specs.Facts.{held_by}
use Rattle.trace_explain.proofs.facts.add_each_held.Goals as goal

pub loop-m-init : goal.loop-m-init
loop-m-init c =
    let f : ℕ → List ℕ = (λ m. held_by c.args.t m (entry_of c.args.held.now m)) in
    let old = take c.args.at c.args.buf.now in
    record { text = sym (ap (λ l. old ++ l) (each_none f) ∙ append-nil old); near = omega arith }

pub loop-m-preserved : goal.loop-m-preserved
loop-m-preserved c =
    let f : ℕ → List ℕ = (λ m. held_by c.args.t m (entry_of c.args.held.now m)) in
    let old = take c.args.at c.args.buf.now in
    record {
      text = added_more old (take c.loop-m.last c.loop-m.buf) _ (each_below f c.loop-m.m) (f c.loop-m.m) (each_below f (c.loop-m.m + 1)) c.loop-m.invariant.text (c.add_held_by-last.ensures.text ∙ ap (λ o. take c.loop-m.last c.loop-m.buf ++ held_by c.args.t c.loop-m.m o) c.at.ensures) (sym (each_more f c.loop-m.m));
      near = omega (arith, c.loop-m.invariant.near, c.add_held_by-last.ensures.near);
    }
