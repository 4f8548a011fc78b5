use Rattle.std.proofs.Common.{ℕ, Bool, sym, ◌∙◌, arith}
use Rattle.std.specs.Prelude.{is_some}
use Rattle.trace_board.specs.History.{entry_of}
use Rattle.trace_shapes.proofs.Counted.{counted_one, counted_none}
use Rattle.trace_picture.proofs.shown.count_in.Goals.{then-is_in, else-is_in}
use Rattle.trace_picture.proofs.shown.count_in.Goals as goal

pub loop-k-preserved : goal.loop-k-preserved
loop-k-preserved c =
    let there : ℕ → Bool = λ k. is_some (entry_of c.args.table.now k) in
    let i = c.loop-k.invariant in
    elim c.if-is_in.branch [
      | then-is_in w ↦ record {
        count = w.count-is ∙ counted_one there c.loop-k.k c.loop-k.count i.count (sym c.is_in.ensures ∙ w.if-is_in.true);
        few = omega (arith, w.count-is, i.few);
      }
      | else-is_in w ↦ record {
        count = w.count-is ∙ counted_none there c.loop-k.k c.loop-k.count i.count (sym c.is_in.ensures ∙ w.if-is_in.false);
        few = omega (arith, w.count-is, i.few);
      }
    ]
