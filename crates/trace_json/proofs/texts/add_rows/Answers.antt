use Rattle.std.proofs.Common.{◌++◌, take, ap, sym, ◌∙◌, append-nil, arith}
use Rattle.trace_json.specs.Texts.{rows_text, row_text}
use Rattle.trace_json.proofs.Adding.{rows_more, rows_none, added_two}
use Rattle.trace_json.proofs.texts.add_rows.Goals as goal

pub loop-t-init : goal.loop-t-init
loop-t-init c =
    let old = take c.args.at c.args.buf.now in
    record { text = sym (ap (λ l. old ++ l) rows_none ∙ append-nil old); near = omega arith }

pub loop-t-preserved : goal.loop-t-preserved
loop-t-preserved c =
    let old = take c.args.at c.args.buf.now in
    record {
      text = added_two old (take c.loop-t.last c.loop-t.buf) _ (rows_text c.loop-t.t) (row_text c.loop-t.t) c.loop-t.invariant.text c.add_row-last.ensures.text ∙ ap (λ l. old ++ l) (rows_more c.loop-t.t);
      near = omega (arith, c.loop-t.invariant.near, c.add_row-last.ensures.near);
    }
