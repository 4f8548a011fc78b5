use Rattle.std.proofs.Common.{◌∙◌, refl}
use Rattle.exact_text.proofs.Reported.{same_reported, fault_reported}
use Rattle.index_text.proofs.Ordered.{ordered_rows}
use Rattle.index_text.proofs.Wholes.{first_fault, text_fault, all_read}
use Rattle.index_text.proofs.read.offer_index.Goals as goal

pub returns-in-Err-clause-fault : goal.returns-in-Err-clause-fault
returns-in-Err-clause-fault g c =
    let n = c.new-intake.ensures in
    first_fault c.new-intake.result (g.I.Source.left c.args.input.now) c.args.most n.rest n.given n.budget n.lines c.fill.new.self (g.I.Source.left c.fill.new.input) (g.I.Source.faults c.args.input.now) (g.I.Source.faults c.fill.new.input) c.in-Err.fault c.in-Err.ensures.filled

pub returns-in-Err-clause-reported : goal.returns-in-Err-clause-reported
returns-in-Err-clause-reported g c = fault_reported _ _ _ c.in-Err.fault refl c.in-Err.ensures.reported

pub returns-in-Ok-take_rows-clause-offered : goal.returns-in-Ok-take_rows-clause-offered
returns-in-Ok-take_rows-clause-offered g c =
    let n = c.new-intake.ensures in
    let r = c.in-Ok-take_rows.ensures.taken in
    let t = r.2 in
    record {
      offered = r.0;
      kept = r.1;
      ended = t.2;
      ordered = ordered_rows r.0.rows t.0;
      text = all_read c.new-intake.result (g.I.Source.left c.args.input.now) c.args.most n.rest n.given n.budget n.lines c.fill.new.self (g.I.Source.left c.fill.new.input) (g.I.Source.left c.take_rows.new.input) (g.I.Source.faults c.args.input.now) (g.I.Source.faults c.fill.new.input)
          c.in-Ok.field-0 c.in-Ok.ensures.filled r.0.rows r.0.rows r.0.skipped r.0.skipped refl refl t.0 t.1 t.3;
    }

pub returns-in-Ok-take_rows-clause-end : goal.returns-in-Ok-take_rows-clause-end
returns-in-Ok-take_rows-clause-end g c = c.in-Ok-take_rows.ensures.taken.2.3.end

pub returns-in-Ok-take_rows-clause-reported : goal.returns-in-Ok-take_rows-clause-reported
returns-in-Ok-take_rows-clause-reported g c = same_reported _ _ _ (c.in-Ok-take_rows.ensures.reported.unfailed ∙ c.in-Ok.ensures.reported.unfailed)

pub returns-clause-fault : goal.returns-clause-fault
returns-clause-fault g c =
    let n = c.new-intake.ensures in
    text_fault c.new-intake.result (g.I.Source.left c.args.input.now) c.args.most n.rest n.given n.budget n.lines c.fill.new.self (g.I.Source.left c.fill.new.input) (g.I.Source.left c.take_rows.new.input) (g.I.Source.faults c.args.input.now) (g.I.Source.faults c.fill.new.input)
    c.in-Ok.field-0 c.in-Ok.ensures.filled (g.I.Source.faults c.take_rows.new.input) c.in-Err-take_rows.fault c.in-Ok.ensures.reported.unfailed c.in-Err-take_rows.ensures.taken.2

pub returns-clause-reported : goal.returns-clause-reported
returns-clause-reported g c = fault_reported _ _ _ c.in-Err-take_rows.fault c.in-Ok.ensures.reported.unfailed c.in-Err-take_rows.ensures.reported
