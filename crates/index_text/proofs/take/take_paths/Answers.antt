use Rattle.std.proofs.Common.{◌∙◌, arith, refl}
use Rattle.exact_text.proofs.Reported.{same_reported, fault_reported}
use Rattle.index_text.proofs.Taken.{paths_begin, paths_next, paths_end, paths_asked, paths_stop, paths_rise, skipped_long}
use Rattle.index_text.proofs.take.take_paths.Goals as goal

pub loop-fault-init : goal.loop-fault-init
loop-fault-init g c = record { taken = λ first t k before. (t, k, paths_begin c.args.intake.now (g.I.Source.left c.args.input.now) t); unfailed = refl }

pub returns-in-Ok-false-clause-taken : goal.returns-in-Ok-false-clause-taken
returns-in-Ok-false-clause-taken g c = λ first t k before.
    let b = c.loop-fault.invariant.taken first t k before in
    (b.0, b.1, paths_end before b.2 c.goes_on.new.self (g.I.Source.left c.goes_on.new.input) (g.I.Source.faults c.loop-fault.input) (g.I.Source.faults c.goes_on.new.input) (g.I.Source.faults c.args.input.now) (g.I.Source.faults c.goes_on.new.input) (rw c.in-Ok-false.field-0-test at c.in-Ok-false.ensures.asked))

pub returns-in-Ok-false-clause-reported : goal.returns-in-Ok-false-clause-reported
returns-in-Ok-false-clause-reported g c = same_reported _ _ _ (c.in-Ok-false.ensures.reported.unfailed ∙ c.loop-fault.invariant.unfailed)

pub returns-in-Err-clause-taken : goal.returns-in-Err-clause-taken
returns-in-Err-clause-taken g c = λ first t k before.
    let i = c.loop-fault.invariant in
    let b = i.taken first t k before in
    (t, tt, paths_asked before b.2 c.goes_on.new.self (g.I.Source.left c.goes_on.new.input) (g.I.Source.faults c.args.input.now) (g.I.Source.faults c.loop-fault.input) (g.I.Source.faults c.goes_on.new.input) c.in-Err.fault c.in-Err.ensures.asked i.unfailed)

pub returns-in-Err-clause-reported : goal.returns-in-Err-clause-reported
returns-in-Err-clause-reported g c = fault_reported _ _ _ c.in-Err.fault c.loop-fault.invariant.unfailed c.in-Err.ensures.reported

pub take_skipped-requires : goal.take_skipped-requires
take_skipped-requires g c =
    let r = c.requires.before in
    let b = c.loop-fault.invariant.taken r.0 r.1 r.2 r.3 in
    (r.0, b.0, b.1, paths_rise r.3 b.2)

pub returns-in-Err-take_skipped-clause-taken : goal.returns-in-Err-take_skipped-clause-taken
returns-in-Err-take_skipped-clause-taken g c = λ first t k before.
    let i = c.loop-fault.invariant in
    let b = i.taken first t k before in
    let h = c.in-Err-take_skipped.ensures.taken first b.0 b.1 (paths_rise before b.2) in
    let asked = rw c.in-Ok-true.field-0-test at c.in-Ok-true.ensures.asked in (
      t,
      tt,
      paths_stop before b.2 c.goes_on.new.self (g.I.Source.left c.goes_on.new.input) (g.I.Source.left c.take_skipped.new.input) (g.I.Source.faults c.args.input.now) (g.I.Source.faults c.loop-fault.input)
          (g.I.Source.faults c.goes_on.new.input) (g.I.Source.faults c.take_skipped.new.input) c.in-Err-take_skipped.fault asked i.unfailed c.in-Ok-true.ensures.reported.unfailed h.2,
    )

pub returns-in-Err-take_skipped-clause-reported : goal.returns-in-Err-take_skipped-clause-reported
returns-in-Err-take_skipped-clause-reported g c = fault_reported _ _ _ c.in-Err-take_skipped.fault (c.in-Ok-true.ensures.reported.unfailed ∙ c.loop-fault.invariant.unfailed) c.in-Err-take_skipped.ensures.reported

pub loop-fault-preserved : goal.loop-fault-preserved
loop-fault-preserved g c =
    let i = c.loop-fault.invariant in
    let asked = rw c.in-Ok-true.field-0-test at c.in-Ok-true.ensures.asked in
    record {
      taken = λ first t k before.
          let b = i.taken first t k before in
          let h = c.in-Ok.ensures.taken first b.0 b.1 (paths_rise before b.2) in
          (h.0, h.1, paths_next before b.2 h.0 c.goes_on.new.self c.take_skipped.new.intake (g.I.Source.left c.goes_on.new.input) (g.I.Source.left c.take_skipped.new.input) (g.I.Source.faults c.loop-fault.input) (g.I.Source.faults c.goes_on.new.input) (g.I.Source.faults c.goes_on.new.input) (g.I.Source.faults c.take_skipped.new.input) asked h.2);
      unfailed = c.in-Ok.ensures.reported.unfailed ∙ (c.in-Ok-true.ensures.reported.unfailed ∙ i.unfailed);
    }

pub loop-fault-smaller : goal.loop-fault-smaller
loop-fault-smaller g c =
    let asked = rw c.in-Ok-true.field-0-test at c.in-Ok-true.ensures.asked in
    let r = c.requires.before in
    let b = c.loop-fault.invariant.taken r.0 r.1 r.2 r.3 in
    let t = (c.in-Ok.ensures.taken r.0 b.0 b.1 (paths_rise r.3 b.2)).2 in
    omega (arith, asked.1, t.2.room, skipped_long t.0)
