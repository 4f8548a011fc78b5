use Rattle.std.proofs.Common.{arith, refl, ◌∙◌}
use Rattle.exact_text.proofs.Reported.{same_reported, fault_reported}
use Rattle.index_text.specs.Offered.{with_word, with_end}
use Rattle.index_text.proofs.Taken.{hits_begin, hits_next, hits_stop, row_end}
use Rattle.index_text.proofs.take.take_row.Goals as goal

pub loop-left-init : goal.loop-left-init
loop-left-init g c = record { taken = λ first t k none. (t, k, hits_begin c.args.many c.args.intake.now (g.I.Source.left c.args.input.now) t none); unfailed = refl }

pub take_hit-requires : goal.take_hit-requires
take_hit-requires g c =
    let r = c.requires.none in
    let b = c.loop-left.invariant.taken r.0 (with_word c.args.word.now r.1) (c.in-Ok.ensures r.0 r.1 r.2 r.3) r.3 in
    (r.0, b.0, b.1, b.2.are)

pub loop-left-preserved : goal.loop-left-preserved
loop-left-preserved g c =
    let i = c.loop-left.invariant in
    record {
      taken = λ first t k none.
          let b = i.taken first t k none in
          let h = c.in-Ok-take_hit.ensures.taken first b.0 b.1 b.2.are in
          (h.0, h.1, hits_next b.2 h.0 c.take_hit.new.intake (g.I.Source.left c.take_hit.new.input) (g.I.Source.faults c.loop-left.input) (g.I.Source.faults c.take_hit.new.input) h.2 (omega arith));
      unfailed = c.in-Ok-take_hit.ensures.reported.unfailed ∙ i.unfailed;
    }

pub returns-in-Err-take_hit-clause-taken : goal.returns-in-Err-take_hit-clause-taken
returns-in-Err-take_hit-clause-taken g c = λ first t k none.
    let i = c.loop-left.invariant in
    let b = i.taken first (with_word c.args.word.now t) (c.in-Ok.ensures first t k none) none in
    let h = c.in-Err-take_hit.ensures.taken first b.0 b.1 b.2.are in
    (t, tt, λ n e. hits_stop b.2 c.args.word.now (g.I.Source.left c.take_hit.new.input) (g.I.Source.faults c.args.input.now) (g.I.Source.faults c.loop-left.input) (g.I.Source.faults c.take_hit.new.input) c.in-Err-take_hit.fault h.2 i.unfailed (omega arith) n e)

pub returns-in-Err-take_hit-clause-reported : goal.returns-in-Err-take_hit-clause-reported
returns-in-Err-take_hit-clause-reported g c = fault_reported _ _ _ c.in-Err-take_hit.fault c.loop-left.invariant.unfailed c.in-Err-take_hit.ensures.reported

pub returns-in-Ok-end_row-clause-taken : goal.returns-in-Ok-end_row-clause-taken
returns-in-Ok-end_row-clause-taken g c = λ first t k none.
    let i = c.loop-left.invariant in
    let b = i.taken first (with_word c.args.word.now t) (c.in-Ok.ensures first t k none) none in
    (with_end b.0, c.in-Ok-end_row.ensures first b.0 b.1, λ n e. row_end c.args.word.now t b.2 (omega arith) n e (g.I.Source.faults c.args.input.now) (g.I.Source.faults c.loop-left.input))

pub returns-in-Ok-end_row-clause-reported : goal.returns-in-Ok-end_row-clause-reported
returns-in-Ok-end_row-clause-reported g c = same_reported _ _ _ c.loop-left.invariant.unfailed

pub returns-in-Err-end_row-clause-taken : goal.returns-in-Err-end_row-clause-taken
returns-in-Err-end_row-clause-taken g c = λ first t k none. (t, tt, λ n e. tt)

pub returns-in-Err-end_row-clause-reported : goal.returns-in-Err-end_row-clause-reported
returns-in-Err-end_row-clause-reported g c = same_reported _ _ _ c.loop-left.invariant.unfailed

pub returns-in-Err-clause-taken : goal.returns-in-Err-clause-taken
returns-in-Err-clause-taken g c = λ first t k none. (t, tt, λ n e. tt)

pub returns-in-Err-clause-reported : goal.returns-in-Err-clause-reported
returns-in-Err-clause-reported g c = same_reported _ _ _ refl
