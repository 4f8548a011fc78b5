use Rattle.std.proofs.Common.{◌∙◌, List, ℕ, refl, sym, subst, Ok, Err, Option}
use Rattle.std.specs.Option.{option_copied}
use Rattle.exact_text.specs.Exact.{IsStuck, OrMemory}
use Rattle.exact_text.specs.Intake.{rest_of, room_of}
use Rattle.exact_text.proofs.Reported.{same_reported, fault_reported, then_reported}
use Rattle.index_text.specs.declared.lines.Prefix.TheVariants as prefixes
use Rattle.index_text.specs.Lines.{heading_at}
use Rattle.index_text.specs.Next.{IsLast}
use Rattle.index_text.specs.Offered.{nothing, with_skipped}
use Rattle.index_text.specs.Takes.{TakesRow}
use Rattle.index_text.proofs.Taken.{rows_begin, rows_end, rows_asked, rows_stop, row_many, row_stop, row_smaller, rows_next, rows_last, first_skipped, last_ok, heading_now}
use Rattle.index_text.proofs.take.take_rows.Goals as goal

pub loop-fault-init : goal.loop-fault-init
loop-fault-init g c = record { offered = nothing; kept = c.begin.ensures; taken = rows_begin c.args.intake.now (g.I.Source.left c.args.input.now); unfailed = refl }

pub returns-in-Ok-false-clause-taken : goal.returns-in-Ok-false-clause-taken
returns-in-Ok-false-clause-taken g c =
    let i = c.loop-fault.invariant in
    (i.offered, i.kept, rows_end i.taken c.goes_on.new.self (g.I.Source.left c.goes_on.new.input) (g.I.Source.faults c.loop-fault.input) (g.I.Source.faults c.goes_on.new.input) (g.I.Source.faults c.args.input.now) (g.I.Source.faults c.goes_on.new.input) (rw c.in-Ok-false.field-0-test at c.in-Ok-false.ensures.asked))

pub returns-in-Ok-false-clause-reported : goal.returns-in-Ok-false-clause-reported
returns-in-Ok-false-clause-reported g c = same_reported _ _ _ (c.in-Ok-false.ensures.reported.unfailed ∙ c.loop-fault.invariant.unfailed)

pub returns-in-Err-clause-taken : goal.returns-in-Err-clause-taken
returns-in-Err-clause-taken g c =
    let i = c.loop-fault.invariant in
    (i.offered, tt, rows_asked i.taken c.goes_on.new.self (g.I.Source.left c.goes_on.new.input) (g.I.Source.faults c.args.input.now) (g.I.Source.faults c.loop-fault.input) (g.I.Source.faults c.goes_on.new.input) c.in-Err.fault c.in-Err.ensures.asked i.unfailed)

pub returns-in-Err-clause-reported : goal.returns-in-Err-clause-reported
returns-in-Err-clause-reported g c = fault_reported _ _ _ c.in-Err.fault c.loop-fault.invariant.unfailed c.in-Err.ensures.reported

pub next_heading-requires : goal.next_heading-requires
next_heading-requires g c =
    let i = c.loop-fault.invariant in
    subst IsLast (sym (c.last_word.ensures c.args.taker.now i.offered i.kept)) (last_ok i.taken)

pub take_row-requires-clause-none : goal.take_row-requires-clause-none
take_row-requires-clause-none g c =
    let i = c.loop-fault.invariant in
    (c.args.taker.now, i.offered, i.kept, i.taken.hits)

pub take_row-requires-clause-many : goal.take_row-requires-clause-many
take_row-requires-clause-many g c =
    let i = c.loop-fault.invariant in
    let t = i.taken in
    let name = c.next_heading.new.out.items in
    let asked = rw c.in-Ok-true.field-0-test at c.in-Ok-true.ensures.asked in
    let h = heading_now (option_copied c.last_word.result) i.offered c.goes_on.new.self c.next_heading.new.intake (g.I.Source.left c.goes_on.new.input) (g.I.Source.left c.next_heading.new.input) (g.I.Source.faults c.goes_on.new.input) (g.I.Source.faults c.next_heading.new.input) name (prefixes.Word c.in-Ok-Word.many) (c.last_word.ensures c.args.taker.now i.offered i.kept) (rw c.in-Ok-Word.field-0-is at c.in-Ok-Word.ensures.taken) in
    row_many t c.goes_on.new.self c.next_heading.new.intake (g.I.Source.left c.goes_on.new.input) (g.I.Source.left c.next_heading.new.input) (g.I.Source.faults c.loop-fault.input) (g.I.Source.faults c.goes_on.new.input) asked name h.0 h.2 h.3 c.in-Ok-Word.many h.1

pub returns-in-Err-take_row-clause-taken : goal.returns-in-Err-take_row-clause-taken
returns-in-Err-take_row-clause-taken g c =
    let i = c.loop-fault.invariant in
    let t = i.taken in
    let name = c.next_heading.new.out.items in
    let asked = rw c.in-Ok-true.field-0-test at c.in-Ok-true.ensures.asked in
    let h = heading_now (option_copied c.last_word.result) i.offered c.goes_on.new.self c.next_heading.new.intake (g.I.Source.left c.goes_on.new.input) (g.I.Source.left c.next_heading.new.input) (g.I.Source.faults c.goes_on.new.input) (g.I.Source.faults c.next_heading.new.input) name (prefixes.Word c.in-Ok-Word.many) (c.last_word.ensures c.args.taker.now i.offered i.kept) (rw c.in-Ok-Word.field-0-is at c.in-Ok-Word.ensures.taken) in
    let r = c.in-Err-take_row.ensures.taken c.args.taker.now i.offered i.kept t.hits in (
      i.offered,
      tt,
      row_stop t c.goes_on.new.self c.next_heading.new.intake (g.I.Source.left c.goes_on.new.input) (g.I.Source.left c.next_heading.new.input) (g.I.Source.faults c.loop-fault.input) (g.I.Source.faults c.goes_on.new.input) asked name h.0 h.2 h.3 c.in-Ok-Word.many h.1 r.0 c.take_row.new.intake (g.I.Source.left c.take_row.new.input) (g.I.Source.faults c.args.input.now) (g.I.Source.faults c.next_heading.new.input) (g.I.Source.faults c.take_row.new.input) c.in-Err-take_row.fault
          (c.in-Ok-Word.ensures.reported.unfailed ∙ (c.in-Ok-true.ensures.reported.unfailed ∙ c.loop-fault.invariant.unfailed))
          (λ n e. subst (λ (w : List ℕ). TakesRow w n i.offered r.0 c.next_heading.new.intake c.take_row.new.intake (g.I.Source.left c.next_heading.new.input) (g.I.Source.left c.take_row.new.input) (g.I.Source.faults c.next_heading.new.input) (g.I.Source.faults c.take_row.new.input) (Err c.in-Err-take_row.fault)) c.as_slice.ensures.value (r.2 n e)),
    )

pub returns-in-Err-take_row-clause-reported : goal.returns-in-Err-take_row-clause-reported
returns-in-Err-take_row-clause-reported g c =
    fault_reported _ _ _ c.in-Err-take_row.fault (c.in-Ok-Word.ensures.reported.unfailed ∙ (c.in-Ok-true.ensures.reported.unfailed ∙ c.loop-fault.invariant.unfailed)) c.in-Err-take_row.ensures.reported

pub loop-fault-preserved : goal.loop-fault-preserved
loop-fault-preserved g c =
    let i = c.loop-fault.invariant in
    let t = i.taken in
    let name = c.next_heading.new.out.items in
    let asked = rw c.in-Ok-true.field-0-test at c.in-Ok-true.ensures.asked in
    let h = heading_now (option_copied c.last_word.result) i.offered c.goes_on.new.self c.next_heading.new.intake (g.I.Source.left c.goes_on.new.input) (g.I.Source.left c.next_heading.new.input) (g.I.Source.faults c.goes_on.new.input) (g.I.Source.faults c.next_heading.new.input) name (prefixes.Word c.in-Ok-Word.many) (c.last_word.ensures c.args.taker.now i.offered i.kept) (rw c.in-Ok-Word.field-0-is at c.in-Ok-Word.ensures.taken) in
    let r = c.in-Ok.ensures.taken c.args.taker.now i.offered i.kept t.hits in
    record {
      offered = r.0;
      kept = r.1;
      taken = rows_next t c.goes_on.new.self c.next_heading.new.intake (g.I.Source.left c.goes_on.new.input) (g.I.Source.left c.next_heading.new.input) (g.I.Source.faults c.loop-fault.input) (g.I.Source.faults c.goes_on.new.input) asked name h.0 h.2 h.3 c.in-Ok-Word.many h.1 r.0 c.take_row.new.intake (g.I.Source.left c.take_row.new.input) (g.I.Source.faults c.next_heading.new.input) (g.I.Source.faults c.take_row.new.input)
          (λ n e. subst (λ (w : List ℕ). TakesRow w n i.offered r.0 c.next_heading.new.intake c.take_row.new.intake (g.I.Source.left c.next_heading.new.input) (g.I.Source.left c.take_row.new.input) (g.I.Source.faults c.next_heading.new.input) (g.I.Source.faults c.take_row.new.input) (Ok tt)) c.as_slice.ensures.value (r.2 n e));
      unfailed = c.in-Ok.ensures.reported.unfailed ∙ (c.in-Ok-Word.ensures.reported.unfailed ∙ (c.in-Ok-true.ensures.reported.unfailed ∙ c.loop-fault.invariant.unfailed));
    }

pub loop-fault-smaller : goal.loop-fault-smaller
loop-fault-smaller g c =
    let i = c.loop-fault.invariant in
    let t = i.taken in
    let name = c.next_heading.new.out.items in
    let asked = rw c.in-Ok-true.field-0-test at c.in-Ok-true.ensures.asked in
    let h = heading_now (option_copied c.last_word.result) i.offered c.goes_on.new.self c.next_heading.new.intake (g.I.Source.left c.goes_on.new.input) (g.I.Source.left c.next_heading.new.input) (g.I.Source.faults c.goes_on.new.input) (g.I.Source.faults c.next_heading.new.input) name (prefixes.Word c.in-Ok-Word.many) (c.last_word.ensures c.args.taker.now i.offered i.kept) (rw c.in-Ok-Word.field-0-is at c.in-Ok-Word.ensures.taken) in
    let r = c.in-Ok.ensures.taken c.args.taker.now i.offered i.kept t.hits in
    row_smaller t c.goes_on.new.self c.next_heading.new.intake (g.I.Source.left c.goes_on.new.input) (g.I.Source.left c.next_heading.new.input) (g.I.Source.faults c.loop-fault.input) (g.I.Source.faults c.goes_on.new.input) asked name h.0 h.2 h.3 c.in-Ok-Word.many h.1 r.0 c.take_row.new.intake (g.I.Source.left c.take_row.new.input) (g.I.Source.faults c.next_heading.new.input) (g.I.Source.faults c.take_row.new.input)
    (λ n e. subst (λ (w : List ℕ). TakesRow w n i.offered r.0 c.next_heading.new.intake c.take_row.new.intake (g.I.Source.left c.next_heading.new.input) (g.I.Source.left c.take_row.new.input) (g.I.Source.faults c.next_heading.new.input) (g.I.Source.faults c.take_row.new.input) (Ok tt)) c.as_slice.ensures.value (r.2 n e))

pub take_paths-requires : goal.take_paths-requires
take_paths-requires g c =
    let i = c.loop-fault.invariant in
    let t = i.taken in
    let name = c.next_heading.new.out.items in
    let asked = rw c.in-Ok-true.field-0-test at c.in-Ok-true.ensures.asked in
    let h = heading_now (option_copied c.last_word.result) i.offered c.goes_on.new.self c.next_heading.new.intake (g.I.Source.left c.goes_on.new.input) (g.I.Source.left c.next_heading.new.input) (g.I.Source.faults c.goes_on.new.input) (g.I.Source.faults c.next_heading.new.input) name prefixes.Skipped (c.last_word.ensures c.args.taker.now i.offered i.kept) (rw c.in-Ok-Skipped.field-0-is at c.in-Ok-Skipped.ensures.taken) in
    let kept = subst (λ (p : List ℕ). g.T.Taker.keeps c.args.taker.now (with_skipped p i.offered) c.skip.new.self) c.deref.ensures.value (c.in-Ok-skip.ensures c.args.taker.now i.offered i.kept) in
    record { before = (c.args.taker.now, with_skipped name i.offered, kept, first_skipped t c.goes_on.new.self c.next_heading.new.intake (g.I.Source.left c.goes_on.new.input) (g.I.Source.left c.next_heading.new.input) (g.I.Source.faults c.loop-fault.input) (g.I.Source.faults c.goes_on.new.input) asked name h.0 h.2 h.3 h.1 (with_skipped name i.offered) refl) }

pub returns-in-Ok-Skipped-clause-taken : goal.returns-in-Ok-Skipped-clause-taken
returns-in-Ok-Skipped-clause-taken g c =
    let i = c.loop-fault.invariant in
    let t = i.taken in
    let name = c.next_heading.new.out.items in
    let asked = rw c.in-Ok-true.field-0-test at c.in-Ok-true.ensures.asked in
    let h = heading_now (option_copied c.last_word.result) i.offered c.goes_on.new.self c.next_heading.new.intake (g.I.Source.left c.goes_on.new.input) (g.I.Source.left c.next_heading.new.input) (g.I.Source.faults c.goes_on.new.input) (g.I.Source.faults c.next_heading.new.input) name prefixes.Skipped (c.last_word.ensures c.args.taker.now i.offered i.kept) (rw c.in-Ok-Skipped.field-0-is at c.in-Ok-Skipped.ensures.taken) in
    let kept = subst (λ (p : List ℕ). g.T.Taker.keeps c.args.taker.now (with_skipped p i.offered) c.skip.new.self) c.deref.ensures.value (c.in-Ok-skip.ensures c.args.taker.now i.offered i.kept) in
    let path = first_skipped t c.goes_on.new.self c.next_heading.new.intake (g.I.Source.left c.goes_on.new.input) (g.I.Source.left c.next_heading.new.input) (g.I.Source.faults c.loop-fault.input) (g.I.Source.faults c.goes_on.new.input) asked name h.0 h.2 h.3 h.1 (with_skipped name i.offered) refl in
    let p = c.take_paths.ensures.taken c.args.taker.now (with_skipped name i.offered) kept path in (
      p.0,
      p.1,
      rows_last t c.goes_on.new.self c.next_heading.new.intake (g.I.Source.left c.goes_on.new.input) (g.I.Source.left c.next_heading.new.input) (g.I.Source.faults c.loop-fault.input) (g.I.Source.faults c.goes_on.new.input) asked name h.0 h.2 h.3 h.1 (with_skipped name i.offered) refl p.0 c.take_paths.new.intake (g.I.Source.left c.take_paths.new.input) (g.I.Source.faults c.args.input.now) (g.I.Source.faults c.next_heading.new.input) (g.I.Source.faults c.take_paths.new.input) c.take_paths.result
          (c.in-Ok-Skipped.ensures.reported.unfailed ∙ (c.in-Ok-true.ensures.reported.unfailed ∙ c.loop-fault.invariant.unfailed)) p.2,
    )

pub returns-in-Ok-Skipped-clause-reported : goal.returns-in-Ok-Skipped-clause-reported
returns-in-Ok-Skipped-clause-reported g c =
    then_reported _ _ _ c.take_paths.result (c.in-Ok-Skipped.ensures.reported.unfailed ∙ (c.in-Ok-true.ensures.reported.unfailed ∙ c.loop-fault.invariant.unfailed)) c.take_paths.ensures.reported

pub returns-in-Err-next_heading-clause-taken : goal.returns-in-Err-next_heading-clause-taken
returns-in-Err-next_heading-clause-taken g c =
    let i = c.loop-fault.invariant in
    let asked = rw c.in-Ok-true.field-0-test at c.in-Ok-true.ensures.asked in
    let h = subst (λ (l : Option (List ℕ)). OrMemory (IsStuck (heading_at l) c.goes_on.new.self.lines (room_of c.goes_on.new.self) (rest_of c.goes_on.new.self (g.I.Source.left c.goes_on.new.input)) (g.I.Source.left c.next_heading.new.input) (g.I.Source.faults c.goes_on.new.input) (g.I.Source.faults c.next_heading.new.input)) c.in-Err-next_heading.fault) (c.last_word.ensures c.args.taker.now i.offered i.kept) c.in-Err-next_heading.ensures.taken in
    (i.offered, tt, rows_stop i.taken c.goes_on.new.self (g.I.Source.left c.goes_on.new.input) (g.I.Source.left c.next_heading.new.input) (g.I.Source.faults c.args.input.now) (g.I.Source.faults c.loop-fault.input) (g.I.Source.faults c.goes_on.new.input) (g.I.Source.faults c.next_heading.new.input) c.in-Err-next_heading.fault asked i.unfailed c.in-Ok-true.ensures.reported.unfailed h)

pub returns-in-Err-next_heading-clause-reported : goal.returns-in-Err-next_heading-clause-reported
returns-in-Err-next_heading-clause-reported g c = fault_reported _ _ _ c.in-Err-next_heading.fault (c.in-Ok-true.ensures.reported.unfailed ∙ c.loop-fault.invariant.unfailed) c.in-Err-next_heading.ensures.reported

pub returns-in-Err-skip-clause-taken : goal.returns-in-Err-skip-clause-taken
returns-in-Err-skip-clause-taken g c = (nothing, tt, tt)
