use Rattle.std.proofs.Common.{◌≡◌, ◌∙◌, ◌-◌, ℕ, List, arith, ap, subst, refl, length, take, drop, Err}
use Rattle.std.proofs.lemmas.List.{take_all}
use Rattle.exact_text.specs.declared.stop.Stop.TheVariants as stops
use Rattle.exact_text.specs.Reading.{as_value}
use Rattle.index_text.specs.declared.fault.Stop.TheVariants.{More}
use Rattle.index_text.specs.Numerals.{capped, numeral_at}
use Rattle.index_text.specs.Steps.{Stops}
use Rattle.index_text.specs.Long.{IsCounted}
use Rattle.index_text.proofs.Bytes.{slice_after}
use Rattle.index_text.proofs.LineReads.{under_stops}
use Rattle.index_text.proofs.Numerals.{Digits}
use Rattle.index_text.proofs.Stopping.{waits, waits_on}
use Rattle.index_text.proofs.Begun.{held, known, counted_first, counted_on, counted_held, awaits_stopped}
use Rattle.index_text.proofs.long.await_count.Goals as goal

pub loop-bytes-init : goal.loop-bytes-init
loop-bytes-init g c =
    let bytes = c.bytes-bytes.result.now in
    let start = c.args.start in
    let window = c.args.intake.now.window in
    let same = c.bytes-bytes.ensures in
    let rest = take (length bytes - start) (drop start bytes) in
    let asks = under_stops capped (numeral_at 10) rest More (subst (Stops (as_value capped (numeral_at 10) rest)) c.in-Err-More.field-0-is c.in-Err-More.ensures) in
    let more = subst (λ (b : List ℕ). numeral_at 10 b ≡ Err stops.More) (slice_after bytes start ∙ ap (drop start) same) asks in
    record {
      waits = waits c.args.intake.now (g.I.Source.left c.args.input.now) (g.I.Source.faults c.args.input.now);
      begun = omega (arith, c.requires, ap length same);
      within = omega (arith, ap length same);
      counted = counted_first start (length bytes) window (ap length same) more (g.I.Source.left c.args.input.now);
    }

pub loop-bytes-preserved : goal.loop-bytes-preserved
loop-bytes-preserved g c =
    let w = c.loop-bytes.invariant in
    let mid = c.loop-bytes.intake in
    let new = c.after_stop.new.intake in
    let at = c.loop-bytes.at in
    let bytes = c.bytes-bytes-in-loop-bytes.result.now in
    let same = c.bytes-bytes-in-loop-bytes.ensures in
    let end = length bytes in
    let rest = take (length bytes - at) (drop at bytes) in
    let digits = subst Digits (slice_after bytes at ∙ ap (drop at) same) (subst Digits (take_all c.digits_end.result rest (omega arith)) c.digits_end.ensures.digits) in
    let goes = c.in-Ok-after_stop.ensures.goes_on in
    let first = g.I.Source.left c.args.input.now in
    let before = g.I.Source.left c.loop-bytes.input in
    let there = g.I.Source.left c.after_stop.new.input in
    let later = g.I.Source.faults c.after_stop.new.input in
    let kept = known (take end new.window ≡ take end mid.window) first before c.args.intake.now.window mid.window w.waits.rest (held mid new before there (g.I.Source.faults c.loop-bytes.input) later end (omega (arith, ap length same)) goes) in
    let counted = counted_on c.args.start at c.args.intake.now.window mid.window w.begun w.within first w.counted digits in
    record {
      waits = waits_on w.waits mid new there later More refl goes c.in-Ok-after_stop.ensures.reported.unfailed;
      begun = omega (arith, w.begun, w.within, ap length same);
      within = omega (arith, ap length same, goes.1.1, goes.1.2, goes.1.0.0, mid.within, new.within);
      counted = counted_held c.args.start end c.args.intake.now.window mid.window new.window first (ap length same) counted kept;
    }

pub returns-in-Err-clause-awaits : goal.returns-in-Err-clause-awaits
returns-in-Err-clause-awaits g c =
    let w = c.loop-bytes.invariant in
    let mid = c.loop-bytes.intake in
    let at = c.loop-bytes.at in
    let bytes = c.bytes-bytes-in-loop-bytes.result.now in
    let same = c.bytes-bytes-in-loop-bytes.ensures in
    let rest = take (length bytes - at) (drop at bytes) in
    let digits = subst Digits (slice_after bytes at ∙ ap (drop at) same) (subst Digits (take_all c.digits_end.result rest (omega arith)) c.digits_end.ensures.digits) in
    let first = g.I.Source.left c.args.input.now in
    awaits_stopped (IsCounted c.args.start c.args.intake.now.window) c.args.intake.now mid c.after_stop.new.intake first (g.I.Source.left c.loop-bytes.input) (g.I.Source.left c.after_stop.new.input)
    (g.I.Source.faults c.args.input.now) (g.I.Source.faults c.loop-bytes.input) (g.I.Source.faults c.after_stop.new.input) c.in-Err.fault
    w.waits (counted_on c.args.start at c.args.intake.now.window mid.window w.begun w.within first w.counted digits) c.in-Err.ensures.goes_on
