use Rattle.std.proofs.Common.{◌≡◌, ◌-◌, ◌≤◌, ℕ, List, arith, ap, subst, refl, length, take, drop, Err}
use Rattle.std.specs.Option.{option_copied}
use Rattle.exact_text.specs.declared.stop.Stop.TheVariants as stops
use Rattle.index_text.specs.declared.fault.Stop.TheVariants.{More}
use Rattle.index_text.specs.Lines.{path_at}
use Rattle.index_text.specs.Long.{IsCut, Settles}
use Rattle.index_text.proofs.Stopping.{waits_on}
use Rattle.index_text.proofs.Begun.{some_is, held, known, left_ok, read_on, read_cuts, awaits_stopped}
use Rattle.index_text.proofs.long.await_path.Goals as goal

pub loop-end-preserved : goal.loop-end-preserved
loop-end-preserved g c =
    let w = c.loop-end.invariant in
    let mid = c.loop-end.intake in
    let new = c.after_stop.new.intake in
    let at = c.loop-end.at in
    let end = c.in-Ok-Some.end in
    let above = option_copied c.loop-end.above in
    let left = option_copied c.in-Ok-Some.left in
    let goes = c.in-Ok.ensures.goes_on in
    let bounds = some_is _ c.in-Ok-Some.field-0 (end, c.in-Ok-Some.left) c.in-Ok-Some.field-0-is c.in-Ok-Some.ensures.within in
    let settled = subst (λ (b : List ℕ). Settles above (take (end - at) (drop at b)) left) c.bytes.ensures (some_is _ c.in-Ok-Some.field-0 (end, c.in-Ok-Some.left) c.in-Ok-Some.field-0-is c.in-Ok-Some.ensures.settled) in
    let inside : end ≤ length mid.window = omega (arith, bounds.1, ap length c.bytes.ensures) in
    let first = g.I.Source.left c.args.input.now in
    let before = g.I.Source.left c.loop-end.input in
    let there = g.I.Source.left c.after_stop.new.input in
    let later = g.I.Source.faults c.after_stop.new.input in
    let same = known (take end new.window ≡ take end mid.window) first before c.args.intake.now.window mid.window w.waits.rest (held mid new before there (g.I.Source.faults c.loop-end.input) later end inside goes) in
    record {
      waits = waits_on w.waits mid new there later More refl goes c.in-Ok.ensures.reported.unfailed;
      within = omega (arith, inside, goes.1.1, goes.1.2, goes.1.0.0, mid.within, new.within);
      last = left_ok above left (take (end - at) (drop at mid.window)) w.last settled;
      read = read_on (option_copied c.args.last) (take c.args.start c.args.intake.now.window) at above mid.window first w.read left end bounds.0 settled new.window same;
    }

pub returns-in-Err-after_stop-clause-awaits : goal.returns-in-Err-after_stop-clause-awaits
returns-in-Err-after_stop-clause-awaits g c =
    let w = c.loop-end.invariant in
    let mid = c.loop-end.intake in
    let above = option_copied c.loop-end.above in
    let last = option_copied c.args.last in
    let head = take c.args.start c.args.intake.now.window in
    let asks = subst (λ (b : List ℕ). path_at above (drop c.loop-end.at b) ≡ Err stops.More) c.bytes.ensures (some_is _ c.in-Ok-Some.field-0 (c.in-Ok-Some.end, c.in-Ok-Some.left) c.in-Ok-Some.field-0-is c.in-Ok-Some.ensures.begun) in
    let first = g.I.Source.left c.args.input.now in
    awaits_stopped (IsCut last head) c.args.intake.now mid c.after_stop.new.intake first (g.I.Source.left c.loop-end.input) (g.I.Source.left c.after_stop.new.input)
    (g.I.Source.faults c.args.input.now) (g.I.Source.faults c.loop-end.input) (g.I.Source.faults c.after_stop.new.input) c.in-Err-after_stop.fault
    w.waits (read_cuts last head c.loop-end.at above mid.window first w.read w.last asks) c.in-Err-after_stop.ensures.goes_on
