use Rattle.std.proofs.Common.{◌<◌, ◌++◌, ℕ, List, length, sym, subst, arith}
use Rattle.std.specs.List.{enumerate_from, flat_map}
use Rattle.firefly_outside.specs.Causes.{AppendsPrefix}
use Rattle.text_output.specs.Sent.{Sends}
use Rattle.text_output.proofs.Pieces.{puts_failed, sends_more, fails_more, cause_on}
use Rattle.command_jobs.specs.Lines.{value_line}
use Rattle.command_jobs.proofs.Places.{all_places, at_place, is_there}
use Rattle.command_jobs.proofs.lines.put_lines.Goals as goal

pub returns-in_err-put_line-clause-text : goal.returns-in_err-put_line-clause-text
returns-in_err-put_line-clause-text g c =
    let values = c.args.values.now in
    let i = c.loop-place.place in
    let here : i < length values = omega arith in
    let Fails : ℕ × ℕ → Type 0 = λ x. AppendsPrefix (g.O.Sink.held c.loop-place.out) (g.O.Sink.held c.put_line.new.out) (c.loop-place.held.items ++ value_line x) in
    puts_failed c.from_residual.result (g.O.Sink.held c.args.out.now) _ c.args.held.now.items _ _ c.from_residual.ensures.0
    (fails_more value_line (enumerate_from 0 values) i (0, 0) (is_there values i here) _ _ _ _ _ c.loop-place.invariant.sent (subst Fails (sym (at_place values i (0, 0) here)) c.in_err-put_line.ensures.text))

pub returns-in_err-put_line-clause-cause : goal.returns-in_err-put_line-clause-cause
returns-in_err-put_line-clause-cause g c = cause_on c.from_residual.result c.loop-place.invariant.later c.in_err-put_line.ensures.cause

pub loop-place-preserved : goal.loop-place-preserved
loop-place-preserved g c =
    let values = c.args.values.now in
    let i = c.loop-place.place in
    let here : i < length values = omega arith in
    let Sent : ℕ × ℕ → Type 0 = λ x. Sends (g.O.Sink.held c.loop-place.out) c.loop-place.held.items (value_line x) (g.O.Sink.held c.put_line.new.out) c.put_line.new.held.items in
    record {
      sent = sends_more value_line (enumerate_from 0 values) i (0, 0) (is_there values i here) _ _ _ _ _ c.loop-place.invariant.sent _ (subst Sent (sym (at_place values i (0, 0) here)) c.in_ok-put_line.ensures.text);
      later = omega (arith, c.loop-place.invariant.later, c.in_ok-put_line.ensures.cause.later);
    }

pub returns-clause-text : goal.returns-clause-text
returns-clause-text g c =
    let values = c.args.values.now in
    let Sent : List (ℕ × ℕ) → Type 0 = λ xs. Sends (g.O.Sink.held c.args.out.now) c.args.held.now.items (flat_map value_line xs) (g.O.Sink.held c.loop-place.out) c.loop-place.held.items in
    subst Sent (all_places values c.loop-place.place c.loop-place-test.false) c.loop-place.invariant.sent
