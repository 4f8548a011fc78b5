use Rattle.std.proofs.Common.{◌++◌}
use Rattle.std.specs.Prelude.{codes, decimal}
use Rattle.text_output.specs.Paths.{newline}
use Rattle.text_output.proofs.Prefixes.{fails_then, sends_then}
use Rattle.text_output.proofs.Pieces.{prefix_of_two, puts_failed, puts_then}
use Rattle.command_jobs.proofs.lines.put_line.Goals as goal

pub returns-in_err-put_with_number-2-clause-text : goal.returns-in_err-put_with_number-2-clause-text
returns-in_err-put_with_number-2-clause-text g c =
    let reported = g.O.Sink.held c.args.out.now in
    let held = c.args.held.now.items in
    let place = decimal c.args.place in
    let value = codes " " ++ decimal c.args.value in
    puts_failed c.from_residual-in_err-put_with_number-2.result reported _ held _ _ c.from_residual-in_err-put_with_number-2.ensures.0
    (prefix_of_two reported _ held (place ++ value) newline
    (fails_then reported (g.O.Sink.held c.put_with_number.new.out) _ held c.put_with_number.new.held.items place value c.in_ok-put_with_number.ensures.text c.in_err-put_with_number-2.ensures.text))

pub returns-clause-text : goal.returns-clause-text
returns-clause-text g c =
    let reported = g.O.Sink.held c.args.out.now in
    let held = c.args.held.now.items in
    let place = decimal c.args.place in
    let value = codes " " ++ decimal c.args.value in
    puts_then c.put.result reported (g.O.Sink.held c.put_with_number-2.new.out) _ held c.put_with_number-2.new.held.items _ (place ++ value) newline
    (sends_then reported (g.O.Sink.held c.put_with_number.new.out) _ held c.put_with_number.new.held.items _ place value c.in_ok-put_with_number.ensures.text c.in_ok-put_with_number-2.ensures.text) c.put.ensures.text
