use Rattle.std.proofs.Common.{◌∷◌, [], ◌++◌, length, ap, arith, length-append}
use Rattle.std.specs.Option.{option_copied}
use Rattle.index_text.proofs.WordCode.{key_code}
use Rattle.index_text.proofs.Begun.{awaits_map, count_begun, heading_begun}
use Rattle.index_text.proofs.long.await_heading.Goals as goal

pub returns-in-Err-clause-awaits : goal.returns-in-Err-clause-awaits
returns-in-Err-clause-awaits g c =
    awaits_map (heading_begun (option_copied c.args.last) c.requires) c.args.intake.now c.await_skipped.new.intake (g.I.Source.left c.args.input.now) (g.I.Source.left c.await_skipped.new.input)
    (g.I.Source.faults c.args.input.now) (g.I.Source.faults c.await_skipped.new.input) c.await_skipped.result c.await_skipped.ensures.awaits

pub overflow_sub-start : goal.overflow_sub-start
overflow_sub-start g c =
    let w = c.in-Ok.field-0-0.now in
    let f = (key_code (option_copied c.args.last) c.requires).found c.bytes-bytes.result.now c.in-Ok.rest.now w c.in-Ok.ensures in
    omega (arith, ap length f.1, length-append (w ++ 32 ∷ []) c.in-Ok.rest.now)

pub returns-clause-awaits : goal.returns-clause-awaits
returns-clause-awaits g c =
    awaits_map (count_begun (option_copied c.args.last) c.requires c.bytes-bytes.result.now c.args.intake.now.window c.in-Ok.field-0-0.now c.in-Ok.rest.now c.bytes-bytes.ensures c.in-Ok.ensures)
    c.args.intake.now c.await_count.new.intake (g.I.Source.left c.args.input.now) (g.I.Source.left c.await_count.new.input) (g.I.Source.faults c.args.input.now) (g.I.Source.faults c.await_count.new.input)
    c.await_count.result c.await_count.ensures.awaits
