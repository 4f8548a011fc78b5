use Rattle.std.proofs.Common.{arith, ap, length, length-append}
use Rattle.std.specs.Option.{option_copied}
use Rattle.index_text.proofs.LineCodes.{hit_prefix_code, prefix_text}
use Rattle.index_text.proofs.Begun.{awaits_map, hit_begun}
use Rattle.index_text.proofs.long.await_hit.Goals as goal

pub overflow_sub-start : goal.overflow_sub-start
overflow_sub-start g c =
    let f = hit_prefix_code.found c.bytes-bytes.result.now c.in-Ok.rest.now (c.in-Ok.field-0-0, c.in-Ok.field-0-1) c.in-Ok.ensures in
    omega (arith, ap length f.1, length-append (prefix_text (c.in-Ok.field-0-0, c.in-Ok.field-0-1)) c.in-Ok.rest.now)

pub returns-clause-awaits : goal.returns-clause-awaits
returns-clause-awaits g c =
    awaits_map (hit_begun (option_copied c.args.last) c.requires c.bytes-bytes.result.now c.args.intake.now.window c.in-Ok.rest.now c.bytes-bytes.ensures (c.in-Ok.field-0-0, c.in-Ok.field-0-1) c.in-Ok.ensures)
    c.args.intake.now c.await_path.new.intake (g.I.Source.left c.args.input.now) (g.I.Source.left c.await_path.new.input) (g.I.Source.faults c.args.input.now) (g.I.Source.faults c.await_path.new.input)
    c.await_path.result c.await_path.ensures.awaits
