use Rattle.std.specs.Option.{option_copied}
use Rattle.index_text.proofs.Begun.{awaits_map, skipped_begun}
use Rattle.index_text.proofs.long.await_skipped.Goals as goal

pub returns-clause-awaits : goal.returns-clause-awaits
returns-clause-awaits g c =
    awaits_map (skipped_begun (option_copied c.args.last) c.requires c.bytes-bytes.result.now c.args.intake.now.window c.in-Ok.rest.now c.bytes-bytes.ensures c.in-Ok.ensures)
    c.args.intake.now c.await_path.new.intake (g.I.Source.left c.args.input.now) (g.I.Source.left c.await_path.new.input) (g.I.Source.faults c.args.input.now) (g.I.Source.faults c.await_path.new.input)
    c.await_path.result c.await_path.ensures.awaits
