use Rattle.std.proofs.Common.{refl}
use Rattle.std.specs.Option.{option_copied}
use Rattle.index_text.proofs.LineCodes.{skipped_code}
use Rattle.index_text.proofs.States.{skipped_grammar}
use Rattle.index_text.proofs.Stopping.{rest_shorter, passed, used_some, used_within}
use Rattle.index_text.proofs.next.try_skipped.Goals as goal

pub overflow_sub-used : goal.overflow_sub-used
overflow_sub-used c = rest_shorter (skipped_code (option_copied c.args.last) c.requires) c.bytes-bytes.result.now c.args.intake.now.window c.in-Ok.rest.now c.skipped_line.new.out.items c.bytes-bytes.ensures c.in-Ok.ensures

pub pass_line-requires-clause-some : goal.pass_line-requires-clause-some
pass_line-requires-clause-some c = used_some (skipped_code (option_copied c.args.last) c.requires) c.bytes-bytes.result.now c.args.intake.now.window c.in-Ok.rest.now c.skipped_line.new.out.items c.bytes-bytes.ensures c.in-Ok.ensures (skipped_grammar (option_copied c.args.last) c.requires).lines

pub pass_line-requires-clause-within : goal.pass_line-requires-clause-within
pass_line-requires-clause-within c = used_within (skipped_code (option_copied c.args.last) c.requires) c.bytes-bytes.result.now c.args.intake.now.window c.in-Ok.rest.now c.skipped_line.new.out.items c.bytes-bytes.ensures c.in-Ok.ensures

pub returns : goal.returns
returns c =
    let p = c.pass_line.ensures in
    (c.skipped_line.new.out.items, refl, passed (skipped_code (option_copied c.args.last) c.requires) c.bytes-bytes.result.now c.args.intake.now.window c.in-Ok.rest.now c.skipped_line.new.out.items c.bytes-bytes.ensures c.in-Ok.ensures c.pass_line.new.self.window p.window, p.lines, p.given, p.budget)
