use Rattle.std.proofs.Common.{refl, []}
use Rattle.std.specs.Option.{option_copied}
use Rattle.index_text.specs.Lines.{hit_from}
use Rattle.index_text.proofs.LineCodes.{hit_code}
use Rattle.index_text.proofs.States.{hits_grammar}
use Rattle.index_text.proofs.Stopping.{rest_shorter, passed, used_some, used_within}
use Rattle.index_text.proofs.next.try_hit.Goals as goal

pub overflow_sub-used : goal.overflow_sub-used
overflow_sub-used c = rest_shorter (hit_code (option_copied c.args.last) c.requires) c.bytes-bytes.result.now c.args.intake.now.window c.in-Ok.rest.now (hit_from (c.in-Ok.figures, c.hit.new.out.items)) c.bytes-bytes.ensures c.in-Ok.ensures

pub pass_line-requires-clause-some : goal.pass_line-requires-clause-some
pass_line-requires-clause-some c = used_some (hit_code (option_copied c.args.last) c.requires) c.bytes-bytes.result.now c.args.intake.now.window c.in-Ok.rest.now (hit_from (c.in-Ok.figures, c.hit.new.out.items)) c.bytes-bytes.ensures c.in-Ok.ensures (hits_grammar [] 0 (option_copied c.args.last) c.requires).lines

pub pass_line-requires-clause-within : goal.pass_line-requires-clause-within
pass_line-requires-clause-within c = used_within (hit_code (option_copied c.args.last) c.requires) c.bytes-bytes.result.now c.args.intake.now.window c.in-Ok.rest.now (hit_from (c.in-Ok.figures, c.hit.new.out.items)) c.bytes-bytes.ensures c.in-Ok.ensures

pub returns : goal.returns
returns c =
    let p = c.pass_line.ensures in
    ((hit_from (c.in-Ok.figures, c.hit.new.out.items)), refl, passed (hit_code (option_copied c.args.last) c.requires) c.bytes-bytes.result.now c.args.intake.now.window c.in-Ok.rest.now (hit_from (c.in-Ok.figures, c.hit.new.out.items)) c.bytes-bytes.ensures c.in-Ok.ensures c.pass_line.new.self.window p.window, p.lines, p.given, p.budget)
