use Rattle.std.proofs.Common.{map, rules}
use Rattle.script_run.specs.Slots.{AreOver, slot_number}
use Rattle.script_run.proofs.Pieces.{over_parts, over_at}
use Rattle.script_run.proofs.forked.+fn-play_all-join_mut+arg2+fn-play_all-join_mut+arg3+play_all.Goals as goal

pub returns : goal.returns
returns g t c =
    let p = c.args.stage.now.pkg.now in
    let xs = c.args.stage.now.lines.now in
    let cut = c.cut_in_two-cut in
    let parts = c.split_at_mut-first in
    let first : AreOver p xs (map slot_number parts.result.0.now) c.first-2-1.given.0 = search rules in
    let rest : AreOver p xs (map slot_number parts.result.1.now) c.rest-1.given.0 = search rules in
    over_parts p xs c.args.slots.now cut.new.slots parts.result.0.now parts.result.1.now c.first-2-1.given.0 c.rest-1.given.0 cut.result.at cut.ensures.numbers parts.ensures.front parts.ensures.back first rest

pub returns-then-cut-gt0 : goal.returns-then-cut-gt0
returns-then-cut-gt0 g t c =
    let p = c.args.stage.now.pkg.now in
    let xs = c.args.stage.now.lines.now in
    let cut = c.cut_in_two-cut in
    let parts = c.split_at_mut-first in
    over_parts p xs c.args.slots.now cut.new.slots parts.result.0.now parts.result.1.now c.play_all.new.slots parts.result.1.now cut.result.at cut.ensures.numbers parts.ensures.front parts.ensures.back c.play_all.ensures
    (over_at p xs cut.result.is_rest_over cut.new.slots parts.result.1.now cut.result.at c.if-cut.true parts.ensures.back cut.ensures.rest)
