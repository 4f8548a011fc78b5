use Rattle.std.proofs.Common.{◌<◌, length, ap, sym, ◌∙◌, arith}
use Rattle.script_search.specs.Boards.{moment_of, scene_of, life_of}
use Rattle.script_search.proofs.Shown.{played_is}
use Rattle.command_explore.specs.Waits.{life_text}
use Rattle.command_explore.proofs.Reporting.{life_is, lives}
use Rattle.command_explore.proofs.report.line_of.Goals as goal

pub stands-requires-clause-played : goal.stands-requires-clause-played
stands-requires-clause-played c =
    let low : c.args.thread < length c.args.board.now.threads.items = omega (arith, c.args.board.now.threads.ok.0) in
    sym (played_is (moment_of c.args.board.now) c.args.thread low c.index-found.result.now c.index-found.ensures)

pub returns-in-Unborn : goal.returns-in-Unborn
returns-in-Unborn c =
    let m = moment_of c.args.board.now in
    let low : c.args.thread < length c.args.board.now.threads.items = omega (arith, c.args.board.now.threads.ok.0) in
    let life = life_is m c.args.thread low c.index-found.result.now c.index-found.ensures ∙ ap life_of c.in-Unborn.is in
    c.unborn.ensures ∙ ap (life_text c.args.layout.now c.args.lines.now c.args.numbers.now (scene_of m) c.args.thread) (sym life)

pub returns-in-Ended : goal.returns-in-Ended
returns-in-Ended c =
    let m = moment_of c.args.board.now in
    let low : c.args.thread < length c.args.board.now.threads.items = omega (arith, c.args.board.now.threads.ok.0) in
    let life = life_is m c.args.thread low c.index-found.result.now c.index-found.ensures ∙ ap life_of c.in-Ended.is in
    c.nothing.ensures ∙ ap (life_text c.args.layout.now c.args.lines.now c.args.numbers.now (scene_of m) c.args.thread) (sym life)

pub returns-in_default : goal.returns-in_default
returns-in_default c =
    let m = moment_of c.args.board.now in
    let low : c.args.thread < length c.args.board.now.threads.items = omega (arith, c.args.board.now.threads.ok.0) in
    let life = life_is m c.args.thread low c.index-found.result.now c.index-found.ensures ∙ lives c.index-found.result.now.place c.in_default.not-Unborn c.in_default.not-Ended in
    c.stands.ensures ∙ ap (life_text c.args.layout.now c.args.lines.now c.args.numbers.now (scene_of m) c.args.thread) (sym life)
