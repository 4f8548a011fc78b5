use Rattle.std.proofs.Common.{◌+◌, get_or, ap, ◌∙◌}
use Rattle.script_search.proofs.Planning.{no_line}
use Rattle.script_search.specs.Boards.{moment_of, scene_of, spec_of}
use Rattle.command_explore.specs.Waits.{at_text}
use Rattle.command_explore.proofs.Reporting.{stands_at, stands_after}
use Rattle.command_explore.proofs.report.stands.Goals as goal

pub returns-in-Some : goal.returns-in-Some
returns-in-Some c =
    let m = moment_of c.args.board.now in
    let k = c.in-Some.ensures in
    c.at_line.ensures
    ∙ (ap (λ n. at_text (spec_of m) c.args.numbers.now c.args.thread (n + c.in-Some.place + 1) (get_or c.args.lines.now c.in-Some.place no_line).operation) c.head.ensures
    ∙ stands_at c.args.layout.now c.args.lines.now c.args.numbers.now (scene_of m) c.args.thread c.args.played c.in-Some.place c.requires.played no_line k.2.0 k.2.1 k.0 k.1 k.2.2 k.2.3)

pub returns-in-None : goal.returns-in-None
returns-in-None c =
    let m = moment_of c.args.board.now in
    c.after_last.ensures ∙ stands_after c.args.layout.now c.args.lines.now c.args.numbers.now (scene_of m) c.args.thread c.args.played 0 c.requires.played c.in-None.ensures
