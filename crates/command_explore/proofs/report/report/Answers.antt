use Rattle.std.proofs.Common.{◌≡◌, ◌<◌, length, ap, sym, ◌∙◌, arith}
use Rattle.std.specs.String.{string_bytes}
use Rattle.larch_actions.specs.declared.event.Layout.{Layout}
use Rattle.script_search.specs.Boards.{moment_of, scene_of}
use Rattle.command_explore.specs.Messages.{stuck_line}
use Rattle.command_explore.proofs.Reporting.{one_line_more, all_lines}
use Rattle.command_explore.proofs.report.report.Goals as goal

pub line_of-line-requires : goal.line_of-line-requires
line_of-line-requires c = omega (arith, c.requires.threads, ap (λ (l : Layout). l.threads) c.layout-layout.ensures.layout, c.args.stuck.now.board.threads.ok.0)

pub loop-thread-preserved : goal.loop-thread-preserved
loop-thread-preserved c =
    one_line_more c.layout-layout.result c.lines-lines.result.now c.as_slice-numbers.result.now (scene_of (moment_of c.args.stuck.now.board)) c.loop-thread.thread (stuck_line (length c.args.stuck.now.events.items))
    (string_bytes c.loop-thread.text) c.line_of-line.result.bytes (string_bytes c.push_line-in-loop-thread.new.text) c.loop-thread.invariant c.line_of-line.ensures c.in_ok-push_line-2.ensures

pub returns : goal.returns
returns c =
    let all : c.loop-thread.thread ≡ c.layout-layout.result.threads = omega arith in
    all_lines c.layout-layout.result c.args.script.now.layout c.lines-lines.result.now c.args.script.now.lines c.as_slice-numbers.result.now c.args.stuck.now.numbers.items (scene_of (moment_of c.args.stuck.now.board)) c.loop-thread.thread (stuck_line (length c.args.stuck.now.events.items)) (string_bytes c.loop-thread.text)
    c.layout-layout.ensures.layout c.lines-lines.ensures.lines c.as_slice-numbers.ensures.value all c.loop-thread.invariant
