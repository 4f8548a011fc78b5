use Rattle.std.proofs.Common.{◌≡◌, ◌++◌, length}
use Rattle.std.specs.String.{string_bytes}
use Rattle.script_search.specs.Boards.{moment_of, scene_of}
use Rattle.command_explore.specs.Messages.{stuck_line}
use Rattle.command_explore.specs.Waits.{lines_text}
use Rattle.command_explore.proofs.report.report.Given as goal

abbrev pub invariant-loop-thread : goal.invariant-loop-thread
invariant-loop-thread l =
    string_bytes l.text ≡ stuck_line (length l.stuck.events.items) ++ lines_text l.layout l.lines l.numbers (scene_of (moment_of l.stuck.board)) l.thread
