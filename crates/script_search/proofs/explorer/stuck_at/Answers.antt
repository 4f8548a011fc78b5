use Rattle.script_search.proofs.Searching.{stuck_there}
use Rattle.script_search.specs.Boards.{moment_of}
use Rattle.script_search.proofs.explorer.stuck_at.Goals as goal

pub returns : goal.returns
returns c =
    stuck_there c.args.plan.now.layout c.args.plan.now.lines c.args.found.now c.args.place (record { events = c.in_ok-events.events; numbers = c.in_ok-numbers.numbers; board = c.in_ok-board.board })
    c.requires.dead c.in_ok-board.ensures (c.in_ok-events.ensures (moment_of c.in_ok-board.board) c.in_ok-board.ensures) c.in_ok-numbers.ensures
