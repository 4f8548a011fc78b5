use Rattle.script_search.specs.Boards.{moment_of}
use Rattle.script_search.proofs.Searching.{searched_on, searched_over}
use Rattle.script_search.proofs.explorer.look.Goals as goal

pub expand_all-requires-clause-board : goal.expand_all-requires-clause-board
expand_all-requires-clause-board c =
    c.requires.searched.sound.seen.boards c.args.place (moment_of c.in_ok-board.board) c.in_ok-board.ensures

pub returns-then-moves-clause-ok : goal.returns-then-moves-clause-ok
returns-then-moves-clause-ok c =
    searched_on c.args.plan.now.layout c.args.plan.now.lines c.args.limit c.args.found.now c.expand_all.new.found c.args.place (moment_of c.in_ok-board.board) c.in-Ok.moves
    c.requires.searched c.in-Ok.ensures.ok c.in_ok-board.ensures c.if-moves.true

pub is_whole-requires : goal.is_whole-requires
is_whole-requires c =
    c.requires.searched.sound.seen.boards c.args.place (moment_of c.in_ok-board.board) c.in_ok-board.ensures

pub returns-clause-ok : goal.returns-clause-ok
returns-clause-ok c =
    searched_over c.args.plan.now.layout c.args.plan.now.lines c.args.limit c.args.found.now c.expand_all.new.found c.args.place (moment_of c.in_ok-board.board) c.in-Ok.moves
    c.requires.searched c.in-Ok.ensures.ok c.in_ok-board.ensures c.if-moves.false c.is_whole.result c.is_whole.ensures
