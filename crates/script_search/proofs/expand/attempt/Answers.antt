use Rattle.script_text.specs.Runs.{event}
use Rattle.script_search.specs.Boards.{moment_of}
use Rattle.script_search.proofs.Trying.{moved_goes, end_board, tries_refused, tries_added, tries_full}
use Rattle.script_search.proofs.expand.attempt.Goals as goal

pub returns-in-None-clause-ok : goal.returns-in-None-clause-ok
returns-in-None-clause-ok c =
    tries_refused c.args.plan.now.layout c.args.plan.now.lines (moment_of c.args.node.now.board.now) c.args.found.now (event c.args.node.now.thread c.args.choice.now.action) c.in_ok-next_scenes.field-0 c.requires.sound c.in_ok-next_scenes.ensures c.in-None.is

pub go_along-requires-clause-board : goal.go_along-requires-clause-board
go_along-requires-clause-board c =
    (moved_goes c.args.plan.now.layout c.args.plan.now.lines (moment_of c.args.node.now.board.now) (event c.args.node.now.thread c.args.choice.now.action) c.in_ok-next_scenes.field-0 c.in-Some.next
    c.in_ok-next_scenes.ensures c.in-Some.is).1

pub add-requires-clause-board : goal.add-requires-clause-board
add-requires-clause-board c =
    end_board c.args.plan.now.layout c.args.plan.now.lines c.args.found.now (moment_of c.in-Some.next) (moment_of c.in_ok-end.end) c.new-events.result.items c.go_along.new.events.items
    c.requires.sound c.in_ok-end.ensures

pub returns-clause-full : goal.returns-clause-full
returns-clause-full c = λ is.
    tries_full c.args.plan.now.layout c.args.plan.now.lines (moment_of c.args.node.now.board.now) c.args.found.now c.args.node.now.place (event c.args.node.now.thread c.args.choice.now.action) c.in_ok-next_scenes.field-0 c.in-Some.next
    (moment_of c.in_ok-end.end) c.new-events.result.items c.go_along.new.events.items c.requires.sound c.requires.there c.in_ok-next_scenes.ensures c.in-Some.is c.in_ok-end.ensures (c.in-Err.ensures.full is)

pub returns-in-Ok-clause-ok : goal.returns-in-Ok-clause-ok
returns-in-Ok-clause-ok c =
    tries_added c.args.plan.now.layout c.args.plan.now.lines (moment_of c.args.node.now.board.now) c.args.found.now c.args.node.now.place (event c.args.node.now.thread c.args.choice.now.action) c.in_ok-next_scenes.field-0 c.in-Some.next
    (moment_of c.in_ok-end.end) c.new-events.result.items c.go_along.new.events.items c.requires.sound c.requires.there c.in_ok-next_scenes.ensures c.in-Some.is c.in_ok-end.ensures c.add.new.self c.in-Ok.ensures.keyed c.in-Ok.ensures.ok
