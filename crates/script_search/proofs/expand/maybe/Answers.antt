use Rattle.script_search.specs.Boards.{moment_of}
use Rattle.script_search.proofs.Trying.{tried_only}
use Rattle.script_search.proofs.expand.maybe.Goals as goal

pub attempt-requires-clause-may : goal.attempt-requires-clause-may
attempt-requires-clause-may c = c.requires.may c.in-Some.choice c.in-Some.is

pub returns-in-Ok-clause-ok : goal.returns-in-Ok-clause-ok
returns-in-Ok-clause-ok c =
    tried_only c.args.plan.now.layout c.args.plan.now.lines (moment_of c.args.node.now.board.now) c.args.found.now c.attempt.new.found c.args.node.now.thread c.args.choice.now c.in-Some.choice
    c.in-Ok.moves c.in-Some.is c.in-Ok.ensures.ok
