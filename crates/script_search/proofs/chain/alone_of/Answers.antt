use Rattle.script_search.specs.Boards.{moment_of}
use Rattle.script_search.proofs.Chaining.{alone_none, alone_not, alone_refused}
use Rattle.script_search.proofs.chain.alone_of.Goals as goal

pub returns-in-None : goal.returns-in-None
returns-in-None c = λ e s own goes.
    alone_none e c.args.thread c.first_choice.result c.in-None.is (c.first_choice.ensures.only e s own goes)

pub returns-then-not-is_alone : goal.returns-then-not-is_alone
returns-then-not-is_alone c = λ e s own goes.
    alone_not e c.args.thread c.first_choice.result c.in-Some.choice c.is_alone.result c.in-Some.is c.is_alone.ensures c.if-not-is_alone.true goes.0 (c.first_choice.ensures.only e s own goes)

pub returns-in-None-2 : goal.returns-in-None-2
returns-in-None-2 c = λ e s own goes.
    alone_refused c.args.plan.now.layout c.args.plan.now.lines (moment_of c.args.board.now) e c.args.thread c.first_choice.result c.in-Some.choice c.in_ok-next_scenes.field-0 s
    c.in-Some.is (c.first_choice.ensures.only e s own goes) c.in_ok-next_scenes.ensures c.in-None-2.is goes.1
