use Rattle.script_search.specs.Boards.{moment_of}
use Rattle.script_search.proofs.Chaining.{alone_next, none_further}
use Rattle.script_search.proofs.chain.next_alone.Goals as goal

pub returns-in-Some : goal.returns-in-Some
returns-in-Some c =
    alone_next c.args.plan.now.layout c.args.plan.now.lines (moment_of c.args.board.now) c.loop-thread.thread c.in_ok-alone.field-0 c.in-Some.alone c.in_ok-alone.ensures c.in-Some.is c.loop-thread.invariant

pub loop-thread-preserved : goal.loop-thread-preserved
loop-thread-preserved c =
    none_further c.args.plan.now.layout c.args.plan.now.lines (moment_of c.args.board.now) c.loop-thread.thread c.in_ok-alone.field-0 c.in_ok-alone.ensures c.in_default.not-Some c.loop-thread.invariant
