use Rattle.std.proofs.Common.{ap, arith}
use Rattle.larch_actions.specs.declared.event.Layout.{Layout}
use Rattle.script_search.specs.Boards.{moment_of}
use Rattle.script_search.proofs.Stepping.{gathers_all}
use Rattle.script_search.proofs.step.members.Goals as goal

pub returns : goal.returns
returns c =
    gathers_all c.args.plan.now.layout (moment_of c.args.board.now) c.args.cond c.loop-t.t c.loop-t.set c.requires.board
    (omega (arith, ap (λ (l : Layout). l.threads) c.layout-t-end.ensures.layout)) c.loop-t.invariant
