use Rattle.std.proofs.Common.{None, refl, arith}
use Rattle.larch_actions.proofs.Answered.{not_both}
use Rattle.script_search.proofs.Shown.{held_here, held_by_none, none_further}
use Rattle.script_search.proofs.board.parts.is_nowhere.Goals as goal

pub loop-m-preserved : goal.loop-m-preserved
loop-m-preserved c = none_further c.args.holders.now c.args.t c.loop-m.m None c.loop-m-test.true (λ is. not_both c.is_thread.result c.if-is_thread.false (c.is_thread.ensures.1 is)) c.loop-m.invariant

pub returns-then-is_thread : goal.returns-then-is_thread
returns-then-is_thread c = (
  (λ e. absurd (cc)),
  (λ all. absurd (held_here c.args.holders.now c.args.t c.loop-m.m None c.loop-m-test.true (c.is_thread.ensures.0 c.if-is_thread.true) all)),
)

pub returns : goal.returns
returns c = ((λ _. held_by_none c.args.holders.now c.args.t (λ n low. c.loop-m.invariant n (omega arith))), (λ _. refl))
