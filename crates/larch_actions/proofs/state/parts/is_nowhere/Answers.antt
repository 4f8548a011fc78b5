use Rattle.std.proofs.Common.{rules}
use Rattle.larch_actions.proofs.Shown.{held_here, held_by_none, none_further}
use Rattle.larch_actions.proofs.state.parts.is_nowhere.Goals as goal

pub loop-m-preserved : goal.loop-m-preserved
loop-m-preserved c = none_further c.args.holders.now c.args.t.0 c.loop-m.m (search rules) (λ is. search rules) c.loop-m.invariant

pub returns-then-is_thread : goal.returns-then-is_thread
returns-then-is_thread c = ((λ not. absurd (cc)), (λ all. absurd (held_here c.args.holders.now c.args.t.0 c.loop-m.m (search rules) (search rules) all)))

pub returns : goal.returns
returns c = ((λ _. held_by_none c.args.holders.now c.args.t.0 (λ n low. c.loop-m.invariant n (search rules))), (λ _. search rules))
