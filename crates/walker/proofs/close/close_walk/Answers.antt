use Rattle.std.proofs.Common.{subst}
use Rattle.std.specs.Prelude.{IfSome}
use Rattle.firefly_outside.specs.Trees.{Path}
use Rattle.walker.specs.Closing.{Answers}
use Rattle.walker.proofs.close.close_walk.Goals as goal

pub returns-clause-answer : goal.returns-clause-answer
returns-clause-answer g c = subst (λ (root : Path). IfSome (g.S.Tree.tree c.args.tree.now) (Answers root c.args.stop_after (g.S.Tree.may_fail c.args.tree.now) c.close_rest.result)) c.requires.root c.close_rest.ensures.answer
