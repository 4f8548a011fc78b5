use Rattle.walker.proofs.CloseLemmas.{IsPartOf-none}
use Rattle.test_project.proofs.walks.walk.Goals as goal

pub close_walk-requires-clause-part : goal.close_walk-requires-clause-part
close_walk-requires-clause-part g c = λ κs b. IsPartOf-none (g.S.Tree.tree c.args.tree.now) c.in_ok-walked.walked c.empty-piece.result c.empty-piece.ensures
