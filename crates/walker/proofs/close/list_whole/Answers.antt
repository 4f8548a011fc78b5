use Rattle.walker.proofs.Steps.{stays_passed, passing_start, Grows-refl, rest_passed}
use Rattle.std.proofs.Common.{refl}
use Rattle.walker.proofs.close.list_whole.Goals as goal

pub returns-in-Some-clause-reported : goal.returns-in-Some-clause-reported
returns-in-Some-clause-reported g c = rest_passed (g.S.Tree.tree c.args.tree.now) c.args.walked.now c.args.walked.now c.args.stop_after (g.S.Tree.may_fail c.args.tree.now) (g.S.Tree.calls c.args.tree.now) (g.S.Tree.calls c.args.tree.now) c.in-Some.answer c.limit_reached.ensures.sound (Grows-refl c.args.walked.now)
    (passing_start (g.S.Tree.tree c.args.tree.now) c.args.walked.now c.args.stop_after (g.S.Tree.calls c.args.tree.now) c.requires.reported) c.in-Some.ensures.limits

pub returns-in-Some-clause-stays : goal.returns-in-Some-clause-stays
returns-in-Some-clause-stays g c = stays_passed refl refl refl c.args.walked.now c.args.stop_after c.in-Some.answer c.in-Some.ensures.limits
