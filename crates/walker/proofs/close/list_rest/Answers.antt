use Rattle.std.proofs.Common.{◌∙◌, arith}
use Rattle.std.specs.Prelude.{Ok, Err}
use Rattle.walker.proofs.Steps.{stays_then, stays_passed, Grows-trans, going_next, passing_next, rest_stopped, rest_passed, moved_step, below_all}
use Rattle.walker.proofs.close.list_rest.Goals as goal

pub returns-in-Err-clause-numbers : goal.returns-in-Err-clause-numbers
returns-in-Err-clause-numbers g c = c.in-Err.ensures.numbers c.args.stop_after

pub returns-in-Err-clause-reported : goal.returns-in-Err-clause-reported
returns-in-Err-clause-reported g c = rest_stopped (g.S.Tree.tree c.args.tree.now) c.args.walked.now c.loop-at.walked c.list_at.new.walked c.args.stop_after (g.S.Tree.may_fail c.args.tree.now)
    (g.S.Tree.calls c.args.tree.now) (g.S.Tree.calls c.loop-at.tree) (g.S.Tree.calls c.list_at.new.tree) c.in-Err.answer c.dirs_found.ensures.sound c.loop-at.invariant.limits c.loop-at.invariant.grows c.loop-at.invariant.reported
    (moved_step (g.S.Tree.tree c.loop-at.tree) (g.S.Tree.tree c.args.tree.now) c.loop-at.walked c.list_at.new.walked (g.S.Tree.may_fail c.loop-at.tree) (g.S.Tree.may_fail c.args.tree.now)
    (g.S.Tree.calls c.loop-at.tree) (g.S.Tree.calls c.list_at.new.tree) (Err c.in-Err.answer) c.loop-at.invariant.tree c.loop-at.invariant.weak c.in-Err.ensures.reported)

pub returns-in-Some-clause-reported : goal.returns-in-Some-clause-reported
returns-in-Some-clause-reported g c = rest_passed (g.S.Tree.tree c.args.tree.now) c.args.walked.now c.list_at.new.walked c.args.stop_after (g.S.Tree.may_fail c.args.tree.now)
    (g.S.Tree.calls c.args.tree.now) (g.S.Tree.calls c.list_at.new.tree) c.in-Some.answer c.limit_reached.ensures.sound (Grows-trans c.args.walked.now c.loop-at.walked c.list_at.new.walked c.loop-at.invariant.grows c.list_at.ensures.grows)
    (passing_next (g.S.Tree.tree c.args.tree.now) c.args.walked.now c.loop-at.walked c.list_at.new.walked c.args.stop_after (g.S.Tree.may_fail c.args.tree.now) (g.S.Tree.calls c.args.tree.now) (g.S.Tree.calls c.loop-at.tree) (g.S.Tree.calls c.list_at.new.tree)
    c.in-Some.answer c.dirs_found.ensures.sound c.loop-at.invariant.limits c.in-Some.ensures.limits c.loop-at.invariant.reported
    (moved_step (g.S.Tree.tree c.loop-at.tree) (g.S.Tree.tree c.args.tree.now) c.loop-at.walked c.list_at.new.walked (g.S.Tree.may_fail c.loop-at.tree) (g.S.Tree.may_fail c.args.tree.now)
    (g.S.Tree.calls c.loop-at.tree) (g.S.Tree.calls c.list_at.new.tree) (Ok tt) c.loop-at.invariant.tree c.loop-at.invariant.weak c.in-Ok.ensures.reported))
    c.in-Some.ensures.limits

pub loop-at-preserved : goal.loop-at-preserved
loop-at-preserved g c = record {
  tree = c.in-Ok.ensures.stays.tree ∙ c.loop-at.invariant.tree;
  weak = c.in-Ok.ensures.stays.weak ∙ c.loop-at.invariant.weak;
  count = c.in-Ok.ensures.stays.count ∙ c.loop-at.invariant.count;
  grows = Grows-trans c.args.walked.now c.loop-at.walked c.list_at.new.walked c.loop-at.invariant.grows c.list_at.ensures.grows;
  limits = c.in_default.ensures.limits;
  below = c.in-Ok.ensures.below c.loop-at.invariant.below;
  reported = going_next (g.S.Tree.tree c.args.tree.now) c.args.walked.now c.loop-at.walked c.list_at.new.walked (g.S.Tree.may_fail c.args.tree.now) (g.S.Tree.calls c.args.tree.now) (g.S.Tree.calls c.loop-at.tree) (g.S.Tree.calls c.list_at.new.tree)
      c.dirs_found.ensures.sound c.loop-at.invariant.reported
      (moved_step (g.S.Tree.tree c.loop-at.tree) (g.S.Tree.tree c.args.tree.now) c.loop-at.walked c.list_at.new.walked (g.S.Tree.may_fail c.loop-at.tree) (g.S.Tree.may_fail c.args.tree.now)
      (g.S.Tree.calls c.loop-at.tree) (g.S.Tree.calls c.list_at.new.tree) (Ok tt) c.loop-at.invariant.tree c.loop-at.invariant.weak c.in-Ok.ensures.reported);
}

pub returns-clause-listed : goal.returns-clause-listed
returns-clause-listed g c = below_all c.loop-at.walked c.loop-at.at (omega (arith, c.loop-at-test.false, c.dirs_found.ensures.many)) c.loop-at.invariant.below

pub returns-in-Some-clause-grows : goal.returns-in-Some-clause-grows
returns-in-Some-clause-grows g c = Grows-trans c.args.walked.now c.loop-at.walked c.list_at.new.walked c.loop-at.invariant.grows c.list_at.ensures.grows

pub returns-in-Err-clause-grows : goal.returns-in-Err-clause-grows
returns-in-Err-clause-grows g c = Grows-trans c.args.walked.now c.loop-at.walked c.list_at.new.walked c.loop-at.invariant.grows c.list_at.ensures.grows

pub returns-in-Err-clause-stays : goal.returns-in-Err-clause-stays
returns-in-Err-clause-stays g c = stays_then c.loop-at.invariant.tree c.loop-at.invariant.weak c.loop-at.invariant.count c.in-Err.ensures.stays

pub returns-in-Some-clause-stays : goal.returns-in-Some-clause-stays
returns-in-Some-clause-stays g c = stays_passed (c.in-Ok.ensures.stays.tree ∙ c.loop-at.invariant.tree) (c.in-Ok.ensures.stays.weak ∙ c.loop-at.invariant.weak) (c.in-Ok.ensures.stays.count ∙ c.loop-at.invariant.count)
    c.list_at.new.walked c.args.stop_after c.in-Some.answer c.in-Some.ensures.limits

pub returns-clause-stays : goal.returns-clause-stays
returns-clause-stays g c = record { tree = c.loop-at.invariant.tree; weak = c.loop-at.invariant.weak; count = c.loop-at.invariant.count }
