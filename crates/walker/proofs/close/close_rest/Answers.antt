use Rattle.std.proofs.Common.{sym, refl}
use Rattle.walker.proofs.CloseLemmas.{stopped_answer, stopped_once, stopped_passed, IsPartOf-grows, end_answer, end_once, end_passed, moved_rest}
use Rattle.walker.proofs.close.close_rest.Goals as goal

pub returns-in-Err-clause-answer : goal.returns-in-Err-clause-answer
returns-in-Err-clause-answer g c = stopped_answer (g.S.Tree.tree c.args.tree.now) c.args.walked.now c.list_whole.new.walked c.args.walked.now.root c.args.stop_after (g.S.Tree.may_fail c.args.tree.now) (g.S.Tree.calls c.args.tree.now) (g.S.Tree.calls c.list_whole.new.tree) c.in-Err.answer refl c.in-Err.ensures.reported

pub returns-in-Err-clause-once : goal.returns-in-Err-clause-once
returns-in-Err-clause-once g c = stopped_once (g.S.Tree.tree c.args.tree.now) c.args.walked.now c.list_whole.new.walked c.args.piece.paths c.args.stop_after (g.S.Tree.may_fail c.args.tree.now) (g.S.Tree.calls c.args.tree.now) (g.S.Tree.calls c.list_whole.new.tree) c.in-Err.answer c.in-Err.ensures.reported

pub returns-in-Err-clause-passed : goal.returns-in-Err-clause-passed
returns-in-Err-clause-passed g c = stopped_passed (g.S.Tree.tree c.args.tree.now) c.args.walked.now c.list_whole.new.walked c.args.stop_after (g.S.Tree.may_fail c.args.tree.now) (g.S.Tree.calls c.args.tree.now) (g.S.Tree.calls c.list_whole.new.tree) c.in-Err.answer c.in-Err.ensures.reported

pub read_rest-requires-clause-part : goal.read_rest-requires-clause-part
read_rest-requires-clause-part g c = λ κs b. IsPartOf-grows (g.S.Tree.tree c.args.tree.now) (g.S.Tree.tree c.list_whole.new.tree) c.args.walked.now c.list_whole.new.walked c.args.piece (sym c.list_whole.ensures.stays.tree) c.list_whole.ensures.grows c.requires.part

pub returns-in-Ok-clause-answer : goal.returns-in-Ok-clause-answer
returns-in-Ok-clause-answer g c = end_answer (g.S.Tree.tree c.args.tree.now) c.args.walked.now c.list_whole.new.walked c.args.walked.now.root c.args.piece.paths c.args.stop_after (g.S.Tree.may_fail c.args.tree.now) (g.S.Tree.may_fail c.args.tree.now)
    (g.S.Tree.calls c.args.tree.now) (g.S.Tree.calls c.list_whole.new.tree) (g.S.Tree.calls c.read_rest.new.tree) c.read_rest.result c.list_whole.ensures.grows.root c.in-Ok.ensures.limits c.in-Ok.ensures.listed c.in-Ok.ensures.reported
    (moved_rest (g.S.Tree.tree c.list_whole.new.tree) (g.S.Tree.tree c.args.tree.now) c.list_whole.new.walked c.args.piece.paths (g.S.Tree.may_fail c.list_whole.new.tree) (g.S.Tree.may_fail c.args.tree.now) (g.S.Tree.calls c.list_whole.new.tree) (g.S.Tree.calls c.read_rest.new.tree) c.read_rest.result
    c.list_whole.ensures.stays.tree c.list_whole.ensures.stays.weak c.read_rest.ensures.reported)

pub returns-in-Ok-clause-once : goal.returns-in-Ok-clause-once
returns-in-Ok-clause-once g c = end_once (g.S.Tree.tree c.args.tree.now) c.args.walked.now c.list_whole.new.walked c.args.piece.paths c.args.stop_after (g.S.Tree.may_fail c.args.tree.now) (g.S.Tree.may_fail c.args.tree.now)
    (g.S.Tree.calls c.args.tree.now) (g.S.Tree.calls c.list_whole.new.tree) (g.S.Tree.calls c.read_rest.new.tree) c.read_rest.result c.list_whole.ensures.grows.root c.in-Ok.ensures.listed c.in-Ok.ensures.reported
    (moved_rest (g.S.Tree.tree c.list_whole.new.tree) (g.S.Tree.tree c.args.tree.now) c.list_whole.new.walked c.args.piece.paths (g.S.Tree.may_fail c.list_whole.new.tree) (g.S.Tree.may_fail c.args.tree.now) (g.S.Tree.calls c.list_whole.new.tree) (g.S.Tree.calls c.read_rest.new.tree) c.read_rest.result
    c.list_whole.ensures.stays.tree c.list_whole.ensures.stays.weak c.read_rest.ensures.reported)

pub returns-in-Ok-clause-passed : goal.returns-in-Ok-clause-passed
returns-in-Ok-clause-passed g c = end_passed (g.S.Tree.tree c.args.tree.now) c.args.walked.now c.list_whole.new.walked c.args.piece.paths c.args.stop_after (g.S.Tree.may_fail c.args.tree.now) (g.S.Tree.may_fail c.args.tree.now)
    (g.S.Tree.calls c.args.tree.now) (g.S.Tree.calls c.list_whole.new.tree) (g.S.Tree.calls c.read_rest.new.tree) c.read_rest.result c.in-Ok.ensures.sound c.in-Ok.ensures.limits c.in-Ok.ensures.reported
    (moved_rest (g.S.Tree.tree c.list_whole.new.tree) (g.S.Tree.tree c.args.tree.now) c.list_whole.new.walked c.args.piece.paths (g.S.Tree.may_fail c.list_whole.new.tree) (g.S.Tree.may_fail c.args.tree.now) (g.S.Tree.calls c.list_whole.new.tree) (g.S.Tree.calls c.read_rest.new.tree) c.read_rest.result
    c.list_whole.ensures.stays.tree c.list_whole.ensures.stays.weak c.read_rest.ensures.reported)
