use Rattle.index_find.specs.Postfix.{tree_of}
use Rattle.index_find.proofs.Picked.{all_meant}
use Rattle.index_find.proofs.answer.find.Goals as goal

pub returns : goal.returns
returns c = all_meant (λ v. v.items) c.chosen_paths.result c.args.index.now (tree_of c.args.query.now) c.in_ok-marks.marks c.path_count-many.ensures.paths c.in_ok-marks.ensures c.chosen_paths.ensures
