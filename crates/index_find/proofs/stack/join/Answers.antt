use Rattle.std.proofs.Common.{◌∷◌, [], ◌++◌, sym, subst}
use Rattle.index_find.specs.declared.query.Step.{Step}
use Rattle.index_find.specs.Postfix.{stepped}
use Rattle.index_find.specs.Marks.{AreStacked}
use Rattle.index_find.proofs.Stacked.{not_joined}
use Rattle.index_find.proofs.stack.join.Goals as goal

pub returns-in-Not-clause-marks : goal.returns-in-Not-clause-marks
returns-in-Not-clause-marks c = λ ts s.
    subst (λ (x : Step). AreStacked c.args.index.now (stepped x ts) (c.take_last-marks.new.stack.items ++ c.turn.new.self ∷ [])) (sym c.in-Not.is)
    (not_joined c.args.index.now ts c.args.stack.now.items c.take_last-marks.new.stack.items c.take_last-marks.result c.turn.new.self c.requires.paths
    c.take_last-marks.ensures.items c.turn.ensures.many c.turn.ensures.each s)
