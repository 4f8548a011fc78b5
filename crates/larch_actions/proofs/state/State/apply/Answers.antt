use Rattle.larch_actions.proofs.Answered.{ok_reported, refused_reported, same_reported, layout_reported}
use Rattle.larch_actions.proofs.state.State.apply.Goals as goal

pub returns-clause-ok : goal.returns-clause-ok
returns-clause-ok c = ok_reported c.args.self.now c.act.new.self c.args.e.now c.act.result c.act.ensures

pub returns-clause-refused : goal.returns-clause-refused
returns-clause-refused c = refused_reported c.args.self.now c.act.new.self c.args.e.now c.act.result c.act.ensures

pub returns-clause-same : goal.returns-clause-same
returns-clause-same c = same_reported c.args.self.now c.act.new.self c.args.e.now c.act.result c.act.ensures

pub returns-clause-layout : goal.returns-clause-layout
returns-clause-layout c = layout_reported c.args.self.now c.act.new.self c.args.e.now c.act.result c.act.ensures
