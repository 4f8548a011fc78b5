use Rattle.std.proofs.Common.{◌∙◌, ap, sym}
use Rattle.larch_actions.specs.declared.event.Layout.{Layout}
use Rattle.script_search.specs.Boards.{moment_of}
use Rattle.script_search.proofs.Choosing.{may_end}
use Rattle.script_search.proofs.Expanding.{tries_over, tries_end}
use Rattle.script_search.proofs.expand.at_end.Goals as goal

pub attempt-requires-clause-may : goal.attempt-requires-clause-may
attempt-requires-clause-may c =
    may_end c.args.plan.now.layout c.args.plan.now.lines (moment_of c.args.node.now.board.now) c.args.node.now.thread c.requires.past c.requires.thread (sym (ap (λ (l : Layout). l.version) c.layout.ensures.layout) ∙ c.in-Two.is)

pub returns-in-One-clause-ok : goal.returns-in-One-clause-ok
returns-in-One-clause-ok c =
    tries_over c.args.plan.now.layout c.args.plan.now.lines (moment_of c.args.node.now.board.now) c.args.found.now c.args.found.now c.args.node.now.thread c.requires.sound c.requires.past (sym (ap (λ (l : Layout). l.version) c.layout.ensures.layout) ∙ c.in-One.is)

pub returns-in-Ok-clause-ok : goal.returns-in-Ok-clause-ok
returns-in-Ok-clause-ok c =
    tries_end c.args.plan.now.layout c.args.plan.now.lines (moment_of c.args.node.now.board.now) c.args.found.now c.attempt.new.found c.args.node.now.thread c.in-Ok.moves c.requires.past (sym (ap (λ (l : Layout). l.version) c.layout.ensures.layout) ∙ c.in-Two.is) c.in-Ok.ensures.ok
