use Rattle.std.proofs.Common.{List, [], ◌∷◌, ◌++◌, ◌∙◌, ap}
use Rattle.larch_actions.specs.declared.event.Event.{Event}
use Rattle.script_text.specs.Runs.{event}
use Rattle.script_search.specs.Boards.{moment_of}
use Rattle.script_search.proofs.Stepping.{leads_none, leads_there, leads_elsewhere}
use Rattle.script_search.proofs.step.leads.Goals as goal

pub returns-in-None : goal.returns-in-None
returns-in-None c =
    leads_none c.args.plan.now.layout c.args.plan.now.lines (moment_of c.args.from.now) (moment_of c.args.to.now) (event c.args.t c.args.choice.now.action) c.in_ok-next_scenes.field-0 c.in_ok-next_scenes.ensures c.in-None.is

pub returns-then-branch : goal.returns-then-branch
returns-then-branch c =
    let e = event c.args.t c.args.choice.now.action in
    leads_there c.args.plan.now.layout c.args.plan.now.lines (moment_of c.args.from.now) (moment_of c.args.to.now) e c.in_ok-next_scenes.field-0 c.in-Some.board (moment_of c.in_ok-end.end)
    c.push.new.self.items c.go_along.new.events.items c.in_ok-is_same.field-0 c.requires.to c.in_ok-next_scenes.ensures c.in-Some.is c.in_ok-end.ensures c.in_ok-is_same.ensures
    (c.in_ok-push.ensures.items ∙ ap (λ (z : List Event). z ++ e ∷ []) c.new-events.ensures.items) c.if-branch.true

pub returns : goal.returns
returns c =
    leads_elsewhere c.args.plan.now.layout c.args.plan.now.lines (moment_of c.args.from.now) (moment_of c.args.to.now) (event c.args.t c.args.choice.now.action) c.in_ok-next_scenes.field-0 c.in-Some.board
    (moment_of c.in_ok-end.end) c.push.new.self.items c.go_along.new.events.items c.in_ok-is_same.field-0 c.requires.to c.in_ok-next_scenes.ensures c.in-Some.is c.in_ok-end.ensures c.in_ok-is_same.ensures
    c.requires.script c.if-branch.false
