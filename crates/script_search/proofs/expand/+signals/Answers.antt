use Rattle.std.proofs.Common.{◌∙◌, Bool, ap, subst, sym, arith}
use Rattle.larch_actions.specs.declared.event.Layout.{Layout}
use Rattle.script_search.specs.Boards.{moment_of}
use Rattle.script_search.specs.Tries.{Tries, Leaves}
use Rattle.script_search.proofs.Trying.{signals_leaf, signals_past, signals_fork}
use Rattle.script_search.proofs.expand.+signals.Goals as goal

pub attempt-requires-clause-may : goal.attempt-requires-clause-may
attempt-requires-clause-may t c = c.requires.may c.args.part.now.left (λ u has. omega (arith, c.requires.left u has, c.requires.before))

pub returns-in-Ok-clause-ok : goal.returns-in-Ok-clause-ok
returns-in-Ok-clause-ok t c =
    signals_leaf c.args.plan.now.layout c.args.plan.now.lines (moment_of c.args.node.now.board.now) c.args.found.now c.attempt.new.found c.args.node.now.thread c.args.part.now.cond c.args.part.now.left c.args.part.now.before c.in-Ok.moves
    (c.if-before-layout.true ∙ ap (λ (l : Layout). l.threads) c.layout.ensures.layout) c.requires.left c.requires.may c.in-Ok.ensures.ok

pub returns-then-not-is_inside-clause-ok : goal.returns-then-not-is_inside-clause-ok
returns-then-not-is_inside-clause-ok t c =
    signals_past c.args.plan.now.layout c.args.plan.now.lines (moment_of c.args.node.now.board.now) c.args.found.now c.signals.new.found c.args.node.now.thread c.args.part.now.cond c.args.part.now.left c.args.part.now.before c.in-Ok-signals.without
    c.requires.left (sym c.is_inside.ensures ∙ c.if-not-is_inside.true) c.in-Ok-signals.ensures.ok

pub returns-clause-ok : goal.returns-clause-ok
returns-clause-ok t c =
    let l = c.args.plan.now.layout in
    let m = moment_of c.args.node.now.board.now in
    let part = c.args.part.now in
    let fork = signals_fork c.args.plan.now.layout c.args.plan.now.lines (moment_of c.args.node.now.board.now) c.args.found.now c.signals.new.found c.signals-2.new.found c.args.node.now.thread part.cond part.left c.insert.new.self part.before
    c.in-Ok-signals.without c.in-Ok-signals-2.with c.requires.left c.insert.ensures.members c.in-Ok-signals.ensures.ok c.in-Ok-signals-2.ensures.ok in
    subst (λ (r : Bool). Tries l c.args.plan.now.lines c.args.found.now c.signals-2.new.found m (Leaves m l.threads c.args.node.now.thread part.cond part.left part.before) r) (sym c.either.ensures) fork
