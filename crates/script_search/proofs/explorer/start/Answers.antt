use Rattle.std.proofs.Common.{subst}
use Rattle.larch_actions.specs.declared.event.Layout.{Layout}
use Rattle.script_search.specs.Boards.{moment_of}
use Rattle.script_search.specs.Firsts.{IsFirst}
use Rattle.script_search.specs.Founds.{IsAlone}
use Rattle.script_search.proofs.Searching.{searched_first, exceeds_none}
use Rattle.script_search.proofs.explorer.start.Goals as goal

pub returns-in-Ok-clause-ok : goal.returns-in-Ok-clause-ok
returns-in-Ok-clause-ok c =
    let m = moment_of c.in_ok-board.board in
    let first = subst (λ (l : Layout). IsFirst l m) c.layout-layout.ensures.layout c.in_ok-board.ensures in
    let alone = subst (λ (l : Layout). IsAlone c.in-Ok.found l m c.args.limit) c.layout-layout.ensures.layout c.in-Ok.ensures.ok in
    searched_first c.args.plan.now.layout c.args.plan.now.lines m c.in-Ok.found c.args.limit first alone

pub returns-clause-full : goal.returns-clause-full
returns-clause-full c = λ is. exceeds_none c.args.plan.now.layout c.args.plan.now.lines c.args.limit (c.in-Err.ensures.full is)
