use Rattle.std.proofs.Common.{◌∙◌, ap, length, subst, sym}
use Rattle.larch_actions.specs.declared.event.Layout.{Layout}
use Rattle.script_search.specs.Boards.{moment_of, IsBoard}
use Rattle.script_search.proofs.Keyed.{alone}
use Rattle.script_search.proofs.found.Found.first.Goals as goal

pub add-requires-clause-board : goal.add-requires-clause-board
add-requires-clause-board c = subst (λ (l : Layout). IsBoard l (moment_of c.args.board.now)) (sym c.empty-found.ensures.layout) c.requires

pub returns-in-Ok-clause-ok : goal.returns-in-Ok-clause-ok
returns-in-Ok-clause-ok c =
    alone c.empty-found.result c.add.new.self c.args.layout.now (moment_of c.args.board.now) c.args.limit
    c.empty-found.ensures.none c.empty-found.ensures.parents c.empty-found.ensures.layout c.empty-found.ensures.limit c.in-Ok.ensures.keyed c.in-Ok.ensures.ok

pub returns-in-Err-clause-full : goal.returns-in-Err-clause-full
returns-in-Err-clause-full c = λ is.
    sym c.empty-found.ensures.limit ∙ (sym (c.in-Err.ensures.full is).count ∙ ap length c.empty-found.ensures.none)
