use Rattle.std.proofs.Common.{◌∙◌, ◌||◌, Bool, None, Some, Option, ap, subst, sym, get_or, arith}
use Rattle.std.proofs.lemmas.Option.{slice_get-get_or}
use Rattle.script_plays.specs.declared.choice.Choice.{Choice}
use Rattle.script_search.specs.Boards.{moment_of}
use Rattle.script_search.specs.Tries.{Tries, AreTried}
use Rattle.script_search.proofs.Trying.{three_tried, list_of_three}
use Rattle.script_search.proofs.expand.each_choice.Goals as goal

pub maybe-requires-clause-may : goal.maybe-requires-clause-may
maybe-requires-clause-may c = λ x is. c.requires.may 0 x (slice_get-get_or c.args.choices.now 0 None (omega arith) ∙ ap (λ (z : Option Choice). Some z) is)

pub maybe-requires-2-clause-may : goal.maybe-requires-2-clause-may
maybe-requires-2-clause-may c = λ x is. c.requires.may 1 x (slice_get-get_or c.args.choices.now 1 None (omega arith) ∙ ap (λ (z : Option Choice). Some z) is)

pub maybe-requires-3-clause-may : goal.maybe-requires-3-clause-may
maybe-requires-3-clause-may c = λ x is. c.requires.may 2 x (slice_get-get_or c.args.choices.now 2 None (omega arith) ∙ ap (λ (z : Option Choice). Some z) is)

pub returns-clause-ok : goal.returns-clause-ok
returns-clause-ok c =
    let l = c.args.plan.now.layout in
    let xs = c.args.plan.now.lines in
    let m = moment_of c.args.node.now.board.now in
    let t = c.args.node.now.thread in
    let cs = c.args.choices.now in
    let all = three_tried l xs m c.args.found.now c.maybe.new.found c.maybe-2.new.found c.maybe-3.new.found t cs (get_or cs 0 None) (get_or cs 1 None) (get_or cs 2 None)
    c.in-Ok.first c.in-Ok-maybe.second c.in-Ok-maybe-2.third (list_of_three None cs c.told-choices) c.in-Ok.ensures.ok c.in-Ok-maybe.ensures.ok c.in-Ok-maybe-2.ensures.ok in
    let is = c.either-2.ensures ∙ ap (λ (b : Bool). b || c.in-Ok-maybe-2.third) c.either.ensures in
    subst (λ (r : Bool). Tries l xs c.args.found.now c.maybe-3.new.found m (AreTried t cs) r) (sym is) all
