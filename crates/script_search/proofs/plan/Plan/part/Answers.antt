use Rattle.std.proofs.Common.{◌≡◌, ◌∙◌, List, take, ap, rules, arith}
use Rattle.script_text.specs.declared.line.Line.{Line}
use Rattle.script_text.specs.Runs.{lines_of, total}
use Rattle.script_search.proofs.Planning.{script_small, script_part_small}
use Rattle.script_search.proofs.plan.Plan.part.Goals as goal

pub sum-requires : goal.sum-requires
sum-requires c = λ n.
    let own : c.deref.result.now ≡ lines_of c.args.t c.self.inside.all.now = c.deref.ensures.value ∙ (ap (λ v. v.items) c.index-own.ensures ∙ c.self.invariant.each c.args.t c.index-own.result.now (search rules)) in
    let e = ap (λ (xs : List Line). total (take n (take c.min-end.result xs)) c.args.mutex) own in
    omega (arith, e, script_part_small c.self.inside.layout c.self.inside.all.now c.args.t n c.min-end.result c.args.mutex c.self.invariant.script c.self.invariant.few)

pub returns-clause-small : goal.returns-clause-small
returns-clause-small c =
    let own : c.deref.result.now ≡ lines_of c.args.t c.self.inside.all.now = c.deref.ensures.value ∙ (ap (λ v. v.items) c.index-own.ensures ∙ c.self.invariant.each c.args.t c.index-own.result.now (search rules)) in
    let e = c.sum.ensures ∙ ap (λ (xs : List Line). total (take c.min-end.result xs) c.args.mutex) own in
    omega (arith, e, script_small c.self.inside.layout c.self.inside.all.now c.args.t c.min-end.result c.args.mutex c.self.invariant.script c.self.invariant.few)
