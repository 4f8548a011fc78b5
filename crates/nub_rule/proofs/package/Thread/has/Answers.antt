use Rattle.std.proofs.Common.{ℕ, ap, sym, ◌∙◌}
use lib.ListN.{get_elem?}
use Rattle.larch_actions.specs.Sets.{mem}
use Rattle.nub_rule.specs.Places.{value_at}
use Rattle.nub_rule.proofs.Having.{has_by, lacks_by, lacks_past}
use Rattle.nub_rule.proofs.package.Thread.has.Goals as goal

pub returns-then-m-lt-MUTEXES-clause-yes : goal.returns-then-m-lt-MUTEXES-clause-yes
returns-then-m-lt-MUTEXES-clause-yes g c = λ is. let i = c.self.invariant in let m : ℕ = c.args.m.0 in let p = c.self.inside.seat.me.0.part in
    let t = has_by p c.self.inside.seat.me.1 m c.if-m-lt-MUTEXES.true i.wide i.hands (ap (mem (value_at m)) i.keyed ∙ (sym c.has.ensures ∙ is)) in
    (t.0, ap (λ k. get_elem? k.held m) (sym c.self.view_is) ∙ t.1)

pub returns-then-m-lt-MUTEXES-clause-no : goal.returns-then-m-lt-MUTEXES-clause-no
returns-then-m-lt-MUTEXES-clause-no g c = λ is x holds. let i = c.self.invariant in let m : ℕ = c.args.m.0 in let p = c.self.inside.seat.me.0.part in
    lacks_by p c.self.inside.seat.me.1 m i.hands (ap (mem (value_at m)) i.keyed ∙ (sym c.has.ensures ∙ is)) x (ap (λ k. get_elem? k.held m) c.self.view_is ∙ holds)

pub returns-else-m-lt-MUTEXES-clause-no : goal.returns-else-m-lt-MUTEXES-clause-no
returns-else-m-lt-MUTEXES-clause-no g c = λ is x holds. let i = c.self.invariant in let m : ℕ = c.args.m.0 in let p = c.self.inside.seat.me.0.part in
    lacks_past p m c.if-m-lt-MUTEXES.false i.wide x (ap (λ k. get_elem? k.held m) c.self.view_is ∙ holds)
