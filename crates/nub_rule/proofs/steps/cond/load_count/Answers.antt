use Rattle.std.proofs.Common.{Bool, rules, arith, ◌≡◌, ◌∙◌, ℕ, ap, sym, subst, vec_capacity, false}
use lib.ListN.{get_elem?}
use Rattle.larch_actions.specs.declared.event.Life.{Life}
use Rattle.nub_rule.specs.declared.rule.Slot.TheVariants.{Value}
use Rattle.nub_rule.specs.declared.view.Pen.{Pen}
use Rattle.nub_rule.specs.Parts.{MayRecord}
use Rattle.nub_rule.proofs.Naming.{cond_low}
use Rattle.nub_rule.proofs.Entering.{Entered, entered}
use Rattle.nub_rule.proofs.CondSteps.{load_count_keeps}
use Rattle.nub_rule.proofs.steps.cond.load_count.Given.{Over}
use Rattle.nub_rule.proofs.steps.cond.load_count.Goals.{After-load}
use Rattle.nub_rule.proofs.steps.cond.load_count.Goals as goal

pub bring-requires-clause-there : goal.bring-requires-clause-there
bring-requires-clause-there g c = let m : ℕ = c.args.m.0 in let t = c.me.invariant.hands.value_got m c.requires.has.0 (ap (λ k. get_elem? k.held m) c.me.view_is ∙ c.requires.has.1) in (Value t.0, t.1)

pub load-requires-clause-inside : goal.load-requires-clause-inside
load-requires-clause-inside g c κs within = let near = cond_low _ _ _ _ c.p.view_is c.p.invariant.laid_out c.p.invariant.lawful c.args.c.0 c.requires.named.1 in let word = c.count_word.ensures in omega arith

pub load-requires-clause-allowed : goal.load-requires-clause-allowed
load-requires-clause-allowed g c κs within = let near = cond_low _ _ _ _ c.p.view_is c.p.invariant.laid_out c.p.invariant.lawful c.args.c.0 c.requires.named.1 in let m : ℕ = c.args.m.0 in let b = c.bring.ensures in let same = b.same.2 in let e = ap (λ v. v.part) same in
    let traces : c.p.inside.table.shared.key.traced ≡ c.args.p.now.traced = ap (λ s. s.traced) c.p.view_is in
    let t = c.me.invariant.hands.value_got m c.requires.has.0 (ap (λ k. get_elem? k.held m) c.me.view_is ∙ c.requires.has.1) in
    let word = c.count_word.ensures in load_count_keeps _ _ _ _ _ false _ _ m c.args.c.0 (Value t.0) c.bring.new.seat.me c.requires.has.0 _ word near (search rules) (ap (λ v. v.kind) same ∙ c.me.invariant.member) (b.first (Value t.0) t.1) (ap (λ p. get_elem? p.held m) e ∙ (ap (λ k. get_elem? k.held m) c.me.view_is ∙ c.requires.has.1))
    (ap (λ p. p.wait) e ∙ (ap (λ k. k.wait) c.me.view_is ∙ c.requires.outside)) (ap (λ p. p.left) e ∙ (ap (λ k. k.left) c.me.view_is ∙ (c.requires.even ∙ (ap (λ k. k.queue) (sym c.me.view_is) ∙ ap (λ p. p.queue) (sym e)))))
    (ap (λ p. p.raised) e ∙ (ap (λ k. k.raised) c.me.view_is ∙ c.requires.raised))
    (subst (λ (z : Bool × Life × Pen). MayRecord z.0 z.1 z.2) (λ j. (sym traces j, (ap (λ k. k.life) (sym c.me.view_is) ∙ ap (λ p. p.life) (sym e)) j, (ap (λ k. k.pen) (sym c.me.view_is) ∙ ap (λ p. p.pen) (sym e)) j)) c.requires.pen)

begun : (g : Over) (c : After-load g) → Entered false c.args.m.0 c.args.c.0 c.load.result c.me.inside.seat.table_id c.load.new.seat.table_id c.me.inside.number c.bring.new.hand c.me.inside.seat.me c.load.new.seat.me c.me.inside.room.items (vec_capacity c.me.inside.room)
begun g c = let m : ℕ = c.args.m.0 in let o : ℕ = c.args.c.0 in let b = c.bring.ensures in
    let t = c.me.invariant.hands.value_got m c.requires.has.0 (ap (λ k. get_elem? k.held m) c.me.view_is ∙ c.requires.has.1) in
    let u = c.load.ensures.2 m o (Value t.0) c.count_word.ensures (b.first (Value t.0) t.1) in
    entered false m o c.load.result u.0 _ _ _ _ _ c.me.inside.seat.me c.bring.new.seat.me c.load.new.seat.me c.me.invariant b.same.2 b.keys b.distinct b.below b.hand (c.load.ensures.0 ∙ b.same.0) u.1 u.2

pub invariant_of-me : goal.invariant_of-me
invariant_of-me g c = (begun g (goal.at.invariant_of-me g c).After-load).fits

pub returns-clause-event : goal.returns-clause-event
returns-clause-event g c = (begun g (goal.at.returns-clause-event g c).After-load).makes _ _ _ _ c.me.view_is

pub returns-clause-begun : goal.returns-clause-begun
returns-clause-begun g c = (begun g (goal.at.returns-clause-begun g c).After-load).sees _ _ _ _ c.me.view_is
