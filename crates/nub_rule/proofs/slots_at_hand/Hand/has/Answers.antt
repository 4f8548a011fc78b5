use Rattle.std.proofs.Common.{arith, ap, sym, ◌∙◌, get_or}
use Rattle.larch_actions.specs.Sets.{mem}
use Rattle.nub_rule.proofs.Having.{below_has, hand_lacks, unlike}
use Rattle.nub_rule.proofs.Lessening.{take-more, take-all}
use Rattle.nub_rule.proofs.slots_at_hand.Hand.has.Goals as goal

pub returns-then-deref-i : goal.returns-then-deref-i
returns-then-deref-i c = let low = c.loop-i-test.true in let n = c.len-i-end.ensures.value in
    sym (ap (mem c.args.slot) (sym c.self.view_is) ∙ below_has c.args.slot c.loop-i.i c.self.inside.top c.self.inside.below.items c.self.invariant (omega arith) (ap (λ l. get_or l c.loop-i.i 0) (sym c.deref.ensures.0) ∙ c.if-deref-i.true) c.loop-i.invariant)

pub loop-i-preserved : goal.loop-i-preserved
loop-i-preserved c = let low = c.loop-i-test.true in let n = c.len-i-end.ensures.value in
    take-more c.args.slot c.loop-i.i c.self.inside.below.items (omega arith) c.loop-i.invariant (λ e. c.if-deref-i.false (ap (λ l. get_or l c.loop-i.i 0) c.deref.ensures.0 ∙ e))

pub returns : goal.returns
returns c = let past = c.loop-i-test.false in let n = c.len-i-end.ensures.value in
    sym (ap (mem c.args.slot) (sym c.self.view_is) ∙ hand_lacks c.args.slot c.self.inside.top c.self.inside.below.items (unlike c.self.inside.top c.args.slot (sym c.eq.ensures ∙ c.if-eq.false)) (ap (mem c.args.slot) (sym (take-all c.self.inside.below.items c.loop-i.i (omega arith))) ∙ c.loop-i.invariant))
