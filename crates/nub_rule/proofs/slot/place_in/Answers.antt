use Rattle.std.proofs.Common.{rules, ◌≡◌, ◌<◌, ◌∙◌, ℕ, ap, sym, false, take, get_or, length, subst}
use Rattle.larch_actions.specs.Sets.{mem}
use Rattle.nub_rule.proofs.Lessening.{take-more, some_is}
use Rattle.nub_rule.proofs.slot.place_in.Goals as goal

pub returns-then-from-t-clause-first : goal.returns-then-from-t-clause-first
returns-then-from-t-clause-first c = λ i e. let low = c.loop-i-test.true in let n = c.len-i-end.ensures.value in
    subst (λ (j : ℕ). (j < length c.args.queue.now.items) × (get_or c.args.queue.now.items j 0 ≡ c.args.t) × (mem c.args.t (take j c.args.queue.now.items) ≡ false)) (some_is c.loop-i.i i e)
    (search rules, ap (λ l. get_or l c.loop-i.i 0) (sym c.deref.ensures.0) ∙ (sym c.from.ensures ∙ c.if-from-t.true), c.loop-i.invariant)

pub loop-i-preserved : goal.loop-i-preserved
loop-i-preserved c = let low = c.loop-i-test.true in let n = c.len-i-end.ensures.value in
    take-more c.args.t c.loop-i.i c.args.queue.now.items (search rules) c.loop-i.invariant (λ e. c.if-from-t.false (c.from.ensures ∙ (ap (λ l. get_or l c.loop-i.i 0) c.deref.ensures.0 ∙ e)))
