use Rattle.std.proofs.Common.{◌≡◌, [], Some, true, ◌∙◌, subst, sym}
use Rattle.larch_actions.specs.Sets.{mem, without}
use Rattle.nub_rule.specs.Known.{HasReason}
use Rattle.nub_rule.specs.Objects.{object_of}
use Rattle.nub_rule.specs.Parts.{stands_at}
use Rattle.nub.proofs.spin.enter.Goals as goal

pub take_spin-requires-clause-reason : goal.take_spin-requires-clause-reason
take_spin-requires-clause-reason g c κs within = subst (λ k. HasReason c.args.at k c.args.why) (sym c.loop.invariant) c.requires.reason

pub returns-then-take_spin-eq0-clause-inside : goal.returns-then-take_spin-eq0-clause-inside
returns-then-take_spin-eq0-clause-inside g c = let z = c.take_spin.new.me in
    subst (λ k. z ≡ record k { part = record k.part { spin = Some (object_of c.args.at); queue = z.queue; owed = []; left = z.queue; count = z.count; failed = without (object_of c.args.at) k.failed } }) c.loop.invariant (c.take_spin.ensures.won c.if-take_spin-eq0.true)

pub returns-then-take_spin-eq0-clause-small : goal.returns-then-take_spin-eq0-clause-small
returns-then-take_spin-eq0-clause-small g c = c.take_spin.ensures.small c.if-take_spin-eq0.true

pub returns-then-take_spin-eq0-clause-there : goal.returns-then-take_spin-eq0-clause-there
returns-then-take_spin-eq0-clause-there g c = let z = c.take_spin.new.me in
    subst (λ k. mem k.number z.queue ≡ true → stands_at k.stand (object_of c.args.at) ≡ true) c.loop.invariant (c.take_spin.ensures.there c.if-take_spin-eq0.true)

pub loop-preserved : goal.loop-preserved
loop-preserved g c = (c.take_spin.ensures.lost c.if-take_spin-eq0.false).1 ∙ c.loop.invariant
