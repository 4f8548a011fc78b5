use Rattle.std.proofs.Common.{◌≡◌, ◌<◌, ℕ, ap, ◌∙◌, subst, sym}
use Rattle.nub_rule.specs.declared.view.Pen.{Pen}
use Rattle.nub_rule.specs.Parts.{MayGivePen}
use Rattle.nub.proofs.Knowing.{pen_back, read_with_pen}
use Rattle.nub.proofs.pen.begin_traced.Goals.{then-take_pen-eq0+else-read_number-lt18446744073709551615, else-take_pen-eq0}
use Rattle.nub.proofs.pen.begin_traced.Goals as goal

pub returns-then-read_number-lt18446744073709551615-clause-read : goal.returns-then-read_number-lt18446744073709551615-clause-read
returns-then-read_number-lt18446744073709551615-clause-read g c = read_with_pen c.args.me.now c.loop.me c.take_pen.new.me c.read_number.new.me c.read_number.result c.loop.invariant (c.take_pen.ensures.won c.if-take_pen-eq0.true) c.read_number.ensures

pub returns-then-read_number-lt18446744073709551615-clause-below : goal.returns-then-read_number-lt18446744073709551615-clause-below
returns-then-read_number-lt18446744073709551615-clause-below g c = subst (λ (n : ℕ). n < 18446744073709551615) (sym (ap (λ k. k.next) c.read_number.ensures)) c.if-read_number-lt18446744073709551615.true

pub give_pen-requires-clause-may : goal.give_pen-requires-clause-may
give_pen-requires-clause-may g c κs within = subst (λ (p : Pen). MayGivePen p) (sym (ap (λ k. k.pen) c.read_number.ensures)) tt

pub loop-preserved : goal.loop-preserved
loop-preserved g c = let o = c.args.me.now in elim c.if-take_pen-eq0.branch [
  | then-take_pen-eq0+else-read_number-lt18446744073709551615 w ↦ subst (λ k. k ≡ record o { next = k.next }) (sym w.me-is)
      (pen_back o c.loop.me c.take_pen.new.me w.read_number.new.me w.give_pen.new.me w.read_number.result c.requires.out c.loop.invariant (c.take_pen.ensures.won w.if-take_pen-eq0.true) w.read_number.ensures w.give_pen.ensures.out)
  | else-take_pen-eq0 w ↦ subst (λ k. k ≡ record o { next = k.next }) (sym (w.me-is ∙ (c.take_pen.ensures.lost w.if-take_pen-eq0.false).1)) c.loop.invariant
]
