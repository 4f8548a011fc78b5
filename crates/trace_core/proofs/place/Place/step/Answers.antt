use Rattle.std.proofs.Common.{arith}
use Rattle.trace_core.proofs.Spelling.{spelled_next, spelled_tens}
use Rattle.trace_core.proofs.place.Place.step.Goals as goal

pub overflow_add-self-then-self : goal.overflow_add-self-then-self
overflow_add-self-then-self c =
    let p = c.self.inside in
    let h = spelled_next p.value p.text p.mask p.one p.last p.hundred p.size c.self.invariant c.if-self.true (omega arith) in omega (arith, h.1)

pub invariant_of-self : goal.invariant_of-self
invariant_of-self c =
    let p = c.self.inside in
    let h = spelled_next p.value p.text p.mask p.one p.last p.hundred p.size c.self.invariant c.if-self.true (omega arith) in h.0

pub overflow_mul-self : goal.overflow_mul-self
overflow_mul-self c =
    let p = c.self.inside in
    let h = spelled_tens p.value p.text p.mask p.one p.last p.hundred p.size c.self.invariant c.if-self.false c.if-self-2.true (omega arith) (omega arith) in omega (arith, h.4)

pub overflow_sub-self : goal.overflow_sub-self
overflow_sub-self c =
    let p = c.self.inside in
    let h = spelled_tens p.value p.text p.mask p.one p.last p.hundred p.size c.self.invariant c.if-self.false c.if-self-2.true (omega arith) (omega arith) in h.1

pub invariant_of-self-then-self-2 : goal.invariant_of-self-then-self-2
invariant_of-self-then-self-2 c =
    let p = c.self.inside in
    let h = spelled_tens p.value p.text p.mask p.one p.last p.hundred p.size c.self.invariant c.if-self.false c.if-self-2.true (omega arith) (omega arith) in h.0
