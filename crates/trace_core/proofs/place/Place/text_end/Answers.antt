use Rattle.std.proofs.Common.{ap, arith}
use Rattle.std.specs.Prelude.{decimal}
use Rattle.trace_core.proofs.UsualTexts.{stands_as}
use Rattle.trace_core.proofs.Spelling.{place_there}
use Rattle.trace_core.proofs.place.Place.text_end.Goals as goal

pub returns-clause-text : goal.returns-clause-text
returns-clause-text c =
    let p = c.self.inside in
    let h = place_there c.args.bytes.now p.value p.text p.mask p.one p.last p.hundred p.size c.eight.result c.requires (λ i. omega (arith, c.type_inv.bytes i)) c.self.invariant c.eight.ensures c.if-eight-self.false in
    stands_as (ap decimal c.self.view_is) h.0

pub returns-clause-near : goal.returns-clause-near
returns-clause-near c =
    let p = c.self.inside in
    let h = place_there c.args.bytes.now p.value p.text p.mask p.one p.last p.hundred p.size c.eight.result c.requires (λ i. omega (arith, c.type_inv.bytes i)) c.self.invariant c.eight.ensures c.if-eight-self.false in
    h.1
