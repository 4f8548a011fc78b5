use Rattle.std.proofs.Common.{[], refl, sym, subst, ◌∙◌}
use Rattle.std.proofs.lemmas.Option.{same_Some}
use Rattle.nub_rule.specs.Plays.{acquire_event}
use Rattle.nub.proofs.Adding.{added}
use Rattle.bounded_buffer.specs.Parts.{IsWithin}
use Rattle.bounded_buffer.proofs.Ending.{none-more}
use Rattle.bounded_buffer.proofs.entry.acquire_ring.Goals as goal

pub ring_of-requires-after_bounds : goal.ring_of-requires-after_bounds
ring_of-requires-after_bounds g c κs within =
    let s = c.requires.share in
    let q = g.met.B.BufferUse.fits_ring c.args.p.now.world c.args.at.now c.requires.buffer c.args.me.now.number c.acquire.result s.0 (c.acquire.ensures.fits c.args.p.now.world s.0 c.requires.world s.1) in
    (q.0, q.1)

pub returns-clause-entered : goal.returns-clause-entered
returns-clause-entered g c = λ o side s own.
    let B = g.B.BufferUse in
    let a = c.args.me.now in
    let b = c.acquire.new.me in
    let m = c.args.at.now.mutex.0 in
    let got = c.acquire.ensures in
    let fits = got.fits c.args.p.now.world s c.requires.world own in
    let q = g.met.B.BufferUse.fits_ring c.args.p.now.world c.args.at.now c.requires.buffer a.number c.acquire.result s fits in
    record {
      waited = 0;
      value = c.acquire.result;
      inn = record {
        rest = got.rest;
        same = got.same;
        events = added [] (acquire_event a.number m) a b got.event;
        held = got.held;
        holds = got.holds;
        share = s;
        is_share = got.share ∙ own;
        here = none-more side (B.part s m);
        elsewhere = λ j n. refl;
        is_alike = g.met.B.BufferUse.alike_self s;
        fits = fits;
      };
      ring = c.ring_of.ensures;
      within = subst (IsWithin (B.part s m)) (same_Some q.0 c.ring_of.result (sym q.1 ∙ c.ring_of.ensures)) q.2;
      at_once = λ knows. refl;
    }
