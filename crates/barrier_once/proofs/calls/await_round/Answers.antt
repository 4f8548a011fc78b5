use Rattle.std.proofs.Common.{◌≡◌, ◌+◌, ◌≤◌, zero, suc, Some, None, slice_set, arith, sym, ap, subst, ◌∙◌, refl, inl, inr}
use Rattle.std.proofs.lemmas.List.{set-set}
use Rattle.std.proofs.lemmas.Option.{same_Some}
use Rattle.nub.proofs.Users.{same_on}
use Rattle.barrier_once.specs.Cells.{round_of}
use Rattle.barrier_once.specs.Calls.{HasLeft, waits}
use Rattle.barrier_once.specs.Rounds.{Allowed, arrived_share}
use Rattle.barrier_once.proofs.Visits.{at_round, entered_first, entered_last, entered_more, gave_after, of_own, waited, waited_on}
use Rattle.barrier_once.proofs.Walks.{waits_acquire, waits_release}
use Rattle.barrier_once.proofs.calls.await_round.Goals as goal

pub loop-init : goal.loop-init
loop-init g c =
    let s = c.requires.bar.0 in
    let b = c.requires.bar.1 in
    let w = c.args.p.now.world in
    let was = c.wait-seen.ensures in
    let m = c.args.at.now.bar.0 in
    let one = was.stint w s c.args.bar b.world b.share b.holds in
    let share = was.share w s c.args.bar b.world b.share b.holds in (
      s,
      zero,
      b,
      record {
        rest = was.rest;
        same = was.same;
        events = waited c.args.at.now.bar.0 c.args.at.now.cond.0 c.args.me.now c.wait-seen.new.me was.event;
        stints = entered_first m c.args.at.now.cond.0 (s.arrivals + 1) s.left c.args.me.now c.wait-seen.new.me _ one refl (omega arith);
        held = was.held;
        holds = was.holds;
        share = share;
        knows = (was.fits w (arrived_share s) (was.same.world ∙ b.world) share).bar (ap (λ l. l.bar.0) b.placed.world);
      },
    )

pub release-requires-clause-rest : goal.release-requires-clause-rest
release-requires-clause-rest g c κs within = c.loop.invariant.3.rest

pub release-requires-clause-may : goal.release-requires-clause-may
release-requires-clause-may g c κs within =
    let inv = c.loop.invariant in
    let s = inv.0 in
    let b = inv.2 in
    let w = c.args.p.now.world in
    let m = c.args.at.now.bar.0 in
    let x = c.loop.seen in
    let left = b.may.left in
    let round = at_round w c.args.me.now.number c.args.bar s b.knows b.may in
    let over : s.arrivals + 1 ≤ round_of x = omega (arith, c.round-round.ensures, c.round.ensures, c.if-round.true) in (
      x,
      inv.3.holds,
      of_own (λ v u. Allowed v m c.loop.me.number x x u (record u { left = u.left + 1 })) c.loop.me w (arrived_share s) (inv.3.same.world ∙ b.world) inv.3.share
          (inr (inr (inr (inl record { mutex = ap (λ l. l.bar.0) b.placed.world; following = omega arith; over = over; now = refl; share = refl })))),
    )

pub returns-then-round : goal.returns-then-round
returns-then-round g c = λ s b.
    let inv = c.loop.invariant in
    let inn = inv.3 in
    let w = c.args.p.now.world in
    let m = c.args.at.now.bar.0 in
    let o = c.args.at.now.cond.0 in
    let a = c.args.me.now in
    let e = c.release.new.me in
    let x = c.loop.seen in
    let gave = c.release.ensures in
    let own : inv.0 ≡ s = same_Some inv.0 s (sym inv.2.share ∙ b.share) in
    let es = waits a.number m o (suc inv.1) in
    let came = inv.0.arrivals + 1 in
    let one = gave.stint w (arrived_share inv.0) x (inn.same.world ∙ inv.2.world) inn.share inn.holds in
    let entered = entered_last m came inv.0.left es a c.loop.me e _ (waits_acquire a.number m o (suc inv.1)) (waits_release a.number m o (suc inv.1)) inn.stints one refl (omega arith) refl in
    subst (λ u. HasLeft c.args.p.now c.args.at.now u a e) own record {
      rest = gave.rest;
      same = same_on a c.loop.me e inn.same gave.same;
      ran = (es, inr (inv.1, refl), gave_after m o (suc inv.1) a c.loop.me e inn.same inn.events gave.event, entered);
      held = gave.held ∙ (ap (λ h. slice_set h m None) inn.held ∙ set-set a.held m (Some x) None);
      share = gave.share w (arrived_share inv.0) x (inn.same.world ∙ inv.2.world) inn.share inn.holds;
    }

pub wait-seen-requires-in-loop-clause-rest : goal.wait-seen-requires-in-loop-clause-rest
wait-seen-requires-in-loop-clause-rest g c κs within = c.loop.invariant.3.rest

pub wait-seen-requires-in-loop-clause-may : goal.wait-seen-requires-in-loop-clause-may
wait-seen-requires-in-loop-clause-may g c κs within = (c.loop.seen, c.loop.invariant.3.holds, λ w s world share. inl (refl, refl))

pub loop-preserved : goal.loop-preserved
loop-preserved g c =
    let inv = c.loop.invariant in
    let inn = inv.3 in
    let s = inv.0 in
    let b = inv.2 in
    let w = c.args.p.now.world in
    let m = c.args.at.now.bar.0 in
    let a = c.args.me.now in
    let e = c.wait-seen-in-loop.new.me in
    let y = c.wait-seen-in-loop.result in
    let again = c.wait-seen-in-loop.ensures in
    let world = inn.same.world ∙ b.world in
    let one = again.stint w (arrived_share s) c.loop.seen world inn.share inn.holds in
    let share = again.share w (arrived_share s) c.loop.seen world inn.share inn.holds in (
      s,
      suc inv.1,
      b,
      record {
        rest = again.rest;
        same = same_on a c.loop.me e inn.same again.same;
        events = waited_on m c.args.at.now.cond.0 (suc inv.1) a c.loop.me e inn.same inn.events again.event;
        stints = entered_more m c.args.at.now.cond.0 (suc inv.1) (s.arrivals + 1) s.left a c.loop.me e _ inn.stints one refl (omega arith);
        held = again.held ∙ (ap (λ h. slice_set h m (Some y)) inn.held ∙ set-set a.held m (Some c.loop.seen) (Some y));
        holds = again.holds;
        share = share;
        knows = (again.fits w (arrived_share s) (again.same.world ∙ world) share).bar (ap (λ l. l.bar.0) b.placed.world);
      },
    )
