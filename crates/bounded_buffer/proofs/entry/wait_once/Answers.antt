use Rattle.std.proofs.Common.{◌+◌, true, [], ◌∷◌, ◌++◌, refl, sym, ap, subst, ◌∙◌, append-nil, add-one}
use Rattle.std.proofs.lemmas.Option.{same_Some}
use Rattle.nub_rule.specs.Known.{Known}
use Rattle.nub_rule.specs.Plays.{acquire_event, enqueue_event, release_event}
use Rattle.nub.specs.Rest.{Adds}
use Rattle.nub.proofs.Holding.{held_back, held_on}
use Rattle.nub.proofs.Users.{idle_again, same_on}
use Rattle.alert_wait.specs.Outcomes.{wait_end}
use Rattle.bounded_buffer.specs.Calls.{entered, raise, waits}
use Rattle.bounded_buffer.specs.Parts.{IsWithin, did}
use Rattle.bounded_buffer.specs.Sides.{wait_of}
use Rattle.bounded_buffer.specs.Waiting.{HasEntered, IsIn}
use Rattle.bounded_buffer.proofs.Ending.{is-wait, not_shut, one-more, then_added, then_adds, waits-more}
use Rattle.bounded_buffer.proofs.entry.wait_once.Given.{Over}
use Rattle.bounded_buffer.proofs.entry.wait_once.Goals.{After-alert_wait-outcome}
use Rattle.bounded_buffer.proofs.entry.wait_once.Goals as goal

-- the thread after the wait, however it ended
again : (g : Over) (c : After-alert_wait-outcome g) (a : Known g.row.B-Value.Denot g.row.B-Share.Denot g.row.B-World.Denot) (s : g.row.B-Share.Denot)
    (h : HasEntered g.B.BufferUse.ring_in g.B.BufferUse.part g.B.BufferUse.alike g.B.Uses.fits c.args.p.now c.args.at.now.mutex.0 c.args.c.0 c.args.side s c.args.ring a c.args.me.now)
    → IsIn g.B.BufferUse.ring_in g.B.BufferUse.part g.B.BufferUse.alike g.B.Uses.fits c.args.p.now c.args.at.now.mutex.0 c.args.c.0 c.args.side
    (entered a.number c.args.at.now.mutex.0 c.args.c.0 h.waited ++ enqueue_event true a.number c.args.at.now.mutex.0 c.args.c.0 ∷ wait_end c.alert_wait-outcome.result.0 a.number c.args.at.now.mutex.0 c.args.c.0 ∷ [])
    (h.waited + 1) s c.alert_wait-outcome.result.1 a c.alert_wait-outcome.new.me
again g c a s h =
    let w = c.args.p.now.world in
    let m = c.args.at.now.mutex.0 in
    let o = c.args.c.0 in
    let b = c.args.me.now in
    let e = c.alert_wait-outcome.new.me in
    let gone = c.alert_wait-outcome.ensures in
    let y = c.from_ring.result in
    let inn = h.inn in
    let law = c.requires.lawful b.number inn.share h.value y c.args.ring c.args.ring h.ring c.from_ring.ensures c.requires.waits in
    let now = g.C.Change.after w m b.number h.value y inn.share in
    let share = gone.share w inn.share h.value c.requires.world inn.is_share inn.holds in
    record {
      rest = gone.rest;
      same = same_on a b e inn.same gone.same;
      events = then_added (entered a.number m o h.waited) (λ n. enqueue_event true n m o ∷ []) (λ n. wait_end c.alert_wait-outcome.result.0 n m o) a b e inn.same inn.events gone.event;
      held = held_on a b e m h.value c.alert_wait-outcome.result.1 inn.held gone.held;
      holds = gone.holds;
      share = now;
      is_share = share;
      here = law.1.here ∙ (ap (did (wait_of c.args.side)) inn.here ∙ one-more c.args.side h.waited (g.B.BufferUse.part s m));
      elsewhere = λ j n. law.1.elsewhere j n ∙ inn.elsewhere j n;
      is_alike = g.met.B.BufferUse.alike_on s inn.share now inn.is_alike (law.2 (is-wait g.row.B-Item.Denot c.args.side));
      fits = subst (λ n. g.B.Uses.fits w m c.alert_wait-outcome.result.1 n now) (gone.same.number ∙ inn.same.number) (gone.fits w now (gone.same.world ∙ c.requires.world) share);
    }

pub alert_wait-outcome-requires-clause-rest : goal.alert_wait-outcome-requires-clause-rest
alert_wait-outcome-requires-clause-rest g c κs within = c.requires.entered.2.inn.rest

pub alert_wait-outcome-requires-clause-may : goal.alert_wait-outcome-requires-clause-may
alert_wait-outcome-requires-clause-may g c κs within =
    let h = c.requires.entered.2 in
    let m = c.args.at.now.mutex.0 in
    let n = c.args.me.now.number in
    let y = c.from_ring.result in (
      h.value,
      h.inn.holds,
      λ w s world share. subst (λ v. g.B.Uses.allows v m n h.value y s (g.C.Change.after v m n h.value y s)) (same_Some c.args.p.now.world w (sym c.requires.world ∙ world))
          (c.requires.lawful n s h.value y c.args.ring c.args.ring h.ring c.from_ring.ensures c.requires.waits).0,
    )

pub ring_of-again-requires-after_bounds : goal.ring_of-again-requires-after_bounds
ring_of-again-requires-after_bounds g c κs within =
    let has = c.requires.entered in
    let inn = again g (goal.at.ring_of-again-requires-after_bounds g c).After-alert_wait-outcome has.0 has.1 has.2 in
    let q = g.met.B.BufferUse.fits_ring c.args.p.now.world c.args.at.now c.requires.buffer has.0.number c.alert_wait-outcome.result.1 inn.share inn.fits in
    (q.0, q.1)

pub give-requires-clause-may : goal.give-requires-clause-may
give-requires-clause-may g c κs within =
    let x = c.alert_wait-outcome.result.1 in
    (x, c.alert_wait-outcome.ensures.holds, λ s y share is. g.met.B.BufferUse.stay_allowed c.args.p.now.world c.args.at.now c.requires.buffer c.alert_wait-outcome.new.me.number x y s c.ring_of-again.result c.ring_of-again.ensures is)

pub returns-in-Returned-clause-waited : goal.returns-in-Returned-clause-waited
returns-in-Returned-clause-waited g c = λ a s lacks h.
    let B = g.B.BufferUse in
    let m = c.args.at.now.mutex.0 in
    let o = c.args.c.0 in
    let value = c.alert_wait-outcome.result.1 in
    let more = ap (λ r. entered a.number m o h.waited ++ enqueue_event true a.number m o ∷ wait_end r a.number m o ∷ []) c.in-Returned.is ∙ ap (λ l. acquire_event a.number m ∷ l) (waits-more a.number m o h.waited ∙ ap (waits a.number m o) (sym (add-one h.waited))) in
    let inn = subst (λ l. IsIn B.ring_in B.part B.alike g.B.Uses.fits c.args.p.now m o c.args.side l (h.waited + 1) s value a c.alert_wait-outcome.new.me) more (again g (goal.at.returns-in-Returned-clause-waited g c).After-alert_wait-outcome a s h) in
    let q = g.met.B.BufferUse.fits_ring c.args.p.now.world c.args.at.now c.requires.buffer a.number value inn.share inn.fits in
    record {
      waited = h.waited + 1;
      value = value;
      inn = inn;
      ring = c.ring_of-again.ensures;
      within = subst (IsWithin (B.part inn.share m)) (same_Some q.0 c.ring_of-again.result (sym q.1 ∙ c.ring_of-again.ensures)) q.2;
      at_once = λ knows. absurd (not_shut c.args.side h.waited (B.part s m) (B.part h.inn.share m) c.args.ring c.requires.waits h.within h.inn.here knows);
    }

pub returns-in-Alerted-clause-waited : goal.returns-in-Alerted-clause-waited
returns-in-Alerted-clause-waited g c = λ a s lacks h o.
    let B = g.B.BufferUse in
    let m = c.args.at.now.mutex.0 in
    let b = c.alert_wait-outcome.new.me in
    let e = c.give.new.me in
    let value = c.alert_wait-outcome.result.1 in
    let raised = ap (λ r. entered a.number m c.args.c.0 h.waited ++ enqueue_event true a.number m c.args.c.0 ∷ wait_end r a.number m c.args.c.0 ∷ []) c.in-Alerted.is in
    let es = entered a.number m c.args.c.0 h.waited ++ raise a.number m c.args.c.0 in
    let inn = subst (λ l. IsIn B.ring_in B.part B.alike g.B.Uses.fits c.args.p.now m c.args.c.0 c.args.side l (h.waited + 1) s value a b) raised (again g (goal.at.returns-in-Alerted-clause-waited g c).After-alert_wait-outcome a s h) in
    let gave = c.give.ensures in
    let held = held_back a b e m value lacks inn.held gave.held in
    record {
      held = held;
      idle = λ n u r i own. idle_again c.args.p.now n u r a e i gave.rest (same_on a b e inn.same gave.same) held own;
      ran = record {
        waited = h.waited;
        left = [];
        events = subst (λ l. Adds l (release_event a.number m) a e) (append-nil es) (then_adds es (λ n. []) (λ n. release_event n m) a b e inn.same inn.events gave.event.1);
        share = inn.share;
        is_share = gave.share.2 inn.share value inn.is_share inn.holds;
        here = inn.here;
        elsewhere = inn.elsewhere;
        looking = inn.share;
        is_alike = inn.is_alike;
        looked = refl;
        shut = λ knows. absurd (not_shut c.args.side h.waited (B.part s m) (B.part h.inn.share m) c.args.ring c.requires.waits h.within h.inn.here knows);
      };
    }
