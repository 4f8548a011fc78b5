use Rattle.std.proofs.Common.{◌≡◌, ℕ, Bool, true, false, cond, List, [], ◌∷◌, ◌++◌, Some, refl, sym, ap, subst, ◌∙◌}
use Rattle.std.specs.Bool.{then_some}
use Rattle.std.proofs.lemmas.Option.{same_Some}
use Rattle.larch_actions.specs.declared.event.CondId.{CondId}
use Rattle.nub_rule.specs.Plays.{event, release_event, signal_action}
use Rattle.nub.specs.Rest.{Adds}
use Rattle.nub.proofs.Holding.{held_back}
use Rattle.nub.proofs.Users.{idle_again, same_on}
use Rattle.bounded_buffer.specs.Calls.{entered, exit_events}
use Rattle.bounded_buffer.specs.Parts.{did}
use Rattle.bounded_buffer.proofs.Ending.{then_adds}
use Rattle.bounded_buffer.proofs.exit.leave.Goals as goal

exit_if : (t : ℕ) (left : List ℕ) (o : CondId) (b : Bool) → exit_events t left (then_some b o) ≡ cond b (event t (signal_action o.0 left) ∷ []) []
exit_if t left o true = refl
exit_if t left o false = refl

pub give-requires-clause-rest : goal.give-requires-clause-rest
give-requires-clause-rest g c κs within = c.requires.visits.6.has.inn.rest

pub give-requires-clause-may : goal.give-requires-clause-may
give-requires-clause-may g c κs within =
    let v = c.requires.visits.6 in
    let h = v.has in
    let m = c.args.mutex.0 in
    let w = c.args.p.now.world in (
      h.value,
      h.inn.holds,
      λ u y own is.
          subst (λ n. g.B.Uses.allows w m n h.value y u (g.C.Change.after w m n h.value y u)) (sym h.inn.same.number)
          (subst (λ r. g.B.Uses.allows w m c.requires.visits.5.number h.value y r (g.C.Change.after w m c.requires.visits.5.number h.value y r)) (same_Some h.inn.share u (sym h.inn.is_share ∙ own))
          (v.lawful h.value y c.requires.visits.3 c.args.ring h.ring is v.does).0),
    )

pub returns-clause-ended : goal.returns-clause-ended
returns-clause-ended g c = λ o side s q d a v.
    let h = v.has in
    let inn = h.inn in
    let m = c.args.mutex.0 in
    let b = c.args.me.now in
    let e = c.give.new.me in
    let gave = c.give.ensures in
    let y = gave.share.0 in
    let law = v.lawful h.value y q c.args.ring h.ring gave.share.1 v.does in
    let es = entered a.number m o h.waited in
    let held = held_back a b e m h.value v.lacks inn.held gave.held in
    let now = g.C.Change.after c.args.p.now.world m a.number h.value y inn.share in
    record {
      held = held;
      idle = λ n u r i own. idle_again c.args.p.now n u r a e i gave.rest (same_on a b e inn.same gave.same) held own;
      ran = record {
        waited = h.waited;
        left = gave.event.0;
        events = subst (λ l. Adds (es ++ l) (release_event a.number m) a e) (ap (exit_events a.number gave.event.0) c.then_some.ensures ∙ exit_if a.number gave.event.0 c.args.other c.args.signalled ∙ ap (λ b. cond b (event a.number (signal_action c.args.other.0 gave.event.0) ∷ []) []) v.signalled) (then_adds es (λ n. exit_events n gave.event.0 c.then_some.result) (λ n. release_event n m) a b e inn.same inn.events gave.event.1);
        share = now;
        is_share = subst (λ n. e.share ≡ Some (g.C.Change.after c.args.p.now.world m n h.value y inn.share)) inn.same.number (gave.share.2 inn.share h.value inn.is_share inn.holds);
        here = law.1.here ∙ ap (did d) inn.here;
        elsewhere = λ j n. law.1.elsewhere j n ∙ inn.elsewhere j n;
        looking = inn.share;
        is_alike = inn.is_alike;
        looked = (h.value, y, q, c.args.ring, h.ring, gave.share.1, v.does, refl);
        shut = λ knows. (h.at_once knows, refl);
      };
    }
