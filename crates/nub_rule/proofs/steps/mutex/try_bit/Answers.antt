use Rattle.std.proofs.Common.{rules, arith, ◌≡◌, ◌<◌, ◌∙◌, ◌∷◌, ◌++◌, [], ℕ, ap, sym, subst, length, refl, Some, None, set}
use Rattle.larch_actions.specs.Sets.{without}
use Rattle.larch_actions.specs.declared.event.Life.{Life}
use Rattle.nub_rule.specs.declared.rule.Slot.TheVariants.{Value, Queue}
use Rattle.nub_rule.specs.Items.{no_queue}
use Rattle.nub_rule.specs.Known.{known_as, Makes, space_of}
use Rattle.nub_rule.specs.Parts.{made}
use Rattle.nub_rule.specs.Places.{value_at}
use Rattle.nub_rule.proofs.Naming.{mutex_low}
use Rattle.nub_rule.proofs.Handling.{values-set, value-there, hands-won}
use Rattle.nub_rule.proofs.AtHand.{noted, fit_noted}
use Rattle.nub_rule.proofs.Seen.{as_known, fit_moved}
use Rattle.std.proofs.Common.{Bool}
use Rattle.std.specs.Prelude.{Option as Opt}
use mathlib.Core.Option.{some}
use lib.ListN.{get_elem?}
use Rattle.larch_actions.specs.declared.event.Event.{Event}
use Rattle.nub_rule.specs.declared.view.Wait.{Wait}
use Rattle.nub_rule.specs.declared.view.Pen.{Pen}
use Rattle.nub_rule.specs.Parts.{MayRecord}
use Rattle.nub_rule.specs.Plays.{MayTake, event, taken_action}
use Rattle.nub_rule.proofs.Room.{room_for}
use Rattle.nub_rule.proofs.Turns.{find-else}
use Rattle.std.proofs.Common.{length-set}
use Rattle.nub_rule.proofs.Turns.{find-here}
use Rattle.nub_rule.specs.Known.{value_in}
use Rattle.nub_rule.specs.Plays.{Grows}
use Rattle.nub_rule.proofs.BitSteps.{try_bit_keeps, by_taking}
use Rattle.nub_rule.proofs.steps.mutex.try_bit.Goals as goal

pub compare_exchange-found-requires-clause-inside : goal.compare_exchange-found-requires-clause-inside
compare_exchange-found-requires-clause-inside g c κs within = let near = mutex_low _ _ _ _ c.p.view_is c.p.invariant.laid_out c.p.invariant.lawful c.args.m.0 c.requires.named in let word = c.mutex_bit.ensures in omega arith

pub compare_exchange-found-requires-clause-allowed : goal.compare_exchange-found-requires-clause-allowed
compare_exchange-found-requires-clause-allowed g c κs within = let near = mutex_low _ _ _ _ c.p.view_is c.p.invariant.laid_out c.p.invariant.lawful c.args.m.0 c.requires.named in let m : ℕ = c.args.m.0 in let apart : c.me.inside.seat.me.0.part.stand ≡ None = ap (λ k. k.stand) c.me.view_is ∙ c.requires.outside.1 in let traces : c.p.inside.table.shared.key.traced ≡ c.args.p.now.traced = ap (λ s. s.traced) c.p.view_is in
    let word = c.mutex_bit.ensures in try_bit_keeps _ _ _ _ _ g.U.Uses.fits (g.U.Uses.holds_fits _) _ _ m c.args.e c.me.inside.seat.me _ word (search rules) c.me.invariant.member apart (subst (λ (z : ℕ × Opt Wait). MayTake z.0 m z.1 c.args.e) (λ j. ((sym (c.me.invariant.numbered ∙ ap (λ k. k.number) c.me.view_is)) j, ap (λ k. k.wait) (sym c.me.view_is) j)) c.requires.may) (subst (λ (z : Bool × Life × Pen). MayRecord z.0 z.1 z.2) (λ j. (sym traces j, ap (λ k. k.life) (sym c.me.view_is) j, ap (λ k. k.pen) (sym c.me.view_is) j)) c.requires.pen)

pub take-requires : goal.take-requires
take-requires g c = let near = mutex_low _ _ _ _ c.p.view_is c.p.invariant.laid_out c.p.invariant.lawful c.args.m.0 c.requires.named in let m : ℕ = c.args.m.0 in let i = c.me.invariant in let u = (c.compare_exchange-found.ensures.2 m c.mutex_bit.ensures).0 c.if-found-eq0.true in
    room_for 256 (value_at m) (Queue no_queue) c.me.inside.seat.me.1 c.me.inside.hand i.distinct i.below (omega arith) (i.hands.value_lacked m u.4) i.keyed

pub invariant_of-me : goal.invariant_of-me
invariant_of-me g c = let near = mutex_low _ _ _ _ c.p.view_is c.p.invariant.laid_out c.p.invariant.lawful c.args.m.0 c.requires.named in let m : ℕ = c.args.m.0 in let out : c.me.inside.seat.me.0.part.spin ≡ None = ap (λ k. k.spin) c.me.view_is ∙ c.requires.outside.0 in let i = c.me.invariant in let h = i.hands in let u = (c.compare_exchange-found.ensures.2 m c.mutex_bit.ensures).0 c.if-found-eq0.true in
    let far : value_at m < 256 = omega arith in
    fit_moved _ _ c.me.inside.number c.me.inside.hand _ c.me.inside.seat.me _ _ ((value_at m, Value (Some u.0)) ∷ c.me.inside.seat.me.1) c.compare_exchange-found.ensures.0 u.6 i ((λ j. value_at m ∷ i.keyed j) ∙ sym c.take.ensures) (h.value_lacked m u.4, i.distinct) (far, i.below) (length-set c.me.inside.seat.me.0.part.held m (Some u.0))
    (hands-won c.me.inside.seat.me.0.part _ c.me.inside.seat.me.1 ((value_at m, Value (Some u.0)) ∷ c.me.inside.seat.me.1) m u.0 near i.wide refl refl out refl refl h)

pub invariant_of-me-else-found-eq0 : goal.invariant_of-me-else-found-eq0
invariant_of-me-else-found-eq0 g c = let m : ℕ = c.args.m.0 in let i = c.me.invariant in fit_noted _ _ c.me.inside.number c.me.inside.hand c.me.inside.seat.me _ _ c.compare_exchange-found.ensures.0 ((c.compare_exchange-found.ensures.2 m c.mutex_bit.ensures).1 c.if-found-eq0.false) i refl refl refl refl refl

pub returns-then-found-eq0-clause-event : goal.returns-then-found-eq0-clause-event
returns-then-found-eq0-clause-event g c = let m : ℕ = c.args.m.0 in let i = c.me.invariant in let u = (c.compare_exchange-found.ensures.2 m c.mutex_bit.ensures).0 c.if-found-eq0.true in let is_event = sym (by_taking c.me.inside.seat.me.0.number m c.me.inside.seat.me.0.part.wait c.args.e (subst (λ (z : ℕ × Opt Wait). MayTake z.0 m z.1 c.args.e) (λ j. ((sym (c.me.invariant.numbered ∙ ap (λ k. k.number) c.me.view_is)) j, ap (λ k. k.wait) (sym c.me.view_is) j)) c.requires.may)) in
    λ _. as_known (λ z m' a. Makes c.args.e a (known_as z c.me.inside.number m' c.me.inside.entries.items (space_of c.me.inside.entries c.me.inside.lost) c.me.inside.next)) _ _ _ _ _ c.me.inside.seat.me _ _ _ c.me.view_is c.compare_exchange-found.ensures.0 u.6
    (u.1, subst (λ (z : ℕ × Event). Grows z.0 c.me.inside.seat.me.0.part u.1 z.1) (λ j. (i.numbered j, is_event j)) u.3, (λ j. (c.me.inside.seat.me.0.part.seen ++ u.1) ++ is_event j ∷ []), (λ j. c.me.inside.seat.me.0.part.mine ++ is_event j ∷ []), refl)

pub returns-then-found-eq0-clause-lacked : goal.returns-then-found-eq0-clause-lacked
returns-then-found-eq0-clause-lacked g c = let m : ℕ = c.args.m.0 in let u = (c.compare_exchange-found.ensures.2 m c.mutex_bit.ensures).0 c.if-found-eq0.true in λ _. ap (λ k. get_elem? k.held m) (sym c.me.view_is) ∙ u.4

pub returns-then-found-eq0-clause-won : goal.returns-then-found-eq0-clause-won
returns-then-found-eq0-clause-won g c = let near = mutex_low _ _ _ _ c.p.view_is c.p.invariant.laid_out c.p.invariant.lawful c.args.m.0 c.requires.named in let m : ℕ = c.args.m.0 in let i = c.me.invariant in let u = (c.compare_exchange-found.ensures.2 m c.mutex_bit.ensures).0 c.if-found-eq0.true in
    let found = find-here (value_at m) (value_at m, Value (Some u.0)) c.me.inside.seat.me.1 refl in
    let v = values-set m (Some (Some u.0)) c.me.inside.seat.me.1 ((value_at m, Value (Some u.0)) ∷ c.me.inside.seat.me.1) near (ap value_in found) (λ k ne. find-else (value_at k) (value_at m, Value (Some u.0)) c.me.inside.seat.me.1 (λ z. ne (omega arith))) in
    let r = as_known (λ z m' a. let b = known_as z c.me.inside.number m' c.me.inside.entries.items (space_of c.me.inside.entries c.me.inside.lost) c.me.inside.next in (get_elem? b.held m ≡ some (Some u.0)) × (get_elem? b.values m ≡ some (Some (Some u.0))) × (b ≡ record a { part = record a.part { seen = b.seen; mine = b.mine; places = b.places; held = set a.held m (Some u.0); wait = None; failed = without m a.failed; turns = without m a.turns; pen = made a.pen }; values = set a.values m (Some (Some u.0)) }) × ((w : g.row.U-World.Denot) (s : g.row.U-Share.Denot) → a.world ≡ Some w → a.share ≡ Some s → g.U.Uses.fits w m u.0 a.number s)) _ _ _ _ _ c.me.inside.seat.me _ _ _ c.me.view_is c.compare_exchange-found.ensures.0 u.6 (
      u.5,
      value-there m (Some u.0) ((value_at m, Value (Some u.0)) ∷ c.me.inside.seat.me.1) near found,
      (λ j. record (known_as c.me.inside.seat.table_id c.me.inside.number c.me.inside.seat.me c.me.inside.entries.items (space_of c.me.inside.entries c.me.inside.lost) c.me.inside.next) { part = record c.me.inside.seat.me.0.part { seen = (c.me.inside.seat.me.0.part.seen ++ u.1) ++ event c.me.inside.seat.me.0.number (taken_action m c.me.inside.seat.me.0.part.wait) ∷ []; mine = c.me.inside.seat.me.0.part.mine ++ event c.me.inside.seat.me.0.number (taken_action m c.me.inside.seat.me.0.part.wait) ∷ []; places = c.me.inside.seat.me.0.part.places ++ length (c.me.inside.seat.me.0.part.seen ++ u.1) ∷ []; held = set c.me.inside.seat.me.0.part.held m (Some u.0); wait = None; failed = without m c.me.inside.seat.me.0.part.failed; turns = without m c.me.inside.seat.me.0.part.turns; pen = made c.me.inside.seat.me.0.part.pen }; values = v j }),
      λ w s world share. subst (λ (n : ℕ). g.U.Uses.fits w m u.0 n s) i.numbered (u.2 w s world share),
    ) in
    λ _. (u.0, r.0, r.1, r.2, r.3)

pub returns-else-found-eq0-clause-lost : goal.returns-else-found-eq0-clause-lost
returns-else-found-eq0-clause-lost g c = let m : ℕ = c.args.m.0 in λ _. noted (λ _ p. record p { failed = m ∷ p.failed; turns = without m p.turns }) _ _ _ _ _ c.me.inside.seat.me _ _ c.me.view_is c.compare_exchange-found.ensures.0 ((c.compare_exchange-found.ensures.2 m c.mutex_bit.ensures).1 c.if-found-eq0.false)

pub returns-else-found-eq0-clause-won : goal.returns-else-found-eq0-clause-won
returns-else-found-eq0-clause-won g c = λ hit. absurd (c.if-found-eq0.false hit)

pub returns-then-found-eq0-clause-lost : goal.returns-then-found-eq0-clause-lost
returns-then-found-eq0-clause-lost g c = λ miss. absurd (miss c.if-found-eq0.true)

pub returns-else-found-eq0-clause-event : goal.returns-else-found-eq0-clause-event
returns-else-found-eq0-clause-event g c = λ hit. absurd (c.if-found-eq0.false hit)

pub returns-else-found-eq0-clause-lacked : goal.returns-else-found-eq0-clause-lacked
returns-else-found-eq0-clause-lacked g c = λ hit. absurd (c.if-found-eq0.false hit)
