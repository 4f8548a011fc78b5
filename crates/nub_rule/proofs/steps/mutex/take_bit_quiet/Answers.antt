use Rattle.std.proofs.Common.{rules, arith, ◌≡◌, ◌∙◌, ◌∷◌, ℕ, ap, sym, subst, refl, Some, None, set, length-set}
use mathlib.Core.Option.{some}
use lib.ListN.{get_elem?}
use Rattle.larch_actions.specs.Sets.{without}
use Rattle.nub_rule.specs.declared.rule.Slot.TheVariants.{Value, Queue}
use Rattle.nub_rule.specs.Items.{no_queue}
use Rattle.nub_rule.specs.Known.{known_as, value_in, space_of}
use Rattle.nub_rule.specs.Places.{value_at}
use Rattle.nub_rule.specs.Plays.{quieted}
use Rattle.nub_rule.proofs.Naming.{mutex_low}
use Rattle.nub_rule.proofs.Handling.{values-set, value-there, hands-won}
use Rattle.nub_rule.proofs.AtHand.{noted, fit_noted}
use Rattle.nub_rule.proofs.Room.{room_for}
use Rattle.nub_rule.proofs.Seen.{as_known, fit_moved}
use Rattle.nub_rule.proofs.Turns.{find-else, find-here}
use Rattle.nub_rule.proofs.WaitSteps.{take_bit_quiet_keeps}
use Rattle.nub_rule.proofs.steps.mutex.take_bit_quiet.Goals as goal

pub compare_exchange-found-requires-clause-inside : goal.compare_exchange-found-requires-clause-inside
compare_exchange-found-requires-clause-inside g c κs within = let near = mutex_low _ _ _ _ c.p.view_is c.p.invariant.laid_out c.p.invariant.lawful c.args.m.0 c.requires.named in let word = c.mutex_bit.ensures in omega arith

pub compare_exchange-found-requires-clause-allowed : goal.compare_exchange-found-requires-clause-allowed
compare_exchange-found-requires-clause-allowed g c κs within = let near = mutex_low _ _ _ _ c.p.view_is c.p.invariant.laid_out c.p.invariant.lawful c.args.m.0 c.requires.named in let m : ℕ = c.args.m.0 in let x = c.requires.waits in
    let word = c.mutex_bit.ensures in take_bit_quiet_keeps _ _ _ _ _ g.U.Uses.fits (g.U.Uses.holds_fits _) _ _ m x.0 c.me.inside.seat.me _ word (search rules) c.me.invariant.member (ap (λ k. k.wait) c.me.view_is ∙ x.1) x.2

pub take-requires : goal.take-requires
take-requires g c = let near = mutex_low _ _ _ _ c.p.view_is c.p.invariant.laid_out c.p.invariant.lawful c.args.m.0 c.requires.named in let m : ℕ = c.args.m.0 in let i = c.me.invariant in let u = (c.compare_exchange-found.ensures.2 m c.mutex_bit.ensures).0 c.if-found-eq0.true in
    room_for 256 (value_at m) (Queue no_queue) c.me.inside.seat.me.1 c.me.inside.hand i.distinct i.below (omega arith) (i.hands.value_lacked m u.2) i.keyed

pub invariant_of-me : goal.invariant_of-me
invariant_of-me g c = let near = mutex_low _ _ _ _ c.p.view_is c.p.invariant.laid_out c.p.invariant.lawful c.args.m.0 c.requires.named in let m : ℕ = c.args.m.0 in let out : c.me.inside.seat.me.0.part.spin ≡ None = ap (λ k. k.spin) c.me.view_is ∙ c.requires.outside.0 in let i = c.me.invariant in let h = i.hands in let u = (c.compare_exchange-found.ensures.2 m c.mutex_bit.ensures).0 c.if-found-eq0.true in
    fit_moved _ _ c.me.inside.number c.me.inside.hand _ c.me.inside.seat.me _ _ ((value_at m, Value (Some u.0)) ∷ c.me.inside.seat.me.1) c.compare_exchange-found.ensures.0 u.4 i ((λ j. value_at m ∷ i.keyed j) ∙ sym c.take.ensures) (h.value_lacked m u.2, i.distinct) (omega arith, i.below) (length-set c.me.inside.seat.me.0.part.held m (Some u.0))
    (hands-won c.me.inside.seat.me.0.part _ c.me.inside.seat.me.1 ((value_at m, Value (Some u.0)) ∷ c.me.inside.seat.me.1) m u.0 near i.wide refl refl out refl refl h)

pub invariant_of-me-else-found-eq0 : goal.invariant_of-me-else-found-eq0
invariant_of-me-else-found-eq0 g c = let m : ℕ = c.args.m.0 in let i = c.me.invariant in let h = i.hands in
    fit_noted _ _ c.me.inside.number c.me.inside.hand c.me.inside.seat.me _ _ c.compare_exchange-found.ensures.0 ((c.compare_exchange-found.ensures.2 m c.mutex_bit.ensures).1 c.if-found-eq0.false) i refl refl refl refl refl

pub returns-then-found-eq0-clause-lacked : goal.returns-then-found-eq0-clause-lacked
returns-then-found-eq0-clause-lacked g c = let m : ℕ = c.args.m.0 in let u = (c.compare_exchange-found.ensures.2 m c.mutex_bit.ensures).0 c.if-found-eq0.true in λ _. ap (λ k. get_elem? k.held m) (sym c.me.view_is) ∙ u.2

pub returns-then-found-eq0-clause-won : goal.returns-then-found-eq0-clause-won
returns-then-found-eq0-clause-won g c = let near = mutex_low _ _ _ _ c.p.view_is c.p.invariant.laid_out c.p.invariant.lawful c.args.m.0 c.requires.named in let m : ℕ = c.args.m.0 in let i = c.me.invariant in let u = (c.compare_exchange-found.ensures.2 m c.mutex_bit.ensures).0 c.if-found-eq0.true in
    let found = find-here (value_at m) (value_at m, Value (Some u.0)) c.me.inside.seat.me.1 refl in
    let v = values-set m (Some (Some u.0)) c.me.inside.seat.me.1 ((value_at m, Value (Some u.0)) ∷ c.me.inside.seat.me.1) near (ap value_in found) (λ k ne. find-else (value_at k) (value_at m, Value (Some u.0)) c.me.inside.seat.me.1 (λ z. ne (omega arith))) in
    let r = as_known (λ z m' a. let b = known_as z c.me.inside.number m' c.me.inside.entries.items (space_of c.me.inside.entries c.me.inside.lost) c.me.inside.next in (get_elem? b.held m ≡ some (Some u.0)) × (get_elem? b.values m ≡ some (Some (Some u.0))) × (b ≡ record a { part = record a.part { held = set a.held m (Some u.0); wait = quieted a.wait; failed = without m a.failed; turns = without m a.turns }; values = set a.values m (Some (Some u.0)) }) × ((w : g.row.U-World.Denot) (s : g.row.U-Share.Denot) → a.world ≡ Some w → a.share ≡ Some s → g.U.Uses.fits w m u.0 a.number s)) _ _ _ _ _ c.me.inside.seat.me _ _ _ c.me.view_is c.compare_exchange-found.ensures.0 u.4 (
      u.3,
      value-there m (Some u.0) ((value_at m, Value (Some u.0)) ∷ c.me.inside.seat.me.1) near found,
      (λ j. record (known_as c.me.inside.seat.table_id c.me.inside.number c.me.inside.seat.me c.me.inside.entries.items (space_of c.me.inside.entries c.me.inside.lost) c.me.inside.next) { part = record c.me.inside.seat.me.0.part { held = set c.me.inside.seat.me.0.part.held m (Some u.0); wait = quieted c.me.inside.seat.me.0.part.wait; failed = without m c.me.inside.seat.me.0.part.failed; turns = without m c.me.inside.seat.me.0.part.turns }; values = v j }),
      λ w s world share. subst (λ (n : ℕ). g.U.Uses.fits w m u.0 n s) i.numbered (u.1 w s world share),
    ) in
    λ _. (u.0, r.0, r.1, r.2, r.3)

pub returns-else-found-eq0-clause-lost : goal.returns-else-found-eq0-clause-lost
returns-else-found-eq0-clause-lost g c = let m : ℕ = c.args.m.0 in λ _. noted (λ _ p. record p { failed = m ∷ p.failed; turns = without m p.turns }) _ _ _ _ _ c.me.inside.seat.me _ _ c.me.view_is c.compare_exchange-found.ensures.0 ((c.compare_exchange-found.ensures.2 m c.mutex_bit.ensures).1 c.if-found-eq0.false)

pub returns-else-found-eq0-clause-won : goal.returns-else-found-eq0-clause-won
returns-else-found-eq0-clause-won g c = λ hit. absurd (c.if-found-eq0.false hit)

pub returns-else-found-eq0-clause-lacked : goal.returns-else-found-eq0-clause-lacked
returns-else-found-eq0-clause-lacked g c = λ hit. absurd (c.if-found-eq0.false hit)

pub returns-then-found-eq0-clause-lost : goal.returns-then-found-eq0-clause-lost
returns-then-found-eq0-clause-lost g c = λ miss. absurd (miss c.if-found-eq0.true)
