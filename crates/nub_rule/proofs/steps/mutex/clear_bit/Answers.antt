use Rattle.std.proofs.Common.{rules, arith, ◌≡◌, ◌∙◌, ◌∷◌, ◌++◌, [], ℕ, ap, sym, subst, length, refl, Some, None, set}
use Rattle.larch_actions.specs.declared.event.Life.{Life}
use Rattle.nub_rule.specs.declared.rule.Slot.TheVariants.{Value}
use Rattle.nub_rule.specs.Known.{known_as, Makes, space_of}
use Rattle.nub_rule.specs.Parts.{made}
use Rattle.nub_rule.specs.Places.{value_at}
use Rattle.nub_rule.specs.Plays.{with_part}
use Rattle.nub_rule.proofs.Naming.{mutex_low}
use Rattle.nub_rule.proofs.Handling.{values-set, value-found, gone}
use Rattle.nub_rule.proofs.Seen.{as_known}
use Rattle.std.proofs.Common.{Bool}
use Rattle.nub_rule.specs.declared.view.Pen.{Pen}
use Rattle.nub_rule.specs.Parts.{MayRecord}
use Rattle.nub_rule.specs.Plays.{recorded}
use Rattle.atomic_table.specs.Table.{rest}
use Rattle.nub_rule.specs.Known.{value_in, MayGive}
use Rattle.nub_rule.specs.Plays.{Grows, release_event}
use Rattle.nub_rule.proofs.AtHand.{fit_freed, freed_stint}
use Rattle.nub_rule.proofs.Seen.{may_free}
use Rattle.nub_rule.proofs.BitSteps.{clear_bit_keeps}
use Rattle.nub_rule.proofs.steps.mutex.clear_bit.Goals as goal

pub bring-requires-clause-there : goal.bring-requires-clause-there
bring-requires-clause-there g c = let m : ℕ = c.args.m.0 in let has = subst (λ k. MayGive g.U.Uses.allows g.C.Change.after m k) (sym c.me.view_is) c.requires.may in let there = value-found m (Some has.1) c.me.inside.seat.me.1 has.3 in (Value (Some has.1), there)

pub swap-requires-clause-inside : goal.swap-requires-clause-inside
swap-requires-clause-inside g c κs within = let near = mutex_low _ _ _ _ c.p.view_is c.p.invariant.laid_out c.p.invariant.lawful c.args.m.0 c.requires.named in let word = c.mutex_bit.ensures in omega arith

pub swap-requires-clause-allowed : goal.swap-requires-clause-allowed
swap-requires-clause-allowed g c κs within = let word = c.mutex_bit.ensures in let near = mutex_low _ _ _ _ c.p.view_is c.p.invariant.laid_out c.p.invariant.lawful c.args.m.0 c.requires.named in let m : ℕ = c.args.m.0 in let traces : c.p.inside.table.shared.key.traced ≡ c.args.p.now.traced = ap (λ s. s.traced) c.p.view_is in let i = c.me.invariant in let h = i.hands in let b = c.bring.ensures in let same = b.same.2 in let e = ap (λ v. v.part) same in clear_bit_keeps _ _ _ _ _ g.U.Uses.allows (g.U.Uses.holds_after _) g.C.Change.after _ _ m c.bring.new.seat.me _ word (search rules) (ap (λ v. v.kind) same ∙ i.member) (ap (λ p. p.wait) e ∙ (ap (λ k. k.wait) c.me.view_is ∙ c.requires.outside.0)) (ap (λ p. p.stand) e ∙ (ap (λ k. k.stand) c.me.view_is ∙ c.requires.outside.1))
    (subst (λ (z : Bool × Life × Pen). MayRecord z.0 z.1 z.2) (λ j. (sym traces j, (ap (λ k. k.life) (sym c.me.view_is) ∙ ap (λ p. p.life) (sym e)) j, (ap (λ k. k.pen) (sym c.me.view_is) ∙ ap (λ p. p.pen) (sym e)) j)) c.requires.pen)
    (may_free g.U.Uses.allows g.C.Change.after m _ c.me.inside.number _ _ c.me.inside.seat.me c.args.me.now c.bring.new.seat.me.0 c.bring.new.seat.me.1 c.me.view_is i.numbered same b.first c.requires.may)

pub invariant_of-me : goal.invariant_of-me
invariant_of-me g c = let near = mutex_low _ _ _ _ c.p.view_is c.p.invariant.laid_out c.p.invariant.lawful c.args.m.0 c.requires.named in let m : ℕ = c.args.m.0 in let b = c.bring.ensures in let has = subst (λ k. MayGive g.U.Uses.allows g.C.Change.after m k) (sym c.me.view_is) c.requires.may in let u = c.swap.ensures.2 m c.mutex_bit.ensures in
    fit_freed m _ _ _ _ c.me.inside.number c.me.inside.hand _ _ c.me.inside.seat.me c.bring.new.seat.me c.swap.new.seat.me _ near c.me.invariant b.same.0 b.same.2 b.keys b.distinct b.below b.hand (b.first _ (value-found m (Some has.1) c.me.inside.seat.me.1 has.3)) c.give.ensures c.swap.ensures.0 u.5 refl refl refl refl refl

pub returns-clause-found : goal.returns-clause-found
returns-clause-found g c = (c.swap.ensures.2 c.args.m.0 c.mutex_bit.ensures).0

pub returns-clause-event : goal.returns-clause-event
returns-clause-event g c = let m : ℕ = c.args.m.0 in let i = c.me.invariant in let h = i.hands in let b = c.bring.ensures in let same = b.same.2 in let u = c.swap.ensures.2 m c.mutex_bit.ensures in
    as_known (λ z m' a. Makes (release_event a.number m) a (known_as z c.me.inside.number m' c.me.inside.entries.items (space_of c.me.inside.entries c.me.inside.lost) c.me.inside.next)) _ _ _ _ _ c.me.inside.seat.me _ _ _ c.me.view_is (c.swap.ensures.0 ∙ b.same.0) (u.5 ∙ (λ j. (with_part (same j) (record (recorded (same j).part ((same j).part.seen ++ u.1) (release_event (same j).number m)) { held = set (same j).part.held m None; share = u.2; stints = u.3; cleared = m ∷ (same j).part.cleared }), rest c.bring.new.seat.me.1)))
    (u.1, subst (λ (n : ℕ). Grows n c.me.inside.seat.me.0.part u.1 (release_event n m)) i.numbered (subst (λ v. Grows v.number v.part u.1 (release_event v.number m)) same u.4), (λ j. (c.me.inside.seat.me.0.part.seen ++ u.1) ++ release_event (i.numbered j) m ∷ []), (λ j. c.me.inside.seat.me.0.part.mine ++ release_event (i.numbered j) m ∷ []), refl)

pub returns-clause-gone : goal.returns-clause-gone
returns-clause-gone g c = let near = mutex_low _ _ _ _ c.p.view_is c.p.invariant.laid_out c.p.invariant.lawful c.args.m.0 c.requires.named in let m : ℕ = c.args.m.0 in let i = c.me.invariant in let h = i.hands in let b = c.bring.ensures in let same = b.same.2 in let has = subst (λ k. MayGive g.U.Uses.allows g.C.Change.after m k) (sym c.me.view_is) c.requires.may in let there = value-found m (Some has.1) c.me.inside.seat.me.1 has.3 in let u = c.swap.ensures.2 m c.mutex_bit.ensures in let first = b.first _ there in let away = gone (value_at m) c.bring.new.seat.me.1 _ b.distinct first in
    let v = values-set m None c.me.inside.seat.me.1 (rest c.bring.new.seat.me.1) near (ap value_in away.0) (λ k ne. away.1 (value_at k) (λ z. ne (omega arith)) ∙ b.hand (value_at k)) in
    as_known (λ z m' a. let k = known_as z c.me.inside.number m' c.me.inside.entries.items (space_of c.me.inside.entries c.me.inside.lost) c.me.inside.next in k ≡ record a { part = record a.part { seen = k.seen; mine = k.mine; places = k.places; held = set a.held m None; share = k.share; stints = k.stints; cleared = m ∷ a.cleared; pen = made a.pen }; values = set a.values m None }) _ _ _ _ _ c.me.inside.seat.me _ _ _ c.me.view_is (c.swap.ensures.0 ∙ b.same.0) (u.5 ∙ (λ j. (with_part (same j) (record (recorded (same j).part ((same j).part.seen ++ u.1) (release_event (same j).number m)) { held = set (same j).part.held m None; share = u.2; stints = u.3; cleared = m ∷ (same j).part.cleared }), rest c.bring.new.seat.me.1)))
    (λ j. record (known_as c.me.inside.seat.table_id c.me.inside.number c.me.inside.seat.me c.me.inside.entries.items (space_of c.me.inside.entries c.me.inside.lost) c.me.inside.next) { part = record c.me.inside.seat.me.0.part { seen = (c.me.inside.seat.me.0.part.seen ++ u.1) ++ release_event c.me.inside.seat.me.0.number m ∷ []; mine = c.me.inside.seat.me.0.part.mine ++ release_event c.me.inside.seat.me.0.number m ∷ []; places = c.me.inside.seat.me.0.part.places ++ length (c.me.inside.seat.me.0.part.seen ++ u.1) ∷ []; held = set c.me.inside.seat.me.0.part.held m None; share = u.2; stints = u.3; cleared = m ∷ c.me.inside.seat.me.0.part.cleared; pen = made c.me.inside.seat.me.0.part.pen }; values = v j })

pub returns-clause-share : goal.returns-clause-share
returns-clause-share g c = let m : ℕ = c.args.m.0 in let b = c.bring.ensures in let u = c.swap.ensures.2 m c.mutex_bit.ensures in
    (freed_stint g.C.Change.after m u.2 u.3 c.me.inside.seat.table_id c.swap.new.seat.table_id c.me.inside.number _ _ c.me.inside.seat.me c.bring.new.seat.me c.swap.new.seat.me _ _ c.args.me.now c.me.view_is b.same.2 c.me.invariant.numbered (λ y at. b.first (Value (Some y)) at) u.5 refl refl u.6).0

pub returns-clause-stint : goal.returns-clause-stint
returns-clause-stint g c = let m : ℕ = c.args.m.0 in let b = c.bring.ensures in let u = c.swap.ensures.2 m c.mutex_bit.ensures in
    (freed_stint g.C.Change.after m u.2 u.3 c.me.inside.seat.table_id c.swap.new.seat.table_id c.me.inside.number _ _ c.me.inside.seat.me c.bring.new.seat.me c.swap.new.seat.me _ _ c.args.me.now c.me.view_is b.same.2 c.me.invariant.numbered (λ y at. b.first (Value (Some y)) at) u.5 refl refl u.6).1
