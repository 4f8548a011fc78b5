use Rattle.std.proofs.Common.{rules, arith, ◌≡◌, ◌∙◌, ◌∷◌, ℕ, ap, sym, subst, refl, Some, None, set}
use Rattle.nub_rule.specs.declared.rule.Slot.TheVariants.{Value}
use Rattle.nub_rule.specs.Known.{known_as, space_of}
use Rattle.nub_rule.specs.Places.{value_at}
use Rattle.nub_rule.specs.Plays.{with_part}
use Rattle.nub_rule.proofs.Naming.{mutex_low}
use Rattle.nub_rule.proofs.Handling.{values-set, value-found, gone}
use Rattle.nub_rule.proofs.Seen.{as_known}
use Rattle.atomic_table.specs.Table.{rest}
use Rattle.nub_rule.specs.Known.{value_in, MayGive}
use Rattle.nub_rule.specs.Plays.{opened}
use Rattle.nub_rule.proofs.AtHand.{fit_freed, freed_stint}
use Rattle.nub_rule.proofs.Seen.{may_free}
use Rattle.nub_rule.proofs.WaitSteps.{clear_bit_in_wait_keeps}
use Rattle.nub_rule.proofs.steps.mutex.clear_bit_in_wait.Goals as goal

pub bring-requires-clause-there : goal.bring-requires-clause-there
bring-requires-clause-there g c = let m : ℕ = c.args.m.0 in let has = subst (λ k. MayGive g.U.Uses.allows g.C.Change.after m k) (sym c.me.view_is) c.requires.may in let there = value-found m (Some has.1) c.me.inside.seat.me.1 has.3 in (Value (Some has.1), there)

pub swap-requires-clause-inside : goal.swap-requires-clause-inside
swap-requires-clause-inside g c κs within = let near = mutex_low _ _ _ _ c.p.view_is c.p.invariant.laid_out c.p.invariant.lawful c.args.m.0 c.requires.named in let word = c.mutex_bit.ensures in omega arith

pub swap-requires-clause-allowed : goal.swap-requires-clause-allowed
swap-requires-clause-allowed g c κs within = let word = c.mutex_bit.ensures in let near = mutex_low _ _ _ _ c.p.view_is c.p.invariant.laid_out c.p.invariant.lawful c.args.m.0 c.requires.named in let m : ℕ = c.args.m.0 in let i = c.me.invariant in let h = i.hands in let b = c.bring.ensures in let same = b.same.2 in let e = ap (λ v. v.part) same in clear_bit_in_wait_keeps _ _ _ _ _ g.U.Uses.allows (g.U.Uses.holds_after _) g.C.Change.after _ _ m c.requires.waits.0 c.bring.new.seat.me _ word (search rules) (ap (λ v. v.kind) same ∙ i.member) (ap (λ p. p.wait) e ∙ (ap (λ k. k.wait) c.me.view_is ∙ c.requires.waits.1)) c.requires.waits.2 c.requires.waits.3 (ap (λ p. p.stand) e ∙ (ap (λ k. k.stand) c.me.view_is ∙ c.requires.outside))
    (may_free g.U.Uses.allows g.C.Change.after m _ c.me.inside.number _ _ c.me.inside.seat.me c.args.me.now c.bring.new.seat.me.0 c.bring.new.seat.me.1 c.me.view_is i.numbered same b.first c.requires.may)

pub invariant_of-me : goal.invariant_of-me
invariant_of-me g c = let near = mutex_low _ _ _ _ c.p.view_is c.p.invariant.laid_out c.p.invariant.lawful c.args.m.0 c.requires.named in let m : ℕ = c.args.m.0 in let b = c.bring.ensures in let has = subst (λ k. MayGive g.U.Uses.allows g.C.Change.after m k) (sym c.me.view_is) c.requires.may in let u = c.swap.ensures.2 m c.mutex_bit.ensures in
    fit_freed m _ _ _ _ c.me.inside.number c.me.inside.hand _ _ c.me.inside.seat.me c.bring.new.seat.me c.swap.new.seat.me _ near c.me.invariant b.same.0 b.same.2 b.keys b.distinct b.below b.hand (b.first _ (value-found m (Some has.1) c.me.inside.seat.me.1 has.3)) c.give.ensures c.swap.ensures.0 u.3 refl refl refl refl refl

pub returns-clause-found : goal.returns-clause-found
returns-clause-found g c = (c.swap.ensures.2 c.args.m.0 c.mutex_bit.ensures).0

pub returns-clause-gone : goal.returns-clause-gone
returns-clause-gone g c = let near = mutex_low _ _ _ _ c.p.view_is c.p.invariant.laid_out c.p.invariant.lawful c.args.m.0 c.requires.named in let m : ℕ = c.args.m.0 in let i = c.me.invariant in let h = i.hands in let b = c.bring.ensures in let same = b.same.2 in let has = subst (λ k. MayGive g.U.Uses.allows g.C.Change.after m k) (sym c.me.view_is) c.requires.may in let there = value-found m (Some has.1) c.me.inside.seat.me.1 has.3 in let u = c.swap.ensures.2 m c.mutex_bit.ensures in let first = b.first _ there in let away = gone (value_at m) c.bring.new.seat.me.1 _ b.distinct first in
    let v = values-set m None c.me.inside.seat.me.1 (rest c.bring.new.seat.me.1) near (ap value_in away.0) (λ k ne. away.1 (value_at k) (λ z. ne (omega arith)) ∙ b.hand (value_at k)) in
    as_known (λ z m' a. let k = known_as z c.me.inside.number m' c.me.inside.entries.items (space_of c.me.inside.entries c.me.inside.lost) c.me.inside.next in k ≡ record a { part = record a.part { held = set a.held m None; share = k.share; stints = k.stints; wait = opened a.wait; cleared = m ∷ a.cleared }; values = set a.values m None }) _ _ _ _ _ c.me.inside.seat.me _ _ _ c.me.view_is (c.swap.ensures.0 ∙ b.same.0) (u.3 ∙ (λ j. (with_part (same j) (record (same j).part { held = set (same j).part.held m None; share = u.1; stints = u.2; wait = opened (same j).part.wait; cleared = m ∷ (same j).part.cleared }), rest c.bring.new.seat.me.1)))
    (λ j. record (known_as c.me.inside.seat.table_id c.me.inside.number c.me.inside.seat.me c.me.inside.entries.items (space_of c.me.inside.entries c.me.inside.lost) c.me.inside.next) { part = record c.me.inside.seat.me.0.part { held = set c.me.inside.seat.me.0.part.held m None; share = u.1; stints = u.2; wait = opened c.me.inside.seat.me.0.part.wait; cleared = m ∷ c.me.inside.seat.me.0.part.cleared }; values = v j })

pub returns-clause-share : goal.returns-clause-share
returns-clause-share g c = let m : ℕ = c.args.m.0 in let b = c.bring.ensures in let u = c.swap.ensures.2 m c.mutex_bit.ensures in
    (freed_stint g.C.Change.after m u.1 u.2 c.me.inside.seat.table_id c.swap.new.seat.table_id c.me.inside.number _ _ c.me.inside.seat.me c.bring.new.seat.me c.swap.new.seat.me _ _ c.args.me.now c.me.view_is b.same.2 c.me.invariant.numbered (λ y at. b.first (Value (Some y)) at) u.3 refl refl u.4).0

pub returns-clause-stint : goal.returns-clause-stint
returns-clause-stint g c = let m : ℕ = c.args.m.0 in let b = c.bring.ensures in let u = c.swap.ensures.2 m c.mutex_bit.ensures in
    (freed_stint g.C.Change.after m u.1 u.2 c.me.inside.seat.table_id c.swap.new.seat.table_id c.me.inside.number _ _ c.me.inside.seat.me c.bring.new.seat.me c.swap.new.seat.me _ _ c.args.me.now c.me.view_is b.same.2 c.me.invariant.numbered (λ y at. b.first (Value (Some y)) at) u.3 refl refl u.4).1
