use Rattle.std.proofs.Common.{Bool, arith, ◌≡◌, ◌∙◌, ap, sym, subst, refl}
use Rattle.larch_actions.specs.declared.event.Life.{Life}
use Rattle.larch_actions.specs.declared.event.Life.TheVariants.{Ended}
use Rattle.nub_rule.specs.declared.view.Pen.{Pen}
use Rattle.nub_rule.specs.declared.view.Part.{Part}
use Rattle.nub_rule.specs.Known.{known_as, space_of}
use Rattle.nub_rule.specs.Parts.{HasNothing, made, MayRecord}
use Rattle.nub_rule.specs.Places.{life_at}
use Rattle.nub_rule.specs.Plays.{end_event}
use Rattle.nub_rule.proofs.Seen.{as_known}
use Rattle.nub_rule.proofs.AtHand.{recorded_fits, recorded_event}
use Rattle.nub_rule.proofs.LifeSteps.{end_life_keeps}
use Rattle.nub_rule.proofs.steps.life.end_life.Goals as goal

pub store-requires-clause-inside : goal.store-requires-clause-inside
store-requires-clause-inside g c κs within = let low = c.me.invariant.few in let e = c.life_word.ensures in omega arith

pub store-requires-clause-allowed : goal.store-requires-clause-allowed
store-requires-clause-allowed g c κs within = let i = c.me.invariant in let traces : c.p.inside.table.shared.key.traced ≡ c.args.p.now.traced = ap (λ s. s.traced) c.p.view_is in
    end_life_keeps _ _ _ _ _ _ _ c.me.inside.seat.me _ (c.life_word.ensures ∙ ap life_at (sym i.numbered)) (ap (λ s. s.layout.version) c.p.view_is ∙ c.requires.version) i.member
    (subst (λ (z : Part g.row.U-Value.Denot g.row.U-Share.Denot). HasNothing z) (ap (λ k. k.part) (sym c.me.view_is)) c.requires.nothing) (ap (λ k. k.child) c.me.view_is ∙ c.requires.childless)
    (subst (λ (z : Bool × Life × Pen). MayRecord z.0 z.1 z.2) (λ j. (sym traces j, ap (λ k. k.life) (sym c.me.view_is) j, ap (λ k. k.pen) (sym c.me.view_is) j)) c.requires.pen)

pub invariant_of-me : goal.invariant_of-me
invariant_of-me g c = recorded_fits (λ n. end_event n) (λ q. record q { life = Ended }) _ _ c.me.inside.number c.me.inside.hand c.me.inside.seat.me c.store.new.seat.me c.store.ensures.2 c.store.ensures.0 c.me.invariant (λ q. refl) (λ q. refl) (λ q. refl) (λ q. refl) (λ q. refl)

pub returns-clause-event : goal.returns-clause-event
returns-clause-event g c = recorded_event (λ n. end_event n) (λ q. record q { life = Ended }) _ _ c.me.inside.number _ _ c.me.inside.seat.me c.store.new.seat.me c.args.me.now c.store.ensures.2 c.me.view_is c.store.ensures.0 c.me.invariant.numbered (λ q. refl) (λ q. refl) (λ q. refl)

pub returns-clause-ended : goal.returns-clause-ended
returns-clause-ended g c = as_known (λ z m a. let k = known_as z c.me.inside.number m c.me.inside.entries.items (space_of c.me.inside.entries c.me.inside.lost) c.me.inside.next in k ≡ record a { part = record a.part { seen = k.seen; mine = k.mine; places = k.places; life = Ended; pen = made a.pen } }) _ _ _ _ _ c.me.inside.seat.me _ _ _ c.me.view_is c.store.ensures.0 c.store.ensures.2.2 refl
