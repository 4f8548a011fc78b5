use Rattle.std.proofs.Common.{Bool, arith, ◌≡◌, ◌∙◌, ◌∷◌, ◌++◌, [], ℕ, ap, sym, subst, refl}
use Rattle.larch_actions.specs.declared.event.Life.{Life}
use Rattle.nub_rule.specs.declared.view.Child.TheVariants.{Forked}
use Rattle.nub_rule.specs.declared.view.Pen.{Pen}
use Rattle.nub_rule.specs.Known.{known_as, Makes, space_of}
use Rattle.nub_rule.specs.Parts.{made, MayRecord}
use Rattle.nub_rule.specs.Plays.{Grows, recorded, fork_event}
use Rattle.nub_rule.proofs.Seen.{as_known}
use Rattle.nub_rule.proofs.AtHand.{fit_noted}
use Rattle.nub_rule.proofs.ForkSteps.{fit_forked, fork_life_keeps}
use Rattle.nub_rule.proofs.steps.life.fork_life.Goals as goal

pub store-requires-clause-inside : goal.store-requires-clause-inside
store-requires-clause-inside g c κs within = let low = c.requires.few in let e = c.life_word.ensures in omega arith

pub store-requires-clause-allowed : goal.store-requires-clause-allowed
store-requires-clause-allowed g c κs within = let traces : c.p.inside.table.shared.key.traced ≡ c.args.p.now.traced = ap (λ s. s.traced) c.p.view_is in
    fork_life_keeps _ _ _ _ _ _ _ c.args.who.0 c.me.inside.seat.me _ c.life_word.ensures c.me.invariant.member (ap (λ k. k.child) c.me.view_is ∙ c.requires.child) (ap (λ k. k.wait) c.me.view_is ∙ c.requires.outside)
    (subst (λ (z : Bool × Life × Pen). MayRecord z.0 z.1 z.2) (λ j. (sym traces j, ap (λ k. k.life) (sym c.me.view_is) j, ap (λ k. k.pen) (sym c.me.view_is) j)) c.requires.pen)

pub invariant_of-me : goal.invariant_of-me
invariant_of-me g c = let u = c.store.ensures.2 c.args.who.0 c.requires.few c.life_word.ensures in let v = c.me.inside.seat.me.0 in
    fit_forked _ _ c.me.inside.number c.me.inside.hand c.me.inside.seat.me c.store.new.seat.me (recorded v.part (v.part.seen ++ u.1) (fork_event v.number c.args.who.0)) _ c.store.ensures.0 u.3
    (fit_noted _ _ c.me.inside.number c.me.inside.hand c.me.inside.seat.me _ (recorded v.part (v.part.seen ++ u.1) (fork_event v.number c.args.who.0)) refl refl c.me.invariant refl refl refl refl refl)

pub returns-clause-event : goal.returns-clause-event
returns-clause-event g c = let t : ℕ = c.args.who.0 in let i = c.me.invariant in let u = c.store.ensures.2 t c.requires.few c.life_word.ensures in
    as_known (λ z m a. Makes (fork_event a.number t) a (known_as z c.me.inside.number m c.me.inside.entries.items (space_of c.me.inside.entries c.me.inside.lost) c.me.inside.next)) _ _ _ _ _ c.me.inside.seat.me _ _ _ c.me.view_is c.store.ensures.0 u.3
    (u.1, subst (λ (n : ℕ). Grows n c.me.inside.seat.me.0.part u.1 (fork_event n t)) i.numbered u.2, (λ j. (c.me.inside.seat.me.0.part.seen ++ u.1) ++ fork_event (i.numbered j) t ∷ []), (λ j. c.me.inside.seat.me.0.part.mine ++ fork_event (i.numbered j) t ∷ []), refl)

pub returns-clause-forked : goal.returns-clause-forked
returns-clause-forked g c = let t : ℕ = c.args.who.0 in as_known (λ z m a. let k = known_as z c.me.inside.number m c.me.inside.entries.items (space_of c.me.inside.entries c.me.inside.lost) c.me.inside.next in k ≡ record a { part = record a.part { seen = k.seen; mine = k.mine; places = k.places; pen = made a.pen }; child = Forked t k.seen }) _ _ _ _ _ c.me.inside.seat.me _ _ _ c.me.view_is c.store.ensures.0 (c.store.ensures.2 t c.requires.few c.life_word.ensures).3 refl

pub returns-clause-apart : goal.returns-clause-apart
returns-clause-apart g c e = let u = c.store.ensures.2 c.args.who.0 c.requires.few c.life_word.ensures in
    u.0 (e ∙ sym (c.me.invariant.numbered ∙ ap (λ k. k.number) c.me.view_is))
