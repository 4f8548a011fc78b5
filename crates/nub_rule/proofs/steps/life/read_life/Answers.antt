use Rattle.std.proofs.Common.{Bool, rules, arith, ◌≡◌, ◌∙◌, ap, sym, subst, refl}
use mathlib.Core.Logic.{dite}
use native.Mathlib.Decide.{ℕ_discrete}
use Rattle.larch_actions.specs.declared.event.Life.{Life}
use Rattle.nub_rule.specs.declared.view.Pen.{Pen}
use Rattle.nub_rule.specs.Known.{known_as, space_of}
use Rattle.nub_rule.specs.Parts.{made, MayRecord}
use Rattle.nub_rule.specs.Plays.{join_event}
use Rattle.nub_rule.proofs.Naming.{thread_low}
use Rattle.nub_rule.proofs.Seen.{as_known}
use Rattle.nub_rule.proofs.AtHand.{noted, fit_noted, recorded_fits, recorded_event}
use Rattle.nub_rule.proofs.LifeSteps.{read_life_keeps}
use Rattle.nub_rule.proofs.steps.life.read_life.Goals as goal

pub load-requires-clause-inside : goal.load-requires-clause-inside
load-requires-clause-inside g c κs within = let near = thread_low _ _ _ _ c.p.view_is c.p.invariant.laid_out c.p.invariant.lawful c.args.who.0 c.requires.named in let word = c.life_word.ensures in omega arith

pub load-requires-clause-allowed : goal.load-requires-clause-allowed
load-requires-clause-allowed g c κs within = let traces : c.p.inside.table.shared.key.traced ≡ c.args.p.now.traced = ap (λ s. s.traced) c.p.view_is in
    read_life_keeps _ _ _ _ _ _ _ c.args.who.0 c.me.inside.seat.me _ c.life_word.ensures (thread_low _ _ _ _ c.p.view_is c.p.invariant.laid_out c.p.invariant.lawful c.args.who.0 c.requires.named) (search rules) c.me.invariant.member (ap (λ k. k.wait) c.me.view_is ∙ c.requires.outside)
    (subst (λ (z : Bool × Life × Pen). MayRecord z.0 z.1 z.2) (λ j. (sym traces j, ap (λ k. k.life) (sym c.me.view_is) j, ap (λ k. k.pen) (sym c.me.view_is) j)) c.requires.pen)

pub invariant_of-me : goal.invariant_of-me
invariant_of-me g c = let u = c.load.ensures.2 c.args.who.0 (thread_low _ _ _ _ c.p.view_is c.p.invariant.laid_out c.p.invariant.lawful c.args.who.0 c.requires.named) c.life_word.ensures in dite (ℕ_discrete c.load.result 2)
    (λ hit. recorded_fits (λ n. join_event n c.args.who.0) (λ q. q) _ _ c.me.inside.number c.me.inside.hand c.me.inside.seat.me c.load.new.seat.me (u.0 hit) c.load.ensures.0 c.me.invariant (λ q. refl) (λ q. refl) (λ q. refl) (λ q. refl) (λ q. refl))
    (λ miss. fit_noted _ _ c.me.inside.number c.me.inside.hand c.me.inside.seat.me _ c.me.inside.seat.me.0.part c.load.ensures.0 (u.1 miss) c.me.invariant refl refl refl refl refl)

pub returns-clause-event : goal.returns-clause-event
returns-clause-event g c = let u = c.load.ensures.2 c.args.who.0 (thread_low _ _ _ _ c.p.view_is c.p.invariant.laid_out c.p.invariant.lawful c.args.who.0 c.requires.named) c.life_word.ensures in
    λ hit. recorded_event (λ n. join_event n c.args.who.0) (λ q. q) _ _ c.me.inside.number _ _ c.me.inside.seat.me c.load.new.seat.me c.args.me.now (u.0 hit) c.me.view_is c.load.ensures.0 c.me.invariant.numbered (λ q. refl) (λ q. refl) (λ q. refl)

pub returns-clause-joined : goal.returns-clause-joined
returns-clause-joined g c = let u = c.load.ensures.2 c.args.who.0 (thread_low _ _ _ _ c.p.view_is c.p.invariant.laid_out c.p.invariant.lawful c.args.who.0 c.requires.named) c.life_word.ensures in
    λ hit. as_known (λ z m a. let k = known_as z c.me.inside.number m c.me.inside.entries.items (space_of c.me.inside.entries c.me.inside.lost) c.me.inside.next in k ≡ record a { part = record a.part { seen = k.seen; mine = k.mine; places = k.places; pen = made a.pen } }) _ _ _ _ _ c.me.inside.seat.me _ _ _ c.me.view_is c.load.ensures.0 (u.0 hit).2 refl

pub returns-clause-waits : goal.returns-clause-waits
returns-clause-waits g c = let u = c.load.ensures.2 c.args.who.0 (thread_low _ _ _ _ c.p.view_is c.p.invariant.laid_out c.p.invariant.lawful c.args.who.0 c.requires.named) c.life_word.ensures in
    λ miss. noted (λ _ p. p) _ _ _ _ _ c.me.inside.seat.me _ _ c.me.view_is c.load.ensures.0 (u.1 miss)
