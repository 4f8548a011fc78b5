use Rattle.std.proofs.Common.{Bool, rules, arith, ◌≡◌, ◌∙◌, [], ap, sym, subst, refl, Some}
use mathlib.Core.Logic.{dite}
use native.Mathlib.Decide.{ℕ_discrete}
use Rattle.larch_actions.specs.declared.event.Life.{Life}
use Rattle.nub_rule.specs.declared.view.Pen.{Pen}
use Rattle.nub_rule.specs.Known.{known_as, space_of}
use Rattle.nub_rule.specs.Parts.{made, MayRecord}
use Rattle.nub_rule.specs.Plays.{event, broadcast_action}
use Rattle.nub_rule.proofs.Naming.{cond_low}
use Rattle.nub_rule.proofs.Seen.{as_known}
use Rattle.nub_rule.proofs.AtHand.{noted, fit_noted, recorded_fits, recorded_event}
use Rattle.nub_rule.proofs.BegunSteps.{read_waits_broadcast_keeps}
use Rattle.nub_rule.proofs.steps.waiters.read_waits_broadcast.Goals as goal

pub load-requires-clause-inside : goal.load-requires-clause-inside
load-requires-clause-inside g c κs within = let near = cond_low _ _ _ _ c.p.view_is c.p.invariant.laid_out c.p.invariant.lawful c.args.c.0 c.requires.named in let word = c.waits_word.ensures in omega arith

pub load-requires-clause-allowed : goal.load-requires-clause-allowed
load-requires-clause-allowed g c κs within = let near = cond_low _ _ _ _ c.p.view_is c.p.invariant.laid_out c.p.invariant.lawful c.args.c.0 c.requires.named in let word = c.waits_word.ensures in let traces : c.p.inside.table.shared.key.traced ≡ c.args.p.now.traced = ap (λ s. s.traced) c.p.view_is in
    read_waits_broadcast_keeps _ _ _ _ _ _ _ c.args.c.0 c.me.inside.seat.me _ word near (search rules) c.me.invariant.member (ap (λ k. k.wait) c.me.view_is ∙ c.requires.outside) (subst (λ (z : Bool × Life × Pen). MayRecord z.0 z.1 z.2) (λ j. (sym traces j, ap (λ k. k.life) (sym c.me.view_is) j, ap (λ k. k.pen) (sym c.me.view_is) j)) c.requires.pen)

pub invariant_of-me : goal.invariant_of-me
invariant_of-me g c = let u = c.load.ensures.2 c.args.c.0 c.waits_word.ensures in dite (ℕ_discrete c.load.result 0)
    (λ hit. recorded_fits (λ n. event n (broadcast_action c.args.c.0 [])) (λ q. q) _ _ c.me.inside.number c.me.inside.hand c.me.inside.seat.me c.load.new.seat.me (u.0 hit) c.load.ensures.0 c.me.invariant (λ q. refl) (λ q. refl) (λ q. refl) (λ q. refl) (λ q. refl))
    (λ miss. fit_noted _ _ c.me.inside.number c.me.inside.hand c.me.inside.seat.me _ _ c.load.ensures.0 (u.1 miss) c.me.invariant refl refl refl refl refl)

pub returns-clause-event : goal.returns-clause-event
returns-clause-event g c = let u = c.load.ensures.2 c.args.c.0 c.waits_word.ensures in
    λ hit. recorded_event (λ n. event n (broadcast_action c.args.c.0 [])) (λ q. q) _ _ c.me.inside.number _ _ c.me.inside.seat.me c.load.new.seat.me c.args.me.now (u.0 hit) c.me.view_is c.load.ensures.0 c.me.invariant.numbered (λ q. refl) (λ q. refl) (λ q. refl)

pub returns-clause-quiet : goal.returns-clause-quiet
returns-clause-quiet g c = let u = c.load.ensures.2 c.args.c.0 c.waits_word.ensures in
    λ hit. as_known (λ z m a. let k = known_as z c.me.inside.number m c.me.inside.entries.items (space_of c.me.inside.entries c.me.inside.lost) c.me.inside.next in k ≡ record a { part = record a.part { seen = k.seen; mine = k.mine; places = k.places; pen = made a.pen } }) _ _ _ _ _ c.me.inside.seat.me _ _ _ c.me.view_is c.load.ensures.0 (u.0 hit).2 refl

pub returns-clause-calls : goal.returns-clause-calls
returns-clause-calls g c = let u = c.load.ensures.2 c.args.c.0 c.waits_word.ensures in
    λ miss. noted (λ _ p. record p { calling = Some c.args.c.0 }) _ _ _ _ _ c.me.inside.seat.me _ _ c.me.view_is c.load.ensures.0 (u.1 miss)
