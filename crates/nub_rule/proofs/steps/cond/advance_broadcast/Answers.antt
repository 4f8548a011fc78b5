use Rattle.std.proofs.Common.{Bool, rules, arith, ◌≡◌, ◌<◌, ◌+◌, ◌∙◌, [], ℕ, ap, sym, subst, refl, None}
use Rattle.larch_actions.specs.declared.event.Life.{Life}
use Rattle.nub_rule.specs.declared.view.Pen.{Pen}
use Rattle.nub_rule.specs.Known.{known_as, space_of}
use Rattle.nub_rule.specs.Parts.{made, MayRecord}
use Rattle.nub_rule.specs.Plays.{event, broadcast_action}
use Rattle.nub_rule.proofs.Naming.{cond_low}
use Rattle.nub_rule.proofs.Seen.{as_known}
use Rattle.nub_rule.proofs.AtHand.{recorded_fits, recorded_event}
use Rattle.nub_rule.proofs.CondSteps.{advance_broadcast_keeps}
use Rattle.nub_rule.proofs.steps.cond.advance_broadcast.Goals as goal

pub fetch_add-requires-clause-inside : goal.fetch_add-requires-clause-inside
fetch_add-requires-clause-inside g c κs within = let near = cond_low _ _ _ _ c.p.view_is c.p.invariant.laid_out c.p.invariant.lawful c.args.c.0 c.requires.named in let word = c.count_word.ensures in omega arith

pub fetch_add-requires-clause-allowed : goal.fetch_add-requires-clause-allowed
fetch_add-requires-clause-allowed g c κs within = let near = cond_low _ _ _ _ c.p.view_is c.p.invariant.laid_out c.p.invariant.lawful c.args.c.0 c.requires.named in let word = c.count_word.ensures in let traces : c.p.inside.table.shared.key.traced ≡ c.args.p.now.traced = ap (λ s. s.traced) c.p.view_is in advance_broadcast_keeps _ _ _ _ _ _ _ c.args.c.0 c.me.inside.seat.me _ word near (search rules) c.me.invariant.member (ap (λ k. k.spin) c.me.view_is ∙ c.requires.inside) (ap (λ k. k.wait) c.me.view_is ∙ c.requires.outside)
    (subst (λ (z : ℕ). z < 18446744073709551615) (ap (λ k. k.count) (sym c.me.view_is)) c.requires.room) (subst (λ (z : Bool × Life × Pen). MayRecord z.0 z.1 z.2) (λ j. (sym traces j, ap (λ k. k.life) (sym c.me.view_is) j, ap (λ k. k.pen) (sym c.me.view_is) j)) c.requires.pen)

pub invariant_of-me : goal.invariant_of-me
invariant_of-me g c = let u = c.fetch_add.ensures.2 c.args.c.0 c.count_word.ensures in
    recorded_fits (λ n. event n (broadcast_action c.args.c.0 [])) (λ q. record q { left = []; count = q.count + 1; calling = None }) _ _ c.me.inside.number c.me.inside.hand c.me.inside.seat.me c.fetch_add.new.seat.me (u.2, u.3, u.4) c.fetch_add.ensures.0 c.me.invariant (λ q. refl) (λ q. refl) (λ q. refl) (λ q. refl) (λ q. refl)

pub returns-clause-count : goal.returns-clause-count
returns-clause-count g c = (c.fetch_add.ensures.2 c.args.c.0 c.count_word.ensures).0 ∙ ap (λ k. k.count) c.me.view_is

pub returns-clause-event : goal.returns-clause-event
returns-clause-event g c = let u = c.fetch_add.ensures.2 c.args.c.0 c.count_word.ensures in
    recorded_event (λ n. event n (broadcast_action c.args.c.0 [])) (λ q. record q { left = []; count = q.count + 1; calling = None }) _ _ c.me.inside.number _ _ c.me.inside.seat.me c.fetch_add.new.seat.me c.args.me.now (u.2, u.3, u.4) c.me.view_is c.fetch_add.ensures.0 c.me.invariant.numbered (λ q. refl) (λ q. refl) (λ q. refl)

pub returns-clause-advanced : goal.returns-clause-advanced
returns-clause-advanced g c = as_known (λ z m a. let k = known_as z c.me.inside.number m c.me.inside.entries.items (space_of c.me.inside.entries c.me.inside.lost) c.me.inside.next in k ≡ record a { part = record a.part { seen = k.seen; mine = k.mine; places = k.places; left = []; count = a.count + 1; calling = None; pen = made a.pen } }) _ _ _ _ _ c.me.inside.seat.me _ _ _ c.me.view_is c.fetch_add.ensures.0 (c.fetch_add.ensures.2 c.args.c.0 c.count_word.ensures).4 refl
