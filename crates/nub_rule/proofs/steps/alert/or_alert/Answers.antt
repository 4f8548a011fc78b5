use Rattle.std.proofs.Common.{Bool, rules, arith, ◌≡◌, ◌∙◌, ◌∷◌, ◌++◌, [], ℕ, ap, sym, subst, refl}
use Rattle.larch_actions.specs.declared.event.Life.{Life}
use Rattle.nub_rule.specs.declared.view.Pen.{Pen}
use Rattle.nub_rule.specs.Known.{known_as, Makes, space_of}
use Rattle.nub_rule.specs.Parts.{made, MayRecord}
use Rattle.nub_rule.specs.Plays.{Grows, alert_event}
use Rattle.nub_rule.proofs.Naming.{thread_low}
use Rattle.nub_rule.proofs.Seen.{as_known}
use Rattle.nub_rule.proofs.AtHand.{fit_noted}
use Rattle.nub_rule.proofs.AlertSteps.{or_alert_keeps}
use Rattle.nub_rule.proofs.steps.alert.or_alert.Goals as goal

pub fetch_or-found-requires-clause-inside : goal.fetch_or-found-requires-clause-inside
fetch_or-found-requires-clause-inside g c κs within = let near = thread_low _ _ _ _ c.p.view_is c.p.invariant.laid_out c.p.invariant.lawful c.args.t.0 c.requires.named in let word = c.alert_word.ensures in omega arith

pub fetch_or-found-requires-clause-allowed : goal.fetch_or-found-requires-clause-allowed
fetch_or-found-requires-clause-allowed g c κs within = let near = thread_low _ _ _ _ c.p.view_is c.p.invariant.laid_out c.p.invariant.lawful c.args.t.0 c.requires.named in let t : ℕ = c.args.t.0 in let traces : c.p.inside.table.shared.key.traced ≡ c.args.p.now.traced = ap (λ s. s.traced) c.p.view_is in
    let word = c.alert_word.ensures in or_alert_keeps _ _ _ _ _ _ _ t c.me.inside.seat.me _ word near (search rules) c.me.invariant.member (ap (λ k. k.wait) c.me.view_is ∙ c.requires.outside) (subst (λ (z : Bool × Life × Pen). MayRecord z.0 z.1 z.2) (λ j. (sym traces j, ap (λ k. k.life) (sym c.me.view_is) j, ap (λ k. k.pen) (sym c.me.view_is) j)) c.requires.pen)

pub invariant_of-me : goal.invariant_of-me
invariant_of-me g c = let t : ℕ = c.args.t.0 in let i = c.me.invariant in fit_noted _ _ c.me.inside.number c.me.inside.hand c.me.inside.seat.me _ _ c.fetch_or-found.ensures.0 ((c.fetch_or-found.ensures.2 t (thread_low _ _ _ _ c.p.view_is c.p.invariant.laid_out c.p.invariant.lawful t c.requires.named) c.alert_word.ensures).2) i refl refl refl refl refl

pub returns-clause-event : goal.returns-clause-event
returns-clause-event g c = let t : ℕ = c.args.t.0 in let i = c.me.invariant in let u = (c.fetch_or-found.ensures.2 t (thread_low _ _ _ _ c.p.view_is c.p.invariant.laid_out c.p.invariant.lawful t c.requires.named) c.alert_word.ensures) in
    as_known (λ z m a. Makes (alert_event a.number t) a (known_as z c.me.inside.number m c.me.inside.entries.items (space_of c.me.inside.entries c.me.inside.lost) c.me.inside.next)) _ _ _ _ _ c.me.inside.seat.me _ _ _ c.me.view_is c.fetch_or-found.ensures.0 u.2
    (u.0, subst (λ (n : ℕ). Grows n c.me.inside.seat.me.0.part u.0 (alert_event n t)) i.numbered u.1, (λ j. (c.me.inside.seat.me.0.part.seen ++ u.0) ++ alert_event (i.numbered j) t ∷ []), (λ j. c.me.inside.seat.me.0.part.mine ++ alert_event (i.numbered j) t ∷ []), refl)

pub returns-clause-alerted : goal.returns-clause-alerted
returns-clause-alerted g c = let t : ℕ = c.args.t.0 in as_known (λ z m a. let k = known_as z c.me.inside.number m c.me.inside.entries.items (space_of c.me.inside.entries c.me.inside.lost) c.me.inside.next in k ≡ record a { part = record a.part { seen = k.seen; mine = k.mine; places = k.places; pen = made a.pen } }) _ _ _ _ _ c.me.inside.seat.me _ _ _ c.me.view_is c.fetch_or-found.ensures.0 (c.fetch_or-found.ensures.2 t (thread_low _ _ _ _ c.p.view_is c.p.invariant.laid_out c.p.invariant.lawful t c.requires.named) c.alert_word.ensures).2 refl
