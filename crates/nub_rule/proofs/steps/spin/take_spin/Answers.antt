use Rattle.std.proofs.Common.{arith, ◌≡◌, ◌<◌, ◌∙◌, ◌∷◌, [], ℕ, ap, sym, subst, length, refl, Some, None}
use Rattle.larch_actions.specs.Sets.{mem, without}
use Rattle.nub_rule.specs.declared.rule.Slot.TheVariants.{Queue}
use Rattle.nub_rule.specs.Items.{Small, no_queue, queue_of}
use Rattle.nub_rule.specs.Known.{known_as, space_of}
use Rattle.nub_rule.specs.Objects.{object_of}
use Rattle.nub_rule.specs.Parts.{stands_at}
use Rattle.nub_rule.specs.Places.{most_threads, spin_at}
use Rattle.nub_rule.proofs.Handling.{values-same, hands-spun}
use Rattle.nub_rule.proofs.Naming.{object_low, some_or_none}
use Rattle.nub_rule.proofs.Room.{room_for}
use Rattle.nub_rule.proofs.AtHand.{noted, fit_noted}
use Rattle.nub_rule.proofs.Seen.{as_known, fit_moved}
use Rattle.nub_rule.proofs.SpinSteps.{take_spin_keeps}
use Rattle.nub_rule.proofs.Turns.{find-else}
use Rattle.nub_rule.proofs.steps.spin.take_spin.Goals as goal

pub compare_exchange-found-requires-clause-inside : goal.compare_exchange-found-requires-clause-inside
compare_exchange-found-requires-clause-inside g c κs within = let low = object_low _ _ _ _ c.p.view_is c.p.invariant.laid_out c.p.invariant.lawful c.args.at c.requires.named in let word = c.spin_word.ensures in omega arith

pub compare_exchange-found-requires-clause-allowed : goal.compare_exchange-found-requires-clause-allowed
compare_exchange-found-requires-clause-allowed g c κs within = let low = object_low _ _ _ _ c.p.view_is c.p.invariant.laid_out c.p.invariant.lawful c.args.at c.requires.named in let is = c.number-o.ensures in
    let word = c.spin_word.ensures in take_spin_keeps _ _ _ _ _ _ _ (object_of c.args.at) _ _ word (omega arith) c.me.invariant.member (ap (λ k. k.life) c.me.view_is ∙ c.requires.live) (ap (λ k. k.spin) c.me.view_is ∙ c.requires.outside)

pub take-requires : goal.take-requires
take-requires g c = let low = object_low _ _ _ _ c.p.view_is c.p.invariant.laid_out c.p.invariant.lawful c.args.at c.requires.named in let is = c.number-o.ensures in
    let i = c.me.invariant in let out : c.me.inside.seat.me.0.part.spin ≡ None = ap (λ k. k.spin) c.me.view_is ∙ c.requires.outside in
    room_for 256 c.number-o.result (Queue no_queue) c.me.inside.seat.me.1 c.me.inside.hand i.distinct i.below (omega arith) (i.hands.queue_out c.number-o.result (omega arith) (λ z. some_or_none _ _ out z)) i.keyed

pub invariant_of-me : goal.invariant_of-me
invariant_of-me g c = let low = object_low _ _ _ _ c.p.view_is c.p.invariant.laid_out c.p.invariant.lawful c.args.at c.requires.named in let is = c.number-o.ensures in
    let i = c.me.invariant in let o : ℕ = c.number-o.result in let out : c.me.inside.seat.me.0.part.spin ≡ None = ap (λ k. k.spin) c.me.view_is ∙ c.requires.outside in
    let u = c.compare_exchange-found.ensures.2.0 o (c.spin_word.ensures ∙ ap spin_at (sym c.number-o.ensures)) c.if-found-eq0.true in
    let far : o < 192 = omega arith in let near : o < 256 = omega arith in
    fit_moved _ _ c.me.inside.number c.me.inside.hand _ c.me.inside.seat.me _ _ _ c.compare_exchange-found.ensures.0 u.5 i
    ((λ j. o ∷ i.keyed j) ∙ sym c.take.ensures) (i.hands.queue_out o far (λ z. some_or_none _ _ out z), i.distinct) (near, i.below) refl
    (hands-spun c.me.inside.seat.me.0.part _ _ _ o u.0 far refl out refl refl refl refl u.2 i.hands)

pub returns-then-found-eq0-clause-won : goal.returns-then-found-eq0-clause-won
returns-then-found-eq0-clause-won g c = let o : ℕ = c.number-o.result in let u = c.compare_exchange-found.ensures.2.0 o (c.spin_word.ensures ∙ ap spin_at (sym c.number-o.ensures)) c.if-found-eq0.true in
    let low = object_low _ _ _ _ c.p.view_is c.p.invariant.laid_out c.p.invariant.lawful c.args.at c.requires.named in let is = c.number-o.ensures in
    let v = values-same c.me.inside.seat.me.1 ((o, Queue (queue_of u.0)) ∷ c.me.inside.seat.me.1) (λ m. find-else _ (o, Queue (queue_of u.0)) c.me.inside.seat.me.1 (λ z. omega arith)) in
    λ _. as_known (λ z m a. let b = known_as z c.me.inside.number m c.me.inside.entries.items (space_of c.me.inside.entries c.me.inside.lost) c.me.inside.next in b ≡ record a { part = record a.part { spin = Some (object_of c.args.at); queue = b.queue; owed = []; left = b.queue; count = b.count; failed = without (object_of c.args.at) a.failed } }) _ _ _ _ _ c.me.inside.seat.me _ _ _ c.me.view_is c.compare_exchange-found.ensures.0 u.5 (λ j. record (known_as c.me.inside.seat.table_id c.me.inside.number c.me.inside.seat.me c.me.inside.entries.items (space_of c.me.inside.entries c.me.inside.lost) c.me.inside.next) { part = record c.me.inside.seat.me.0.part { spin = Some (is j); queue = u.0; owed = []; left = u.0; count = u.1; failed = without (is j) c.me.inside.seat.me.0.part.failed }; values = v j })

pub returns-then-found-eq0-clause-small : goal.returns-then-found-eq0-clause-small
returns-then-found-eq0-clause-small g c = let u = c.compare_exchange-found.ensures.2.0 c.number-o.result (c.spin_word.ensures ∙ ap spin_at (sym c.number-o.ensures)) c.if-found-eq0.true in λ _. subst (λ m. Small most_threads m.0.part.queue) (sym u.5) u.3

pub returns-then-found-eq0-clause-room : goal.returns-then-found-eq0-clause-room
returns-then-found-eq0-clause-room g c = let u = c.compare_exchange-found.ensures.2.0 c.number-o.result (c.spin_word.ensures ∙ ap spin_at (sym c.number-o.ensures)) c.if-found-eq0.true in λ _ out. subst (λ m. length m.0.part.queue < most_threads) (sym u.5) (u.2 (ap (λ k. k.stand) c.me.view_is ∙ out))

pub returns-then-found-eq0-clause-there : goal.returns-then-found-eq0-clause-there
returns-then-found-eq0-clause-there g c = let u = c.compare_exchange-found.ensures.2.0 c.number-o.result (c.spin_word.ensures ∙ ap spin_at (sym c.number-o.ensures)) c.if-found-eq0.true in
    λ _ there. (λ j. stands_at ((ap (λ k. k.stand) (sym c.me.view_is)) j) (sym c.number-o.ensures j)) ∙ u.4 ((λ j. mem ((c.me.invariant.numbered ∙ ap (λ k. k.number) c.me.view_is) j) (ap (λ m. m.0.part.queue) (sym u.5) j)) ∙ there)

pub invariant_of-me-else-found-eq0 : goal.invariant_of-me-else-found-eq0
invariant_of-me-else-found-eq0 g c = let i = c.me.invariant in let e = c.compare_exchange-found.ensures in fit_noted _ _ c.me.inside.number c.me.inside.hand c.me.inside.seat.me _ _ e.0 (e.2.1 c.if-found-eq0.false).1 i refl refl refl refl refl

pub returns-else-found-eq0-clause-lost : goal.returns-else-found-eq0-clause-lost
returns-else-found-eq0-clause-lost g c = λ miss. let e = c.compare_exchange-found.ensures in ((e.2.1 miss).0, noted (λ _ p. p) _ _ _ _ _ c.me.inside.seat.me _ _ c.me.view_is e.0 (e.2.1 miss).1)

pub returns-else-found-eq0-clause-won : goal.returns-else-found-eq0-clause-won
returns-else-found-eq0-clause-won g c = λ hit. absurd (c.if-found-eq0.false hit)

pub returns-then-found-eq0-clause-lost : goal.returns-then-found-eq0-clause-lost
returns-then-found-eq0-clause-lost g c = λ miss. absurd (miss c.if-found-eq0.true)
