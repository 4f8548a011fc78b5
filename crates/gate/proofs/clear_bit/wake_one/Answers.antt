use Rattle.std.proofs.Common.{◌≡◌, ◌++◌, ◌∷◌, [], true, List, ℕ, refl, ap, sym, subst, inl, ◌∙◌}
use Rattle.larch_actions.specs.Sets.{mem}
use Rattle.nub_rule.specs.Objects.{object_of}
use Rattle.nub_rule.specs.Places.{most_threads}
use Rattle.nub_rule.specs.Plays.{tail_of}
use Rattle.nub.proofs.Without.{mem_own, less_owed, first_small}
use Rattle.nub_rule.proofs.Gating.{pop-gate}
use Rattle.gate.proofs.Steps.{woke_one}
use Rattle.gate.proofs.clear_bit.wake_one.Goals as goal

pub enter-requires-clause-reason : goal.enter-requires-clause-reason
enter-requires-clause-reason g c κs within = inl (c.requires.gate, c.requires.looked)

pub pop-requires-clause-may : goal.pop-requires-clause-may
pop-requires-clause-may g c κs within = pop-gate c.args.at c.enter.new.me c.requires.gate

pub set_ready-requires-clause-owed : goal.set_ready-requires-clause-owed
set_ready-requires-clause-owed g c κs within =
    let t = c.in-Some.t.0 in
    let first = c.pop.ensures.first c.in-Some.t c.in-Some.is in
    let owed : c.pop.new.me.owed ≡ t ∷ [] = first.1 ∙ ap (λ k. k.owed ++ t ∷ []) c.enter.ensures.inside in
    subst (λ (l : List ℕ). mem t l ≡ true) (sym owed) (mem_own t [])

pub set_ready-requires-clause-named : goal.set_ready-requires-clause-named
set_ready-requires-clause-named g c κs within =
    let first = c.pop.ensures.first c.in-Some.t c.in-Some.is in
    first_small most_threads c.in-Some.t.0 (tail_of c.enter.new.me.queue) c.enter.new.me.queue first.0 c.enter.ensures.small

pub leave-requires-clause-owes_none : goal.leave-requires-clause-owes_none
leave-requires-clause-owes_none g c κs within =
    let t = c.in-Some.t.0 in
    let first = c.pop.ensures.first c.in-Some.t c.in-Some.is in
    let owed : c.pop.new.me.owed ≡ t ∷ [] = first.1 ∙ ap (λ k. k.owed ++ t ∷ []) c.enter.ensures.inside in
    ap (λ k. k.owed) c.set_ready.ensures.owes ∙ less_owed t c.pop.new.me.owed owed

pub returns-in-Some : goal.returns-in-Some
returns-in-Some g c =
    let t = c.in-Some.t.0 in
    let first = c.pop.ensures.first c.in-Some.t c.in-Some.is in
    let owed : c.pop.new.me.owed ≡ t ∷ [] = first.1 ∙ ap (λ k. k.owed ++ t ∷ []) c.enter.ensures.inside in
    woke_one (object_of c.args.at) c.args.me.now c.enter.new.me c.leave.new.me c.requires.outside c.enter.ensures.inside c.pop.new.me c.set_ready.new.me _ _ _ (c.pop.ensures.gate c.requires.gate) c.set_ready.ensures.owes (less_owed t c.pop.new.me.owed owed) c.leave.ensures

pub returns-in-None : goal.returns-in-None
returns-in-None g c =
    woke_one (object_of c.args.at) c.args.me.now c.enter.new.me c.leave-in-None.new.me c.requires.outside c.enter.ensures.inside c.pop.new.me c.pop.new.me _ _ c.pop.new.me.owed (c.pop.ensures.gate c.requires.gate) refl (c.pop.ensures.owes c.in-None.is ∙ ap (λ k. k.owed) c.enter.ensures.inside) c.leave-in-None.ensures
