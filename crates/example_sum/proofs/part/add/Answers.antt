use Rattle.std.proofs.Common.{[], ◌∷◌, refl, ◌∙◌, append_assoc}
use Rattle.nub_rule.specs.Plays.{acquire_event, release_event}
use Rattle.example_sum.proofs.part.add.Goals as goal

pub returns-clause-joined : goal.returns-clause-joined
returns-clause-joined g c =
    let a = c.args.me.now in
    let n = a.number in
    (acquire_event n 0 ∷ release_event n 0 ∷ [], c.locked.ensures.event.mine ∙ append_assoc a.mine (acquire_event n 0 ∷ []) (release_event n 0 ∷ []), λ _. refl)
