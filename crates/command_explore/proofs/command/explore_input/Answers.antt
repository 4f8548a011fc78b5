use Rattle.std.proofs.Common.{inl, inr, refl}
use Rattle.command_explore.proofs.command.explore_input.Goals as goal

pub returns-in-Some-clause-answers : goal.returns-in-Some-clause-answers
returns-in-Some-clause-answers g c = inl (c.in-Some.limit, c.in-Some.ensures.found, c.explore_limited.ensures.answers)

pub returns-in-None-clause-answers : goal.returns-in-None-clause-answers
returns-in-None-clause-answers g c = inr (c.in-None.ensures.none, (refl, (refl, refl), (refl, refl), c.say.ensures))

pub returns-in-None-clause-exact : goal.returns-in-None-clause-exact
returns-in-None-clause-exact g c = λ n asks. absurd (c.in-None.ensures.none n asks)
