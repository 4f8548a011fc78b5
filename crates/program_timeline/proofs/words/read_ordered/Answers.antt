use Rattle.program_timeline.proofs.words.read_ordered.Goals as goal

pub returns-in-None-clause-none : goal.returns-in-None-clause-none
returns-in-None-clause-none c = λ v a. c.in-None.ensures.none a.0 a.2
