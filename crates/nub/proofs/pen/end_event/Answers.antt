use Rattle.std.proofs.Common.{◌≡◌, true, rules}
use Rattle.nub.proofs.pen.end_event.Goals as goal

pub end_traced-requires-clause-last : goal.end_traced-requires-clause-last
end_traced-requires-clause-last g c κs within = λ e made. let t : c.args.p.now.traced ≡ true = search rules in c.requires.last t e made

pub returns-then-traced-clause-stored : goal.returns-then-traced-clause-stored
returns-then-traced-clause-stored g c = λ e made traced lost. c.end_traced.ensures.stored e made lost
