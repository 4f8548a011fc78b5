use Rattle.program_timeline.proofs.Wording.{up_asks, down_some}
use Rattle.program_timeline.proofs.words.read_two.Goals as goal

pub returns-in-Some-clause-found : goal.returns-in-Some-clause-found
returns-in-Some-clause-found c = up_asks c.args.name.now c.args.number.now c.args.other.now c.args.last.now c.in-Some.view c.in-Some.ensures.found

pub returns-clause-found : goal.returns-clause-found
returns-clause-found c = down_some c.args.name.now c.args.number.now c.args.other.now c.args.last.now c.read_up-2.result c.read_up-2.ensures.found
