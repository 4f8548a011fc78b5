use Rattle.firefly_outside.proofs.TreeLemmas.{reported_by-clone}
use Rattle.firefly_outside.proofs.place.copy_of.Goals as goal

pub returns : goal.returns
returns c = reported_by-clone c.args.places.now c.in_ok-copy.copy c.in_ok-copy.ensures.cases
