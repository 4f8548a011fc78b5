use Rattle.firefly_outside.proofs.PathLemmas.{split_last_parts}
use Rattle.firefly_outside.proofs.paths.split_last.Goals as goal

pub returns : goal.returns
returns c = split_last_parts c.args.path.now c.rsplit_once.result c.rsplit_once.ensures.cases
