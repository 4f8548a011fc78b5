use Rattle.std.proofs.Common.{◌∙◌, ap, sym, true}
use Rattle.walker.specs.Walk.{pairs_of}
use Rattle.walker.proofs.FoundLemmas.{marked-absent, marked-present}
use Rattle.walker.proofs.found.mark.Goals as goal

pub returns-in-Some-clause-marked : goal.returns-in-Some-clause-marked
returns-in-Some-clause-marked c = ap pairs_of (c.get_mut.follows.holds true).0 ∙ marked-present c.args.dirs.now.entries c.args.dir.now c.get_mut.ensures.unique

pub returns-in_default-clause-marked : goal.returns-in_default-clause-marked
returns-in_default-clause-marked c = ap (λ m. pairs_of m.entries) c.get_mut.follows.holds-at-none ∙ sym (marked-absent c.args.dirs.now.entries c.args.dir.now (sym c.in_default.ensures.value))
