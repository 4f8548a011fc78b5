use Rattle.std.proofs.Common.{sym, subst}
use Rattle.std.specs.List.{range_with_len}
use Rattle.firefly_outside.specs.Trees.{Path}
use Rattle.index_rule.specs.Opening.{blanks, opens}
use Rattle.index_rule.specs.Work.{KeepsWork}
use Rattle.indexer.proofs.run.opening.open_run.Goals as goal

pub open_package-requires-clause-holds : goal.open_package-requires-clause-holds
open_package-requires-clause-holds c κs =
    let threads = range_with_len 0 c.index_layout.result.threads in
    subst (λ (r : Path). KeepsWork r c.in_ok-values.values.items (blanks threads)) (sym c.in_ok-world.ensures) (opens c.args.root.now c.in_ok-values.values.items threads c.in_ok-values.ensures)
