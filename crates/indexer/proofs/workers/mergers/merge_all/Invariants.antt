use Rattle.std.proofs.Common.{Option, false}
use Rattle.firefly_outside.specs.Trees.{Path, Contents}
use Rattle.indexer.specs.Gets.{OfShare}
use Rattle.indexer.specs.States.{HasMerged}
use Rattle.indexer.specs.Turns.{HasCalled}
use Rattle.indexer.proofs.workers.mergers.merge_all.Given as goal

abbrev pub invariant-loop : goal.invariant-loop
invariant-loop g l =
    record {
      called : (o : Option Contents) (root : Path) → HasCalled o root l.kept.items l.p 0 0 l.fn.me l.me;
      share : OfShare l.me (HasMerged l.p.world l.kept.items false);
    }
