use Rattle.std.proofs.Common.{[], ◌≡◌, ◌++◌, List, None, false}
use Rattle.std.specs.Prelude.{IfSome}
use Rattle.firefly_outside.specs.Trees.{Path}
use Rattle.indexer.specs.Gets.{OfShare}
use Rattle.indexer.specs.ReadFiles.{HasParsed}
use Rattle.indexer.specs.States.{HasGathered, lot_paths}
use Rattle.indexer.proofs.workers.parser.parse.Given as goal

abbrev pub invariant-loop : goal.invariant-loop
invariant-loop g l =
    record {
      parsed : HasParsed g.S.Tree.tree g.S.Tree.may_fail g.S.Tree.faults g.S.Tree.calls l.root l.p l.fn.tree l.tree l.loaded.files.items [] l.kept.items l.fn.me l.me None false;
      files : List Path;
      share : OfShare l.me (HasGathered l.p.world (lot_paths l.loaded.files.items) l.kept.items files false);
      read : IfSome (g.S.Tree.tree l.fn.tree) (λ t. (g.S.Tree.calls l.tree).files_read ≡ (g.S.Tree.calls l.fn.tree).files_read ++ files);
    }
