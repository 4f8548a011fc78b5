use Rattle.std.proofs.Common.{List, All}
use Rattle.std.specs.Prelude.{Contains}
use Rattle.std.specs.Vec.Iter.{into_iter_items}
use Rattle.firefly_outside.specs.Trees.{Path}
use Rattle.index_rule.specs.Shares.{paths_put}
use Rattle.indexer.specs.Gets.{Makes, MayPutAll, OfShare, nothing}
use Rattle.indexer.proofs.calls.files.put_files.Given as goal

abbrev pub invariant-loop-file : goal.invariant-loop-file
invariant-loop-file g l =
    record {
      put : List Path;
      made : Makes l.p (record nothing { files_put = put }) l.fn.me l.me;
      among : All (Contains (into_iter_items l.initial.file-iterator)) put;
      left : All (Contains (into_iter_items l.initial.file-iterator)) (into_iter_items l.file-iterator);
      may : OfShare l.me (λ s. MayPutAll (into_iter_items l.file-iterator) (paths_put l.p.world 1 s) s);
    }
