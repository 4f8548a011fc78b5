use Rattle.std.proofs.Common.{[], ◌∷◌, ◌++◌, List, All, sym, subst}
use Rattle.std.specs.Prelude.{Contains}
use Rattle.std.specs.Vec.Iter.{into_iter_items}
use Rattle.std.proofs.lemmas.List.Elements.{All-append, All-contains_itself, All-head, All-nil, All-tail}
use Rattle.firefly_outside.specs.Trees.{Path}
use Rattle.index_rule.specs.Shares.{paths_put}
use Rattle.indexer.specs.Gets.{MayPutAll, OfShare, nothing}
use Rattle.indexer.proofs.Getting.{all_one, makes_between, makes_files, makes_none, may_first, may_rest, of_after}
use Rattle.indexer.proofs.calls.files.put_files.Goals as goal

pub loop-file-init : goal.loop-file-init
loop-file-init g c =
    let all = into_iter_items c.into_iter-file-iterator.result in
    record {
      put = [];
      made = makes_none c.args.p.now c.args.me.now;
      among = All-nil (Contains all);
      left = All-contains_itself all;
      may = subst (λ (fs : List Path). OfShare c.args.me.now (λ s. MayPutAll fs (paths_put c.args.p.now.world 1 s) s)) (sym c.into_iter-file-iterator.ensures.into_iter_gives.0) c.requires.may;
    }

pub put_file-requires-clause-between : goal.put_file-requires-clause-between
put_file-requires-clause-between g c = makes_between c.args.p.now (record nothing { files_put = c.loop-file.invariant.put }) c.args.me.now c.loop-file.me c.requires.between c.loop-file.invariant.made

pub put_file-requires-clause-may : goal.put_file-requires-clause-may
put_file-requires-clause-may g c s at =
    let rest = into_iter_items c.next.new.self in
    may_first c.args.p.now.world c.in-Some.file rest s (subst (λ (fs : List Path). MayPutAll fs (paths_put c.args.p.now.world 1 s) s) c.in-Some.ensures.steps.0 (c.loop-file.invariant.may s at))

pub loop-file-preserved : goal.loop-file-preserved
loop-file-preserved g c =
    let p = c.args.p.now in
    let was = c.loop-file.invariant in
    let x = c.in-Some.file in
    let rest = into_iter_items c.next.new.self in
    let all = into_iter_items c.into_iter-file-iterator.result in
    let left = subst (All (Contains all)) c.in-Some.ensures.steps.0 was.left in
    let more = c.put_file.ensures in
    let between = makes_between p (record nothing { files_put = was.put }) c.args.me.now c.loop-file.me c.requires.between was.made in
    record {
      put = more.0 ++ was.put;
      made = makes_files p was.put more.0 c.args.me.now c.loop-file.me c.put_file.new.me was.made more.1;
      among = All-append (Contains all) more.0 was.put (all_one (Contains all) x more.0 more.2 (All-head (Contains all) x rest left)) was.among;
      left = All-tail (Contains all) x rest left;
      may = of_after p (record nothing { files_put = more.0 }) c.loop-file.me c.put_file.new.me (λ s. MayPutAll (x ∷ rest) (paths_put p.world 1 s) s) (λ r. MayPutAll rest (paths_put p.world 1 r) r) between more.1.gets
          (subst (λ (fs : List Path). OfShare c.loop-file.me (λ s. MayPutAll fs (paths_put p.world 1 s) s)) c.in-Some.ensures.steps.0 was.may) (λ s r grows may. may_rest p.world x rest more.0 s r more.2 grows may);
    }

pub returns-then-not-put_file : goal.returns-then-not-put_file
returns-then-not-put_file g c =
    let p = c.args.p.now in
    let was = c.loop-file.invariant in
    let x = c.in-Some.file in
    let rest = into_iter_items c.next.new.self in
    let all = into_iter_items c.into_iter-file-iterator.result in
    let left = subst (All (Contains all)) c.in-Some.ensures.steps.0 was.left in
    let more = c.put_file.ensures in (
      more.0 ++ was.put,
      makes_files p was.put more.0 c.args.me.now c.loop-file.me c.put_file.new.me was.made more.1,
      subst (λ (fs : List Path). All (Contains fs) (more.0 ++ was.put)) c.into_iter-file-iterator.ensures.into_iter_gives.0
          (All-append (Contains all) more.0 was.put (all_one (Contains all) x more.0 more.2 (All-head (Contains all) x rest left)) was.among),
    )

pub returns : goal.returns
returns g c =
    let was = c.loop-file.invariant in
    (was.put, was.made, subst (λ (fs : List Path). All (Contains fs) was.put) c.into_iter-file-iterator.ensures.into_iter_gives.0 was.among)
