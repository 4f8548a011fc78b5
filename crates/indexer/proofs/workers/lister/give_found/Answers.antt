use Rattle.std.proofs.Common.{[]}
use Rattle.std.specs.Prelude.{Contains}
use Rattle.std.proofs.lemmas.List.Elements.{All-nil}
use Rattle.index_rule.specs.Shares.{Share, paths_put}
use Rattle.indexer.specs.Gets.{MayGive, MayPutAll, moved_more, nothing}
use Rattle.indexer.proofs.Getting.{files_later, makes_before, makes_between, makes_found, makes_idle, of_after}
use Rattle.indexer.proofs.workers.lister.give_found.Goals as goal

pub put_dirs-requires-clause-may : goal.put_dirs-requires-clause-may
put_dirs-requires-clause-may g c s at = (c.requires.may s at).dirs

pub cancel-requires-clause-between : goal.cancel-requires-clause-between
cancel-requires-clause-between g c = let put = c.put_dirs.ensures.made in makes_between c.args.p.now (moved_more [] put.0) c.args.me.now c.put_dirs.new.me c.requires.between put.1

pub put_files-requires-clause-between : goal.put_files-requires-clause-between
put_files-requires-clause-between g c = let put = c.put_dirs.ensures.made in makes_between c.args.p.now (moved_more [] put.0) c.args.me.now c.put_dirs.new.me c.requires.between put.1

pub put_files-requires-clause-may : goal.put_files-requires-clause-may
put_files-requires-clause-may g c =
    let p = c.args.p.now in
    let put = c.put_dirs.ensures.made in
    let fs = c.args.files.items in
    of_after p (moved_more [] put.0) c.args.me.now c.put_dirs.new.me (MayGive p.world c.args.dirs.items fs) (λ (r : Share). MayPutAll fs (paths_put p.world 1 r) r) c.requires.between put.1.gets c.requires.may
    (λ s r grows may. files_later p.world fs put.0 s r grows may.files)

pub finish_dir-requires-clause-between : goal.finish_dir-requires-clause-between
finish_dir-requires-clause-between g c =
    let p = c.args.p.now in
    let put = c.put_dirs.ensures.made in
    let files = c.put_files.ensures in
    makes_between p (record nothing { put = put.0; files_put = files.0 }) c.args.me.now c.put_files.new.me c.requires.between (makes_found p put.0 files.0 c.args.me.now c.put_dirs.new.me c.put_files.new.me put.1 files.1)

pub test_alert-requires-clause-rest : goal.test_alert-requires-clause-rest
test_alert-requires-clause-rest g c κs within =
    let p = c.args.p.now in
    let a = c.args.me.now in
    let put = c.put_dirs.ensures.made in
    let files = c.put_files.ensures in
    let more = record nothing { put = put.0; files_put = files.0 } in
    let found = makes_found p put.0 files.0 a c.put_dirs.new.me c.put_files.new.me put.1 files.1 in
    (makes_between p more a c.finish_dir.new.me c.requires.between (makes_before p more a c.put_files.new.me c.finish_dir.new.me found c.finish_dir.ensures.made)).2.rest

pub returns-then-not-is_within : goal.returns-then-not-is_within
returns-then-not-is_within g c =
    let put = c.put_dirs.ensures.made in
    (put.0, [], makes_before c.args.p.now (moved_more [] put.0) c.args.me.now c.put_dirs.new.me c.cancel.new.me put.1 c.cancel.ensures, put.2, All-nil (Contains c.args.files.items))

pub returns-then-not-put_files : goal.returns-then-not-put_files
returns-then-not-put_files g c =
    let put = c.put_dirs.ensures.made in
    let files = c.put_files.ensures in
    (put.0, files.0, makes_found c.args.p.now put.0 files.0 c.args.me.now c.put_dirs.new.me c.put_files.new.me put.1 files.1, put.2, files.2)

pub returns : goal.returns
returns g c =
    let p = c.args.p.now in
    let a = c.args.me.now in
    let put = c.put_dirs.ensures.made in
    let files = c.put_files.ensures in
    let more = record nothing { put = put.0; files_put = files.0 } in
    let found = makes_found p put.0 files.0 a c.put_dirs.new.me c.put_files.new.me put.1 files.1 in
    let ended = makes_before p more a c.put_files.new.me c.finish_dir.new.me found c.finish_dir.ensures.made in (
      put.0,
      files.0,
      makes_before p more a c.finish_dir.new.me c.test_alert.new.me ended
          (makes_idle p _ _ c.finish_dir.new.me c.test_alert.new.me (makes_between p more a c.finish_dir.new.me c.requires.between ended) c.test_alert.ensures.event c.test_alert.ensures.idle),
      put.2,
      files.2,
    )
