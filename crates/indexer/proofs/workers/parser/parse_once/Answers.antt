use Rattle.std.proofs.Common.{[], ◌++◌, List, Bool, None, not, true, false, refl, sym, subst, append-nil}
use Rattle.firefly_outside.specs.Trees.{Path}
use Rattle.indexer.specs.Gets.{OfShare}
use Rattle.indexer.specs.States.{HasGathered, lot_paths}
use Rattle.indexer.proofs.ParseShares.{nothing_read, share_read, share_took}
use Rattle.firefly_outside.specs.declared.tree.Kind.TheVariants.{File}
use Rattle.indexer.specs.Walks.{fault_in, is_lost}
use Rattle.indexer.proofs.Turning.{called_any, still_between}
use Rattle.indexer.proofs.WalkSteps.{done_less, done_on}
use Rattle.indexer.proofs.workers.parser.parse_once.Goals as goal

pub pass_files-requires-clause-between : goal.pass_files-requires-clause-between
pass_files-requires-clause-between g c = still_between None [] [] c.args.p.now c.args.me.now c.next_file.new.me c.requires.between (c.next_file.ensures.called None []).back

pub pass_files-requires-clause-read : goal.pass_files-requires-clause-read
pass_files-requires-clause-read g c = (g.S.Tree.tree c.args.tree.now, c.in-Ok.ensures.read c.requires.read)

pub cancel-requires-clause-between : goal.cancel-requires-clause-between
cancel-requires-clause-between g c = still_between None [] [] c.args.p.now c.args.me.now c.next_file.new.me c.requires.between (c.next_file.ensures.called None []).back

pub returns-in_default-clause-parsed : goal.returns-in_default-clause-parsed
returns-in_default-clause-parsed g c =
    let S = g.S.Tree in
    let tree = c.args.tree.now in
    let p = c.args.p.now in
    let root = c.args.root.now in
    let o = S.tree tree in
    let me = c.args.me.now in
    record {
      tree_stays = refl;
      weak_stays = refl;
      read = c.requires.read;
      kept = λ all. all;
      done = λ count before a h.
          done_on File o root (S.may_fail tree) count before p a 0 (S.faults tree) (S.calls tree) me c.next_file.new.me [] None false h
          (called_any o root [] p 1 1 me c.next_file.new.me (c.next_file.ensures.called o root));
    }

pub returns-then-pass_files-clause-parsed : goal.returns-then-pass_files-clause-parsed
returns-then-pass_files-clause-parsed g c =
    let S = g.S.Tree in
    let tree = c.args.tree.now in
    let after = c.read_one.new.tree in
    let p = c.args.p.now in
    let root = c.args.root.now in
    let o = S.tree tree in
    let me = c.args.me.now in
    let read = c.in-Ok.ensures.read c.requires.read in
    record {
      tree_stays = c.in-Ok.ensures.done.0;
      weak_stays = c.in-Ok.ensures.done.1;
      read = (c.pass_files.ensures.passed o 1 read).read;
      kept = (c.pass_files.ensures.passed o 1 read).given.kept;
      done = λ count before a h.
          done_on File o root (S.may_fail tree) count before p a 0 (S.faults after) (S.calls after) c.next_file.new.me c.pass_files.new.me [] None false
          (c.in-Ok.ensures.done.2 root count before p a c.next_file.new.me (done_on File o root (S.may_fail tree) count before p a 1 (S.faults tree) (S.calls tree) me c.next_file.new.me [] None false h (c.next_file.ensures.called o root)))
          (c.pass_files.ensures.passed o 1 read).given.called;
    }

pub returns-else-pass_files-clause-parsed : goal.returns-else-pass_files-clause-parsed
returns-else-pass_files-clause-parsed g c =
    let S = g.S.Tree in
    let tree = c.args.tree.now in
    let after = c.read_one.new.tree in
    let p = c.args.p.now in
    let root = c.args.root.now in
    let o = S.tree tree in
    let me = c.args.me.now in
    let read = c.in-Ok.ensures.read c.requires.read in
    record {
      tree_stays = c.in-Ok.ensures.done.0;
      weak_stays = c.in-Ok.ensures.done.1;
      read = (c.pass_files.ensures.passed o 1 read).read;
      kept = (c.pass_files.ensures.passed o 1 read).given.kept;
      done = λ count before a h.
          done_less File o root (S.may_fail tree) count before p a (S.faults after) (S.calls after) c.pass_files.new.me [] [] None false true (λ none. refl)
          (done_on File o root (S.may_fail tree) count before p a 0 (S.faults after) (S.calls after) c.next_file.new.me c.pass_files.new.me [] None false
          (c.in-Ok.ensures.done.2 root count before p a c.next_file.new.me (done_on File o root (S.may_fail tree) count before p a 1 (S.faults tree) (S.calls tree) me c.next_file.new.me [] None false h (c.next_file.ensures.called o root)))
          (c.pass_files.ensures.passed o 1 read).given.called);
    }

pub returns-in-Err-clause-parsed : goal.returns-in-Err-clause-parsed
returns-in-Err-clause-parsed g c =
    let S = g.S.Tree in
    let tree = c.args.tree.now in
    let after = c.read_one.new.tree in
    let p = c.args.p.now in
    let root = c.args.root.now in
    let o = S.tree tree in
    let me = c.args.me.now in
    record {
      tree_stays = c.in-Err.ensures.done.0;
      weak_stays = c.in-Err.ensures.done.1;
      read = c.in-Err.ensures.read c.requires.read;
      kept = λ all. all;
      done = λ count before a h.
          done_on File o root (S.may_fail tree) count before p a 0 (S.faults after) (S.calls after) c.next_file.new.me c.cancel.new.me [] (fault_in c.in-Err.end) (is_lost c.in-Err.end)
          (c.in-Err.ensures.done.2 root count before p a c.next_file.new.me (done_on File o root (S.may_fail tree) count before p a 1 (S.faults tree) (S.calls tree) me c.next_file.new.me [] None false h (c.next_file.ensures.called o root)))
          (c.cancel.ensures.called o root 1);
    }

pub pass_files-requires-clause-share : goal.pass_files-requires-clause-share
pass_files-requires-clause-share g c =
    let files = c.requires.share.0 in
    let was = c.requires.share.1 in
    let p = c.args.p.now in
    let got = c.in-Some.ensures.gets in
    let loaded = c.in-Ok.ensures.loaded in
    let here = share_read p (lot_paths c.args.loaded.now.files.items) (lot_paths c.read_one.new.loaded.files.items) c.args.kept.now.items files loaded.0 got.0 c.in-Some.path false c.args.me.now c.next_file.new.me c.requires.between got.2.0 got.1 got.2.1 loaded.1 was in
    (files ++ loaded.0, false, here)

pub returns-in_default-clause-share : goal.returns-in_default-clause-share
returns-in_default-clause-share g c = λ files was.
    let p = c.args.p.now in
    let got = c.next_file.ensures.gets in
    let loaded = lot_paths c.args.loaded.now.files.items in
    let kept = c.args.kept.now.items in (
      [],
      subst (λ (fs : List Path). OfShare c.next_file.new.me (HasGathered p.world loaded kept fs false)) (sym (append-nil files)) (share_took p loaded kept files false c.args.me.now c.next_file.new.me c.requires.between got.0 got.1 was),
      nothing_read (g.S.Tree.tree c.args.tree.now) (g.S.Tree.calls c.args.tree.now),
    )

pub returns-then-pass_files-clause-share : goal.returns-then-pass_files-clause-share
returns-then-pass_files-clause-share g c = λ files was.
    let p = c.args.p.now in
    let got = c.in-Some.ensures.gets in
    let loaded = c.in-Ok.ensures.loaded in
    let here = share_read p (lot_paths c.args.loaded.now.files.items) (lot_paths c.read_one.new.loaded.files.items) c.args.kept.now.items files loaded.0 got.0 c.in-Some.path false c.args.me.now c.next_file.new.me c.requires.between got.2.0 got.1 got.2.1 loaded.1 was in
    (loaded.0, subst (λ (b : Bool). OfShare c.pass_files.new.me (HasGathered p.world (lot_paths c.pass_files.new.loaded.files.items) c.pass_files.new.kept.items (files ++ loaded.0) (not b))) c.if-pass_files.true (c.pass_files.ensures.share (files ++ loaded.0) false here), loaded.2)

pub returns-else-pass_files-clause-share : goal.returns-else-pass_files-clause-share
returns-else-pass_files-clause-share g c = λ files was.
    let p = c.args.p.now in
    let got = c.in-Some.ensures.gets in
    let loaded = c.in-Ok.ensures.loaded in
    let here = share_read p (lot_paths c.args.loaded.now.files.items) (lot_paths c.read_one.new.loaded.files.items) c.args.kept.now.items files loaded.0 got.0 c.in-Some.path false c.args.me.now c.next_file.new.me c.requires.between got.2.0 got.1 got.2.1 loaded.1 was in
    (loaded.0, subst (λ (b : Bool). OfShare c.pass_files.new.me (HasGathered p.world (lot_paths c.pass_files.new.loaded.files.items) c.pass_files.new.kept.items (files ++ loaded.0) (not b))) c.if-pass_files.false (c.pass_files.ensures.share (files ++ loaded.0) false here), loaded.2)

pub returns-in-Err-clause-share : goal.returns-in-Err-clause-share
returns-in-Err-clause-share g c = λ files was.
    let p = c.args.p.now in
    let got = c.in-Some.ensures.gets in
    let loaded = c.in-Err.ensures.loaded in
    let here = share_read p (lot_paths c.args.loaded.now.files.items) (lot_paths c.read_one.new.loaded.files.items) c.args.kept.now.items files loaded.0 got.0 c.in-Some.path (is_lost c.in-Err.end) c.args.me.now c.next_file.new.me c.requires.between got.2.0 got.1 got.2.1 loaded.1 was in
    let between = still_between None [] [] p c.args.me.now c.next_file.new.me c.requires.between (c.next_file.ensures.called None []).back in
    (loaded.0, share_took p (lot_paths c.read_one.new.loaded.files.items) c.args.kept.now.items (files ++ loaded.0) (is_lost c.in-Err.end) c.next_file.new.me c.cancel.new.me between [] c.cancel.ensures.gets here, loaded.2)
