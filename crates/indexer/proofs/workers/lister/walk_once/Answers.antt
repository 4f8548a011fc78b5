use Rattle.std.proofs.Common.{List, sym, subst, [], None, false, refl}
use Rattle.firefly_outside.specs.declared.tree.Kind.TheVariants.{Dir}
use Rattle.indexer.specs.Walks.{fault_in, is_lost}
use Rattle.std.specs.Option.{option_to_list}
use Rattle.index_findings.specs.declared.findings.Visit.{Visit}
use Rattle.indexer.specs.Gets.{OfShare, moved_more}
use Rattle.indexer.specs.States.{HasWalked}
use Rattle.indexer.proofs.WalkShares.{may_give_as, may_give_of, walked_end, walked_found}
use Rattle.indexer.proofs.Turning.{called_any, called_then, still_between}
use Rattle.indexer.proofs.WalkSteps.{done_on}
use Rattle.indexer.proofs.workers.lister.walk_once.Goals as goal

pub end_files-requires-clause-between : goal.end_files-requires-clause-between
end_files-requires-clause-between g c = still_between None [] [] c.args.p.now c.args.me.now c.next_dir.new.me c.requires.between (c.next_dir.ensures.called None []).back

pub give_found-requires-clause-between : goal.give_found-requires-clause-between
give_found-requires-clause-between g c = still_between None [] [] c.args.p.now c.args.me.now c.next_dir.new.me c.requires.between (c.next_dir.ensures.called None []).back

pub cancel-requires-clause-between : goal.cancel-requires-clause-between
cancel-requires-clause-between g c = still_between None [] [] c.args.p.now c.args.me.now c.next_dir.new.me c.requires.between (c.next_dir.ensures.called None []).back

pub returns-in_default-clause-done : goal.returns-in_default-clause-done
returns-in_default-clause-done g c = (
  refl,
  refl,
  λ root count before a h.
      let S = g.S.Tree in
      let tree = c.args.tree.now in
      let p = c.args.p.now in
      let o = S.tree tree in
      let me = c.args.me.now in
      done_on Dir o root (S.may_fail tree) count before p a 0 (S.faults tree) (S.calls tree) me c.end_files.new.me c.args.visits.now.items None false h
      (called_then o root p 0 me c.next_dir.new.me c.end_files.new.me (called_any o root [] p 0 1 me c.next_dir.new.me (c.next_dir.ensures.called o root)) (c.end_files.ensures.called o root 0)),
)

pub returns-then-give_found-clause-done : goal.returns-then-give_found-clause-done
returns-then-give_found-clause-done g c = (
  c.list_one.ensures.done.0,
  c.list_one.ensures.done.1,
  λ root count before a h.
      let S = g.S.Tree in
      let tree = c.args.tree.now in
      let after = c.list_one.new.tree in
      let p = c.args.p.now in
      let o = S.tree tree in
      let me = c.args.me.now in
      done_on Dir o root (S.may_fail tree) count before p a 0 (S.faults after) (S.calls after) c.next_dir.new.me c.give_found.new.me c.list_one.new.visits.items None false
      (c.in-Ok.ensures.done.2 root count before p a c.next_dir.new.me (done_on Dir o root (S.may_fail tree) count before p a 1 (S.faults tree) (S.calls tree) me c.next_dir.new.me c.args.visits.now.items None false h (c.next_dir.ensures.called o root)))
      (c.give_found.ensures.2.called o root 0),
)

pub returns-else-give_found-clause-done : goal.returns-else-give_found-clause-done
returns-else-give_found-clause-done g c = (
  c.list_one.ensures.done.0,
  c.list_one.ensures.done.1,
  λ root count before a h.
      let S = g.S.Tree in
      let tree = c.args.tree.now in
      let after = c.list_one.new.tree in
      let p = c.args.p.now in
      let o = S.tree tree in
      let me = c.args.me.now in
      done_on Dir o root (S.may_fail tree) count before p a 0 (S.faults after) (S.calls after) c.next_dir.new.me c.give_found.new.me c.list_one.new.visits.items None false
      (c.in-Ok.ensures.done.2 root count before p a c.next_dir.new.me (done_on Dir o root (S.may_fail tree) count before p a 1 (S.faults tree) (S.calls tree) me c.next_dir.new.me c.args.visits.now.items None false h (c.next_dir.ensures.called o root)))
      (c.give_found.ensures.2.called o root 0),
)

pub returns-in-Err-clause-done : goal.returns-in-Err-clause-done
returns-in-Err-clause-done g c = (
  c.list_one.ensures.done.0,
  c.list_one.ensures.done.1,
  λ root count before a h.
      let S = g.S.Tree in
      let tree = c.args.tree.now in
      let after = c.list_one.new.tree in
      let p = c.args.p.now in
      let o = S.tree tree in
      let me = c.args.me.now in
      done_on Dir o root (S.may_fail tree) count before p a 0 (S.faults after) (S.calls after) c.next_dir.new.me c.cancel.new.me c.list_one.new.visits.items (fault_in c.in-Err.end) (is_lost c.in-Err.end)
      (c.in-Err.ensures.done.2 root count before p a c.next_dir.new.me (done_on Dir o root (S.may_fail tree) count before p a 1 (S.faults tree) (S.calls tree) me c.next_dir.new.me c.args.visits.now.items None false h (c.next_dir.ensures.called o root)))
      (c.cancel.ensures.called o root 0),
)

pub give_found-requires-clause-may : goal.give_found-requires-clause-may
give_found-requires-clause-may g c =
    let p = c.args.p.now in
    let kept = c.in-Ok.ensures.found in
    let vs = c.args.visits.now.items in
    let dir = c.in-Some.dir in
    may_give_as p vs dir kept.listing.dirs.items kept.listing.files.items c.in-Ok.dirs.items c.in-Ok.files.items c.next_dir.new.me (sym kept.dirs) (sym kept.files)
    (may_give_of p vs dir kept.listing c.args.me.now c.next_dir.new.me c.requires.between c.in-Some.ensures.gets c.in-Some.ensures.new c.requires.share kept.lawful)

pub returns-in_default-clause-share : goal.returns-in_default-clause-share
returns-in_default-clause-share g c =
    let p = c.args.p.now in
    let vs = c.args.visits.now.items in
    let more = moved_more (option_to_list c.next_dir.result) [] in
    walked_end p vs (option_to_list c.next_dir.result) c.args.me.now c.next_dir.new.me c.end_files.new.me c.requires.between c.next_dir.ensures.gets c.end_files.ensures.gets c.requires.share

pub returns-in-Err-clause-share : goal.returns-in-Err-clause-share
returns-in-Err-clause-share g c =
    let p = c.args.p.now in
    let vs = c.args.visits.now.items in
    subst (λ (ws : List Visit). OfShare c.cancel.new.me (HasWalked p.world ws)) (sym c.in-Err.ensures.refused)
    (walked_end p vs (option_to_list c.next_dir.result) c.args.me.now c.next_dir.new.me c.cancel.new.me c.requires.between c.next_dir.ensures.gets c.cancel.ensures.gets c.requires.share)

pub returns-then-give_found-clause-share : goal.returns-then-give_found-clause-share
returns-then-give_found-clause-share g c =
    let more = c.give_found.ensures in
    walked_found c.args.p.now c.args.visits.now.items c.list_one.new.visits.items c.in-Some.dir c.in-Ok.dirs.items c.in-Ok.files.items more.0 more.1 c.args.me.now c.next_dir.new.me c.give_found.new.me
    c.requires.between c.in-Some.ensures.gets c.in-Some.ensures.new c.requires.share c.in-Ok.ensures.found more.2.gets more.3 more.4

pub returns-else-give_found-clause-share : goal.returns-else-give_found-clause-share
returns-else-give_found-clause-share g c =
    let more = c.give_found.ensures in
    walked_found c.args.p.now c.args.visits.now.items c.list_one.new.visits.items c.in-Some.dir c.in-Ok.dirs.items c.in-Ok.files.items more.0 more.1 c.args.me.now c.next_dir.new.me c.give_found.new.me
    c.requires.between c.in-Some.ensures.gets c.in-Some.ensures.new c.requires.share c.in-Ok.ensures.found more.2.gets more.3 more.4
