use Rattle.std.proofs.Common.{[], sym, ◌∙◌, refl, append-nil}
use Rattle.std.specs.Option.{option_to_list}
use Rattle.index_rule.specs.Work.{waiting_of}
use Rattle.index_rule.specs.declared.value.IndexValue.TheVariants.{Dirs}
use Rattle.indexer.specs.Gets.{moved_more}
use Rattle.indexer.proofs.Getting.{gets_as, gets_stay, new_dir, new_dir_of, stay_counts, stay_moves, take_counts, take_more, take_moves}
use Rattle.indexer.proofs.calls.dir_list.next_dir.Goals as goal

pub loop-init : goal.loop-init
loop-init g c = (Dirs c.take_list-dirs.result, c.take_list-dirs.ensures, record { waiting = refl; dirs = refl; files = refl })

pub give_list-requires-clause-has : goal.give_list-requires-clause-has
give_list-requires-clause-has g c =
    let had = c.loop.invariant in
    let ys = c.take_dir.new.list.waiting.items in
    let gone = sym had.2.waiting ∙ c.in-Now.ensures.waiting in
    (c.args.me.now, had.0, had.1, take_moves (waiting_of had.0) ys (option_to_list c.in-Now.dir) _ had.1.own gone, take_counts had.0 _ (option_to_list c.in-Now.dir) had.1.own gone had.2.dirs had.2.files)

pub returns-in-Now-clause-called : goal.returns-in-Now-clause-called
returns-in-Now-clause-called g c = λ o root. let had = c.loop.invariant in (c.give_list.ensures.called c.args.me.now had.0 had.1 c.requires.between o root).0

pub returns-in-Now-clause-gets : goal.returns-in-Now-clause-gets
returns-in-Now-clause-gets g c =
    let had = c.loop.invariant in
    let ys = c.take_dir.new.list.waiting.items in
    gets_as c.args.p.now _ (moved_more (option_to_list c.in-Now.dir) []) c.args.me.now c.give_list.new.me (take_more (waiting_of had.0) ys (option_to_list c.in-Now.dir) (sym had.2.waiting ∙ c.in-Now.ensures.waiting)) (c.give_list.ensures.gets c.args.me.now had.0 had.1)

pub returns-in-Now-clause-new : goal.returns-in-Now-clause-new
returns-in-Now-clause-new g c =
    let had = c.loop.invariant in
    let ys = c.take_dir.new.list.waiting.items in
    new_dir_of c.args.p.now c.args.me.now c.loop.me had.0 had.1 c.in-Now.dir (new_dir c.args.p.now.world had.0 had.1.own ys c.in-Now.dir had.1.kind had.1.new (sym had.2.waiting ∙ c.in-Now.ensures.waiting))

pub wait_for_dirs-outcome-requires-clause-has : goal.wait_for_dirs-outcome-requires-clause-has
wait_for_dirs-outcome-requires-clause-has g c =
    let had = c.loop.invariant in (
      c.args.me.now,
      had.0,
      had.1,
      record { waiting = sym (sym had.2.waiting ∙ (c.in-Wait.ensures.waiting ∙ append-nil c.take_dir.new.list.waiting.items)); dirs = had.2.dirs; files = had.2.files },
    )

pub give_list-requires-then-eq-clause-has : goal.give_list-requires-then-eq-clause-has
give_list-requires-then-eq-clause-has g c =
    let had = c.loop.invariant in
    let dirs = c.wait_for_dirs-outcome.result.1 in
    let again = c.wait_for_dirs-outcome.ensures c.args.me.now had.0 had.1 in
    (c.args.me.now, Dirs dirs, again, stay_moves dirs.list.waiting.items _ again.own, stay_counts dirs _ again.own refl refl)

pub returns-then-eq-clause-called : goal.returns-then-eq-clause-called
returns-then-eq-clause-called g c = λ o root.
    let had = c.loop.invariant in
    let again = c.wait_for_dirs-outcome.ensures c.args.me.now had.0 had.1 in
    (c.give_list-then-eq.ensures.called c.args.me.now (Dirs c.wait_for_dirs-outcome.result.1) again c.requires.between o root).0

pub returns-then-eq-clause-gets : goal.returns-then-eq-clause-gets
returns-then-eq-clause-gets g c =
    let had = c.loop.invariant in
    let again = c.wait_for_dirs-outcome.ensures c.args.me.now had.0 had.1 in
    gets_stay c.args.p.now c.wait_for_dirs-outcome.result.1.list.waiting.items c.args.me.now c.give_list-then-eq.new.me (c.give_list-then-eq.ensures.gets c.args.me.now (Dirs c.wait_for_dirs-outcome.result.1) again)

pub loop-preserved : goal.loop-preserved
loop-preserved g c =
    let had = c.loop.invariant in
    (Dirs c.wait_for_dirs-outcome.result.1, c.wait_for_dirs-outcome.ensures c.args.me.now had.0 had.1, record { waiting = refl; dirs = refl; files = refl })
