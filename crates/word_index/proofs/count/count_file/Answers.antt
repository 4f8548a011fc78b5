use Rattle.std.proofs.Common.{arith, length, ◌≤◌, ◌<◌, ◌-◌, ◌^◌, ◌+◌, take, drop, length-take, length-drop}
use Rattle.std.specs.List.{slice_range}
use Rattle.word_index.proofs.Counting.{counts_file_none, counts_file_next, counts_file_pass, count_fits, counts_file_all}
use Rattle.word_index.proofs.count.count_file.Goals as goal

pub loop-run-init : goal.loop-run-init
loop-run-init c = counts_file_none c.args.low.now c.args.path c.args.words.now c.args.links.now.items

pub add-requires : goal.add-requires
add-requires c = count_fits c.loop-run.invariant c.requires.held.0 c.requires.held.1 c.requires.held.2 _ (2 ^ 32) (omega (arith, c.in-Some.ensures, c.requires.short))

pub loop-run-preserved-in_ok-add : goal.loop-run-preserved-in_ok-add
loop-run-preserved-in_ok-add c =
    let e = c.in-Some.ensures in
    let further : c.loop-run.at < c.in-Some.run'.end = omega (arith, e) in
    let early : c.in-Some.run'.line ≤ c.in-Some.run'.end + 1 = omega (arith, e) in
    counts_file_next c.loop-run.invariant (slice_range c.args.low.now c.in-Some.run'.start c.in-Some.run'.end) c.in-Some.run'.end c.in-Some.run'.line c.if-word-le-LONGEST_WORD.true further e.2 early e.4 c.in_ok-add.ensures
