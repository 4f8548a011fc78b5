use Rattle.std.proofs.Common.{◌≡◌, ◌+◌, ◌-◌, ◌∙◌, ℕ, List, [], sym, ap, arith, length, subst, get_or, drop}
use Rattle.word_index.specs.Links.{places_from}
use Rattle.word_index.proofs.Counting.{CountsFrom, counts_from_none, counts_from_next, above_from}
use Rattle.word_index.proofs.count.count_files.Goals as goal

pub loop-at-init : goal.loop-at-init
loop-at-init c = counts_from_none c.args.lows.now c.len-at.result c.args.words.now c.args.links.now.items c.len-at.ensures c.requires.empty

pub count_file-requires-clause-held : goal.count_file-requires-clause-held
count_file-requires-clause-held c =
    let next : c.in_ok-path.path + 1 ≡ c.loop-at.at = omega (arith, c.in_ok-path.ensures, c.loop-at-test.true) in
    ((λ w. places_from w c.loop-at.at (drop c.loop-at.at c.args.lows.now)), c.loop-at.invariant.held, above_from c.args.lows.now c.loop-at.at c.in_ok-path.path next)

pub loop-at-preserved : goal.loop-at-preserved
loop-at-preserved c =
    let lows = c.args.lows.now in
    let next : c.in_ok-path.path + 1 ≡ c.loop-at.at = omega (arith, c.in_ok-path.ensures, c.loop-at-test.true) in
    subst (λ (k : ℕ). CountsFrom lows k c.count_file.new.words c.count_file.new.links.items) c.in_ok-path.ensures
    (counts_from_next lows c.loop-at.at c.in_ok-path.path c.count_file.new.words c.count_file.new.links.items c.get.result.now c.loop-at.invariant.within next (c.get.ensures ∙ ap (λ (k : ℕ). get_or lows k []) (sym c.in_ok-path.ensures))
    (c.in_ok-count_file.ensures (λ w. places_from w c.loop-at.at (drop c.loop-at.at lows)) c.loop-at.invariant.held (above_from lows c.loop-at.at c.in_ok-path.path next)))
