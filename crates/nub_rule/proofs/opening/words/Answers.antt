use Rattle.std.proofs.Common.{◌<◌, ◌∙◌, arith, sym, length, length-set, set}
use Rattle.nub_rule.specs.Places.{life_at, word_count}
use Rattle.nub_rule.proofs.Ends.{are-first, lives-more, living-low, zeros-more, zeros_only}
use Rattle.nub_rule.proofs.opening.words.Goals as goal

pub loop-t-init : goal.loop-t-init
loop-t-init c = record {
  wide = sym c.in_ok-words.words.ok.0 ∙ c.in_ok-words.ensures.len;
  lives = λ t low. absurd (omega arith);
  zeros = λ k _. zeros_only c.in_ok-words.words.items word_count (c.in_ok-words.ensures.items_if_clones_equal (λ y e. e)) k;
}

pub index_mut-requires : goal.index_mut-requires
index_mut-requires c = let i = c.loop-t.invariant in
    let low = living-low c.args.layout.version c.args.layout.threads c.requires.few in
    omega (arith, c.loop-t-test.true, c.first_lives-t-end.ensures, c.life_word.ensures, i.wide)

pub loop-t-preserved : goal.loop-t-preserved
loop-t-preserved c = let i = c.loop-t.invariant in let ws = c.loop-t.words.items in let at = c.life_word.ensures in
    let low = living-low c.args.layout.version c.args.layout.threads c.requires.few in
    let wide : life_at c.loop-t.t < length ws = omega (arith, c.loop-t-test.true, c.first_lives-t-end.ensures, i.wide) in record {
      wide = length-set ws c.life_word.result 1 ∙ i.wide;
      lives = lives-more ws _ c.loop-t.t (omega (arith, c.loop-t-test.true, c.first_lives-t-end.ensures)) (λ j. set ws (at j) 1) wide i.lives;
      zeros = zeros-more ws _ c.loop-t.t (λ j. set ws (at j) 1) i.zeros;
    }

pub returns : goal.returns
returns c = let i = c.loop-t.invariant in
    are-first c.args.layout c.loop-t.words.items c.loop-t.t c.requires.few (let e = c.first_lives-t-end.ensures in let a = c.loop-t-test.false in let b = c.loop-t.auto.t-end in omega arith) i.wide i.lives i.zeros
