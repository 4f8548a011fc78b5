use Rattle.std.proofs.Common.{◌<◌, ◌+◌, ◌-◌, ◌++◌, List, length, map, refl, sym, subst, arith, rules}
use Rattle.script_run.specs.declared.slots.Slot.{Slot}
use Rattle.script_run.specs.Slots.{AreOver, IsRegion, slot_number}
use Rattle.script_run.proofs.Pieces.{region_long, no_regions, cut_over, cut_forked, further_first, further_rest, further_numbers, further_low, further_long}
use Rattle.script_run.proofs.cut.play_on.Goals as goal

pub loop-width-init : goal.loop-width-init
loop-width-init g c = record {
  low = region_long c.args.pkg.now c.args.lines.now c.args.slots.now c.requires.region;
  first = no_regions c.args.pkg.now c.args.lines.now;
  rest = c.requires.region;
  numbers = refl;
}

pub split_at_mut-rest-requires : goal.split_at_mut-rest-requires
split_at_mut-rest-requires g c = let low = c.loop-width.invariant.low in omega arith

pub advance-requires-clause-region : goal.advance-requires-clause-region
advance-requires-clause-region g c =
    subst (λ (l : List Slot). IsRegion c.args.pkg.now c.args.lines.now l) (sym c.split_at_mut-rest.ensures.back) c.loop-width.invariant.rest

pub returns-in_default : goal.returns-in_default
returns-in_default g c =
    let p = c.args.pkg.now in
    let xs = c.args.lines.now in
    let was = c.loop-width.invariant in
    let cut = c.split_at_mut-rest in
    let over : AreOver p xs (map slot_number cut.result.1.now) c.advance.new.slots = search rules in
    cut_over p xs c.args.slots.now c.loop-width.slots cut.result.0.now cut.result.1.now c.advance.new.slots c.loop-width.at was.low was.first was.numbers cut.ensures.front cut.ensures.back over

pub returns-then-not-forks_next : goal.returns-then-not-forks_next
returns-then-not-forks_next g c =
    let p = c.args.pkg.now in
    let xs = c.args.lines.now in
    let was = c.loop-width.invariant in
    let cut = c.split_at_mut-rest in
    cut_forked p xs c.args.slots.now c.loop-width.slots cut.result.0.now cut.result.1.now c.advance.new.slots c.loop-width.at was.low was.first was.numbers cut.ensures.front cut.ensures.back c.in-Some.width c.in-Some.ensures.forked

pub loop-width-smaller : goal.loop-width-smaller
loop-width-smaller g c =
    let p = c.args.pkg.now in
    let xs = c.args.lines.now in
    let was = c.loop-width.invariant in
    let cut = c.split_at_mut-rest in
    let low = was.low in
    let any = c.in-Some.ensures.forked.any in
    let long = further_long p xs c.args.slots.now c.loop-width.slots cut.result.0.now cut.result.1.now c.advance.new.slots c.loop-width.at was.low was.first was.numbers cut.ensures.front cut.ensures.back c.in-Some.width c.in-Some.ensures.forked in
    let less : length (cut.result.0.now ++ c.advance.new.slots) - (c.loop-width.at + c.in-Some.width) < length c.loop-width.slots - c.loop-width.at = omega arith in
    less

pub loop-width-preserved : goal.loop-width-preserved
loop-width-preserved g c =
    let p = c.args.pkg.now in
    let xs = c.args.lines.now in
    let was = c.loop-width.invariant in
    let cut = c.split_at_mut-rest in
    let width = c.in-Some.width in
    let f = c.in-Some.ensures.forked in
    let before = c.args.slots.now in
    let slots = c.loop-width.slots in
    let prefix = cut.result.0.now in
    let rest = cut.result.1.now in
    let new = c.advance.new.slots in
    let at = c.loop-width.at in
    record {
      low = further_low p xs before slots prefix rest new at was.low was.first was.numbers cut.ensures.front cut.ensures.back width f;
      first = further_first p xs before slots prefix rest new at was.low was.first was.numbers cut.ensures.front cut.ensures.back width f;
      rest = further_rest p xs before slots prefix rest new at was.low was.first was.numbers cut.ensures.front cut.ensures.back width f;
      numbers = further_numbers p xs before slots prefix rest new at was.low was.first was.numbers cut.ensures.front cut.ensures.back width f;
    }
