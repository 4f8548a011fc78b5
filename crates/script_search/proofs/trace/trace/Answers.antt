use Rattle.std.proofs.Common.{◌≡◌, ◌∙◌, ◌++◌, ◌<◌, List, ap, arith, length, subst, sym}
use Rattle.larch_actions.specs.declared.event.Event.{Event}
use Rattle.script_plays.specs.Plays.{IsPlayTo}
use Rattle.script_search.specs.Boards.{moment_of, scene_of}
use Rattle.script_search.specs.Founds.{moments_of}
use Rattle.script_search.proofs.Tracing.{LeadBack, back_more, parent_before, parent_leads, back_all}
use Rattle.script_search.proofs.trace.trace.Goals as goal

pub board-requires : goal.board-requires
board-requires c =
    let before = parent_before c.args.plan.now.layout c.args.plan.now.lines c.args.found.now c.requires.sound c.loop-at.at c.parent-parent.result c.loop-at-test.true c.loop-at.invariant.there c.parent-parent.ensures in
    omega (arith, before, c.loop-at.invariant.there)

pub step-requires-clause-from : goal.step-requires-clause-from
step-requires-clause-from c = c.requires.sound.seen.boards c.parent-parent.result (moment_of c.in_ok-from.from) c.in_ok-from.ensures

pub step-requires-clause-to : goal.step-requires-clause-to
step-requires-clause-to c = c.requires.sound.seen.boards c.loop-at.at (moment_of c.in_ok-to.to) c.in_ok-to.ensures

pub step-requires-clause-some : goal.step-requires-clause-some
step-requires-clause-some c =
    parent_leads c.args.plan.now.layout c.args.plan.now.lines c.args.found.now c.requires.sound c.loop-at.at c.parent-parent.result (moment_of c.in_ok-from.from) (moment_of c.in_ok-to.to)
    c.loop-at-test.true c.loop-at.invariant.there c.parent-parent.ensures c.in_ok-from.ensures c.in_ok-to.ensures

pub loop-at-smaller : goal.loop-at-smaller
loop-at-smaller c = parent_before c.args.plan.now.layout c.args.plan.now.lines c.args.found.now c.requires.sound c.loop-at.at c.parent-parent.result c.loop-at-test.true c.loop-at.invariant.there c.parent-parent.ensures

pub loop-at-preserved : goal.loop-at-preserved
loop-at-preserved c =
    let l = c.args.plan.now.layout in
    let xs = c.args.plan.now.lines in
    let f = c.args.found.now in
    let before = parent_before l xs f c.requires.sound c.loop-at.at c.parent-parent.result c.loop-at-test.true c.loop-at.invariant.there c.parent-parent.ensures in
    record {
      there = omega (arith, before, c.loop-at.invariant.there);
      back = subst (λ (es : List Event). LeadBack l xs f c.parent-parent.result c.args.place es) (sym (c.in_ok-extend_from_slice.ensures.items ∙ ap (λ (z : List Event). c.loop-at.events.items ++ z) (c.as_slice.ensures.value ∙ c.reverse.ensures.items)))
          (back_more l xs f c.requires.sound c.parent-parent.result c.loop-at.at c.args.place c.loop-at.events.items (moment_of c.in_ok-from.from) (moment_of c.in_ok-to.to) c.in_ok-last.last.items
          c.in_ok-from.ensures c.in_ok-to.ensures c.in_ok-last.ensures c.loop-at.invariant.back);
    }

pub returns : goal.returns
returns c = λ m there.
    let l = c.args.plan.now.layout in
    let xs = c.args.plan.now.lines in
    let f = c.args.found.now in
    let zero : c.loop-at.at ≡ 0 = omega (arith, c.loop-at-test.false) in
    let some : 0 < length (moments_of f) = omega (arith, c.loop-at.invariant.there) in
    let back = subst (λ k. LeadBack l xs f k c.args.place c.loop-at.events.items) zero c.loop-at.invariant.back in
    subst (λ (es : List Event). IsPlayTo l xs es (scene_of m)) (sym c.reverse-2.ensures.items) (back_all l xs f c.requires.sound c.args.place c.loop-at.events.items m some back there)
