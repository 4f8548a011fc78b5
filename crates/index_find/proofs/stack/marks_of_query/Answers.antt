use Rattle.std.proofs.Common.{◌≡◌, ◌+◌, ◌-◌, ◌<◌, ◌≤◌, List, [], length, take, drop, ap, sym, ◌∙◌, subst, arith}
use Rattle.std.specs.Vec.{vec_len}
use Rattle.index_find.specs.Tree.{Tree}
use Rattle.index_find.specs.Postfix.{built, stepped, tree_of}
use Rattle.index_find.specs.Marks.{AreMarks, AreStacked, Suffice, joined}
use Rattle.index_find.proofs.Stacked.{suffice_whole, suffice_more, built_more, built_whole, stacked_alike, only}
use Rattle.index_find.proofs.stack.marks_of_query.Goals as goal

pub loop-step-init : goal.loop-step-init
loop-step-init c = record {
  enough = subst (Suffice c.steps-step-items.result.now) (sym c.new-stack.ensures.len)
      (suffice_whole c.steps-step-items.result.now (tree_of c.args.query.now) (c.steps-step-items.ensures.steps ∙ c.steps-step-items.ensures.whole));
  stacked = c.new-stack.ensures.items;
}

pub join-requires-clause-alike : goal.join-requires-clause-alike
join-requires-clause-alike c = stacked_alike c.args.index.now (built (take c.loop-step.step-index c.steps-step-items.result.now) []) c.loop-step.stack.items c.loop-step.invariant.stacked

pub loop-step-preserved : goal.loop-step-preserved
loop-step-preserved c =
    let steps = c.steps-step-items.result.now in
    let k = c.loop-step.step-index in
    let step = c.step-item.result in
    let n = vec_len c.loop-step.stack in
    let inside : k < length steps = omega arith in
    let more = suffice_more steps k n step inside c.step-item.is c.loop-step.invariant.enough in
    let many : n + 1 - joined step ≡ vec_len c.push.new.self = omega (arith, more.0, c.in_ok-push.ensures.len, c.in_ok-marks.ensures.len) in
    let trees = built (take k steps) [] in
    record {
      enough = subst (Suffice (drop (k + 1) steps)) many more.1;
      stacked = subst (λ (ts : List Tree). AreStacked c.args.index.now ts c.push.new.self.items) (built_more steps k step inside c.step-item.is)
          (subst (AreStacked c.args.index.now (stepped step trees)) (sym c.in_ok-push.ensures.items) (c.in_ok-marks.ensures.marks trees c.loop-step.invariant.stacked));
    }

pub returns : goal.returns
returns c =
    let steps = c.steps-step-items.result.now in
    let all : length steps ≤ c.loop-step.step-index = omega arith in
    let same = c.steps-step-items.ensures.steps in
    let whole = same ∙ c.steps-step-items.ensures.whole ∙ ap (λ ss. Rattle.index_find.specs.Postfix.postfix (tree_of ss)) (sym same) in
    let stacked = subst (λ (ts : List Tree). AreStacked c.args.index.now ts c.loop-step.stack.items) (built_whole steps c.loop-step.step-index all whole) c.loop-step.invariant.stacked in
    subst (λ (t : Tree). AreMarks c.args.index.now t c.take_last.result) (ap tree_of same)
    (only c.args.index.now (tree_of steps) c.loop-step.stack.items c.take_last.new.stack.items c.take_last.result stacked c.take_last.ensures.items)
