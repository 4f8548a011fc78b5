use Rattle.std.proofs.Common.{◌≡◌, ◌∷◌, length, refl, sym, ap, ◌∙◌, arith}
use Rattle.std.specs.Vec.Iter.{into_iter_items}
use Rattle.thread_crew.proofs.Zips.{nothing_left}
use Rattle.job_pool.specs.Batches.{filled}
use Rattle.job_pool.proofs.places.place_list.Goals as goal

pub loop-item-init : goal.loop-item-init
loop-item-init g c =
    let gives = c.into_iter-item-iterator.ensures.into_iter_gives in
    let all = ap length gives.0 in
    let same = c.args.list.ok.0 in
    let len = gives.1 in
    record { left = omega arith; same = refl }

pub loop-item-preserved : goal.loop-item-preserved
loop-item-preserved g c =
    let at = c.loop-item in
    let x = c.in-Some.item in
    let steps : into_iter_items at.item-iterator ≡ x ∷ into_iter_items c.next.new.self = c.in-Some.ensures.steps.0 in
    let gone = c.in-Some.ensures.steps.1 in
    let short = ap length steps in
    let left = at.invariant.left in
    record {
      left = omega arith;
      same = ap (filled (into_iter_items c.next.new.self)) c.place.ensures ∙ (sym (ap (λ l. filled l at.places) steps) ∙ at.invariant.same);
    }

pub returns : goal.returns
returns g c =
    let at = c.loop-item in
    let none = nothing_left (into_iter_items at.item-iterator) (sym at.invariant.left ∙ c.in-None.ensures.steps.0) in
    sym (ap (λ l. filled l at.places) none) ∙ (at.invariant.same ∙ ap (λ l. filled l c.args.places.now) c.into_iter-item-iterator.ensures.into_iter_gives.0)
