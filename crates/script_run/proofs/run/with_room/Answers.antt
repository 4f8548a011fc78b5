use Rattle.std.proofs.Common.{◌<◌, ◌∙◌, ℕ, List, [], length, arith, refl, sym, subst}
use Rattle.std.proofs.lemmas.List.{length-set}
use Rattle.nub.specs.Ended.{IsFirst}
use Rattle.nub.proofs.Roomy.{first_roomy}
use Rattle.nub_rule.proofs.Each.{each-set}
use Rattle.nub_rule.proofs.Ordering.{read-at}
use Rattle.sum_uses.specs.declared.added.Added.{Added}
use Rattle.script_run.specs.Playing.{Player}
use Rattle.script_run.proofs.run.with_room.Goals as goal

pub loop-at-init : goal.loop-at-init
loop-at-init c = record { count = refl; first = λ p each. each }

pub loop-at-preserved : goal.loop-at-preserved
loop-at-preserved c =
    let xs = c.loop-at.threads.items in
    let old = c.index_mut.result.now in
    let i = c.loop-at.invariant in
    let low : c.loop-at.at < length xs = omega (arith, c.loop-at-test.true, c.len-at-end.ensures, i.count) in
    record {
      count = length-set xs c.loop-at.at c.reserve.new.self ∙ i.count;
      first = λ p each.
          let P : ℕ → Player → Type 0 = λ n k. IsFirst p (λ w t. let s : List Added = [] in s) n k in
          let there = i.first p each in
          each-set P P xs c.loop-at.at c.reserve.new.self
          (subst (P c.loop-at.at) (sym c.reserve.ensures.same) (first_roomy p c.reserve.new.self.capacity old _ c.loop-at.at (there c.loop-at.at old (read-at xs c.loop-at.at old low c.index_mut.ensures.value))))
          (λ k x ne at own. own) there;
    }
