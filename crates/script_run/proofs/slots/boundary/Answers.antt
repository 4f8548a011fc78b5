use Rattle.std.proofs.Common.{◌≡◌, ◌<◌, ℕ, take, length, sym, subst, ◌∙◌, inl, inr, arith}
use Rattle.std.proofs.lemmas.Bool.{cases_lt, false≢true}
use Rattle.script_run.specs.Slots.{EndsLive}
use Rattle.script_run.proofs.Pieces.{ends_here, not_here}
use Rattle.script_run.proofs.slots.boundary.Goals as goal
use Rattle.script_run.proofs.slots.boundary.Goals.{then-is_live, else-is_live}

pub loop-end-init : goal.loop-end-init
loop-end-init c = record {
  within = λ any. absurd (omega arith);
  live = λ any. absurd (omega arith);
  last = λ n any low ends. absurd (omega arith);
}

pub loop-end-preserved : goal.loop-end-preserved
loop-end-preserved c =
    let k = c.loop-end.end in
    let any : 0 < k = omega (arith, c.loop-end.auto.end) in
    let low : k < length c.args.slots.now = c.loop-end-test.true in
    let was = c.loop-end.invariant in
    let read = c.index-slots-end.result in
    elim c.if-is_live.branch [
      | then-is_live w ↦ record {
        within = λ more. subst (λ (n : ℕ). n < length c.args.slots.now) (sym w.found-is) low;
        live = λ more. subst (λ (n : ℕ). EndsLive (take n c.args.slots.now)) (sym w.found-is) (ends_here c.args.slots.now k read any (omega arith) c.index-slots-end.is (sym c.is_live.ensures ∙ w.if-is_live.true));
        last = λ n more less ends. absurd (let past : k < n = subst (λ (m : ℕ). m < n) w.found-is more in omega arith);
      }
      | else-is_live w ↦ record {
        within = λ more. subst (λ (n : ℕ). n < length c.args.slots.now) (sym w.found-is) (was.within (subst (λ (n : ℕ). 0 < n) w.found-is more));
        live = λ more. subst (λ (n : ℕ). EndsLive (take n c.args.slots.now)) (sym w.found-is) (was.live (subst (λ (n : ℕ). 0 < n) w.found-is more));
        last = λ n more less ends.
            elim (cases_lt n k) [
              | inl before ↦ was.last n (subst (λ (m : ℕ). m < n) w.found-is more) before ends
              | inr past ↦ not_here c.args.slots.now k read any (omega arith) c.index-slots-end.is (λ e. false≢true (sym w.if-is_live.false ∙ (c.is_live.ensures ∙ e)))
                  (let same : n ≡ k = omega arith in subst (λ (m : ℕ). EndsLive (take m c.args.slots.now)) same ends)
            ];
      }
    ]

pub returns-clause-within : goal.returns-clause-within
returns-clause-within c = c.loop-end.invariant.within

pub returns-clause-live : goal.returns-clause-live
returns-clause-live c = c.loop-end.invariant.live

pub returns-clause-last : goal.returns-clause-last
returns-clause-last c n any low = c.loop-end.invariant.last n any (omega (arith, c.loop-end-test.false))
