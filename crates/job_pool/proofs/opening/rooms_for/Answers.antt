use Rattle.std.proofs.Common.{◌≡◌, ◌+◌, ◌∷◌, [], ◌++◌, ℕ, zero, suc, length, replicate, None, refl, ap, ◌∙◌, arith}
use Rattle.std.proofs.lemmas.List.{length-replicate}
use Rattle.job_pool.proofs.opening.rooms_for.Goals as goal

more_none : {A : Type 0} (n : ℕ) (x : A) → replicate n x ++ x ∷ [] ≡ replicate (n + 1) x
more_none zero x = refl
more_none (suc n) x =
    let one : suc (n + 1) ≡ suc n + 1 = omega arith in
    ap (λ l. x ∷ l) (more_none n x) ∙ ap (λ k. replicate k x) one

pub loop-made-init : goal.loop-made-init
loop-made-init g c = record { none = c.in_ok-places.ensures.items; wide = c.in_ok-places.ensures.capacity }

pub push_reserved-requires : goal.push_reserved-requires
push_reserved-requires g c =
    let was = c.loop-made.invariant in
    let long = ap length was.none ∙ length-replicate c.loop-made.made None in
    let wide = was.wide in
    let low = c.loop-made-test.true in
    let ok = c.loop-made.places.ok.0 in
    omega arith

pub loop-made-preserved : goal.loop-made-preserved
loop-made-preserved g c =
    let was = c.loop-made.invariant in
    let push = c.push_reserved.ensures in
    record {
      none = push.items ∙ (ap (λ l. l ++ None ∷ []) was.none ∙ more_none c.loop-made.made None);
      wide = (let wide = was.wide in let cap = push.capacity in omega arith);
    }

pub returns-clause-places : goal.returns-clause-places
returns-clause-places g c =
    let was = c.loop-made.invariant in
    let over = c.loop-made-test.false in
    was.none ∙ ap (λ n. replicate n None) (omega arith)
