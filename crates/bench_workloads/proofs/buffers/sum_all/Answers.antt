use Rattle.std.proofs.Common.{◌≡◌, ◌+◌, ◌%◌, ◌^◌, ℕ, true, List, ◌∷◌, [], arith, refl, sym, ap, ◌∙◌}
use Rattle.std.proofs.Math.Nat.{mod-add-mod}
use Rattle.std.proofs.lemmas.List.Sums.{sum_by-cons}
use Rattle.bounded_buffer.specs.Parts.{Used, unused}
use Rattle.bench_workloads.specs.Passing.{Both, HasEnded, items_sum}
use Rattle.bench_workloads.proofs.buffers.sum_all.Goals as goal

abbrev so_far : List (ℕ × ℕ) → List (Used ℕ)
so_far takes = record unused { takes = takes } ∷ unused ∷ []

-- one more item in the sum modulo w
sum_more : (w a k i : ℕ) (ps : List (ℕ × ℕ)) → a ≡ items_sum ps % w → (a + i) % w ≡ items_sum ((k, i) ∷ ps) % w
sum_more w a k i ps is =
    let e : i + items_sum ps ≡ items_sum ps + i = omega arith in
    ap (λ n. (n + i) % w) is ∙ (mod-add-mod (items_sum ps) w i ∙ ap (λ n. n % w) (sym (sum_by-cons (λ (p : ℕ × ℕ). p.1) (k, i) ps ∙ e)))

pub loop-preserved : goal.loop-preserved
loop-preserved g c =
    let inv = c.loop.invariant in
    let a = c.in-Ok in
    ((a.field-0-0, a.item) ∷ inv.0, a.ensures.took c.args.me.number 0 (so_far inv.0) c.plain_buffer-numbers.ensures.mutex inv.1, sum_more (2 ^ 64) c.loop.sum a.field-0-0 a.item inv.0 inv.2)

pub returns-in_default : goal.returns-in_default
returns-in_default g c = λ makers times high.
    let inv = c.loop.invariant in
    let x : Both = record { numbers = record unused { takes = inv.0; seen_end = true }; ends = unused } in
    let ends : HasEnded makers times c.args.me.number c.loop.sum x =
    record { sum = inv.2; opened = refl; once = omega arith; last = λ shut. absurd (cc); makes = λ low. absurd (omega arith); takes = λ own. record { puts = refl; recorded = refl; end = refl } } in
    (x, c.in_default.ensures.over c.args.me.number 0 (so_far inv.0) c.plain_buffer-numbers.ensures.mutex inv.1, ends)
