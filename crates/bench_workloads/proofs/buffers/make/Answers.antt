use Rattle.std.proofs.Common.{◌≡◌, ◌⊎◌, ◌+◌, ◌*◌, ◌%◌, ◌^◌, ◌<◌, ◌≤◌, ℕ, Bool, List, false, true, ◌∷◌, [], length, arith, refl, sym, ap, subst, ◌∙◌, inl, inr}
use Rattle.std.proofs.lemmas.List.Sums.{sum_by-cons}
use Rattle.bounded_buffer.specs.declared.did.Did.TheVariants.{Put}
use Rattle.bounded_buffer.specs.Parts.{Used, unused}
use Rattle.bounded_buffer.specs.Using.{did_at}
use Rattle.bench_workloads.specs.Passing.{Both, HasEnded, IsRow, WasRefused, items_sum, numbers_sum}
use Rattle.bench_workloads.proofs.Crewing.{at_end}
use Rattle.bench_workloads.proofs.Totals.{numbers-more}
use Rattle.bench_workloads.proofs.buffers.make.Goals as goal

abbrev so_far : List (ℕ × ℕ) → List (Used ℕ)
so_far puts = record unused { puts = puts } ∷ unused ∷ []

abbrev recorded : List (ℕ × ℕ) → Bool → ℕ → ℕ → Both
recorded puts shut place n = record { numbers = record unused { puts = puts; shut = shut }; ends = record unused { puts = (place, n) ∷ [] } }

abbrev refused : List (ℕ × ℕ) → Bool → Bool → Both
refused puts numbers ends = record { numbers = record unused { puts = puts; seen_shut = numbers }; ends = record unused { seen_shut = ends } }

-- one more number of a row
row_more : (first i k item : ℕ) (ps : List (ℕ × ℕ)) → item ≡ first + i → IsRow first i ps → IsRow first (i + 1) ((k, item) ∷ ps)
row_more first i k item ps is row =
    let cons = sum_by-cons (λ (p : ℕ × ℕ). p.1) (k, item) ps in
    let more = numbers-more first i in
    let sum = row.sum in
    let count = row.count in
    record { sum = omega arith; count = omega arith }

-- what a maker has done, which has taken nothing and shut no buffer of ends
maker : (makers times n : ℕ) (x : Both) → n < makers → x.numbers.takes ≡ [] → x.ends.shut ≡ false → length x.ends.puts ≤ 1
    → (x.numbers.shut ≡ true → (place : ℕ) × (x.ends.puts ≡ (place, n) ∷ []) × (place + 1 ≡ makers)) → IsRow (n * times) times x.numbers.puts ⊎ WasRefused x → HasEnded makers times n 0 x
maker makers times n x low takes opened once last ends =
    record { sum = ap (λ ps. items_sum ps % 2 ^ 64) (sym takes); opened = opened; once = once; last = last; makes = λ own. ends; takes = λ high. absurd (omega arith) }

pub returns-in_default : goal.returns-in_default
returns-in_default g c =
    let inv = c.loop-i.invariant in
    let n = c.args.me.number in
    let x = refused inv.0 true false in
    let ends = maker c.args.makers c.args.times n x c.requires.maker refl refl (omega arith) (λ shut. absurd (cc)) (inr (record { recorded = refl; seen = inl refl })) in
    (x, c.in_default.ensures.refused.1 n 0 (so_far inv.0) c.plain_buffer-numbers.ensures.mutex inv.1, ends)

pub loop-i-preserved : goal.loop-i-preserved
loop-i-preserved g c =
    let inv = c.loop-i.invariant in
    let n = c.args.me.number in
    let i = c.loop-i.i in
    let item = c.number-own.result * c.args.times + i in
    let is : item ≡ n * c.args.times + i = ap (λ k. k * c.args.times + i) c.number-own.ensures in
    let place = c.in-Ok.field-0 in
    ((place, item) ∷ inv.0, c.in-Ok.ensures.put n 0 (so_far inv.0) c.plain_buffer-numbers.ensures.mutex inv.1, row_more (n * c.args.times) i place item inv.0 is inv.2)

pub returns-in_default-put_anyway : goal.returns-in_default-put_anyway
returns-in_default-put_anyway g c =
    let inv = c.loop-i.invariant in
    let n = c.args.me.number in
    let x = refused inv.0 false true in
    let ends = maker c.args.makers c.args.times n x c.requires.maker refl refl (omega arith) (λ shut. absurd (cc)) (inr (record { recorded = refl; seen = inr refl })) in
    (x, c.in_default-put_anyway.ensures.refused.1 n 1 (so_far inv.0) c.plain_buffer-ends.ensures.mutex inv.1, ends)

pub shut_plain-requires-clause-used : goal.shut_plain-requires-clause-used
shut_plain-requires-clause-used g c κs within =
    let inv = c.loop-i.invariant in
    let n = c.args.me.number in
    (n, did_at 1 (Put c.in-Ok-put_anyway.place c.number-own.result) (so_far inv.0), c.in-Ok-put_anyway.ensures.put n 1 (so_far inv.0) c.plain_buffer-ends.ensures.mutex inv.1)

pub returns-then-place-others : goal.returns-then-place-others
returns-then-place-others g c =
    let inv = c.loop-i.invariant in
    let n = c.args.me.number in
    let times = c.args.times in
    let own = c.number-own in
    let place = c.in-Ok-put_anyway.place in
    let put = c.in-Ok-put_anyway.ensures.put n 1 (so_far inv.0) c.plain_buffer-ends.ensures.mutex inv.1 in
    let row = at_end (λ k. IsRow (n * times) k inv.0) c.loop-i.i times c.loop-i-test.false c.loop-i.auto.i-end inv.2 in
    let last = c.if-place-others.true in
    let low = c.requires.maker in
    let x = recorded inv.0 true place own.result in
    let ends = maker c.args.makers times n x low refl refl (omega arith) (λ shut. (place, ap (λ k. (place, k) ∷ []) own.ensures, omega arith)) (inl row) in
    (x, c.shut_plain.ensures n 0 (did_at 1 (Put place own.result) (so_far inv.0)) c.plain_buffer-numbers.ensures.mutex put, ends)

pub returns : goal.returns
returns g c =
    let inv = c.loop-i.invariant in
    let n = c.args.me.number in
    let times = c.args.times in
    let row = at_end (λ k. IsRow (n * times) k inv.0) c.loop-i.i times c.loop-i-test.false c.loop-i.auto.i-end inv.2 in
    let x = recorded inv.0 false c.in-Ok-put_anyway.place c.number-own.result in
    let ends = maker c.args.makers times n x c.requires.maker refl refl (omega arith) (λ shut. absurd (cc)) (inl row) in
    (x, c.in-Ok-put_anyway.ensures.put n 1 (so_far inv.0) c.plain_buffer-ends.ensures.mutex inv.1, ends)
