use Rattle.std.proofs.Common.{◌≡◌, ◌+◌, ◌%◌, ◌^◌, ◌<◌, ℕ, List, length, get_or, take, sym, ap, ◌∙◌}
use Rattle.std.specs.List.{sum}
use Rattle.std.proofs.Math.Nat.{mod-add-mod}
use Rattle.std.proofs.lemmas.List.{take_all}
use Rattle.std.proofs.lemmas.List.Sums.{sum_by_more}
use Rattle.program_bench.proofs.sum_of.Goals as goal

-- one more number in the sum modulo w
sum_more : (w a i : ℕ) (xs : List ℕ) → i < length xs → a ≡ sum (take i xs) % w → (a + get_or xs i 0) % w ≡ sum (take (i + 1) xs) % w
sum_more w a i xs low is =
    ap (λ n. (n + get_or xs i 0) % w) is ∙ (mod-add-mod (sum (take i xs)) w (get_or xs i 0) ∙ ap (λ n. n % w) (sym (sum_by_more (λ (x : ℕ). x) xs i 0 low)))

pub loop-number-preserved : goal.loop-number-preserved
loop-number-preserved c = sum_more (2 ^ 64) c.loop-number.sum c.loop-number.number-index c.args.numbers.now c.loop-number-test.true c.loop-number.invariant

pub returns : goal.returns
returns c = c.loop-number.invariant ∙ ap (λ l. sum l % 2 ^ 64) (take_all c.loop-number.number-index c.args.numbers.now c.loop-number-test.false)
