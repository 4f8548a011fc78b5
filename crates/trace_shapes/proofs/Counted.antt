-- One more number is counted, or not.
use Rattle.std.proofs.Common.{◌≡◌, ℕ, ◌+◌, Bool, true, false, cond, refl, ap, add-one, arith}
use Rattle.larch_actions.specs.State.{count_below}

abbrev weight : Bool → ℕ
weight b = cond b 1 0

count_more : (test : ℕ → Bool) (n : ℕ) → count_below test (n + 1) ≡ weight (test n) + count_below test n
count_more test n = rw add-one refl

pub counted_one : (test : ℕ → Bool) (n k : ℕ) → k ≡ count_below test n → test n ≡ true → k + 1 ≡ count_below test (n + 1)
counted_one test n k is t =
    let last : weight (test n) ≡ 1 = ap weight t in
    omega (arith, is, last, count_more test n)

pub counted_none : (test : ℕ → Bool) (n k : ℕ) → k ≡ count_below test n → test n ≡ false → k ≡ count_below test (n + 1)
counted_none test n k is t =
    let last : weight (test n) ≡ 0 = ap weight t in
    omega (arith, is, last, count_more test n)
