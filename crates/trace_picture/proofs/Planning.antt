-- The rows of a band, one after another.
use Rattle.std.proofs.Common.{◌≡◌, ℕ, zero, suc, ◌+◌, ◌≤◌, ◌<◌, max, Bool, true, false, cond, List, [], ◌∷◌, ◌++◌, length, length-append, take, get_or, refl, ap, sym, ◌∙◌, add-one, arith}
use Rattle.std.proofs.lemmas.Bool.{cond_both}
use Rattle.std.proofs.lemmas.List.{take_more}
use Rattle.larch_actions.specs.State.{count_below}
use Rattle.trace_shapes.specs.declared.view.BandRow.{BandRow}
use Rattle.trace_board.specs.declared.rows.Bar.{Bar}
use Rattle.trace_board.specs.declared.rows.Row.{Row}
use Rattle.trace_board.specs.Rows.{has, lane_in}
use Rattle.trace_picture.specs.Plan.{most_below, sum_below, rows_below}

pub most_more : (f : ℕ → ℕ) (n : ℕ) → most_below f (n + 1) ≡ max (most_below f n) (f n)
unfolding most_below
most_more f n = rw add-one refl

pub most_none : (f : ℕ → ℕ) → most_below f 0 ≡ 0
unfolding most_below
most_none f = refl

pub sum_more : (f : ℕ → ℕ) (n : ℕ) → sum_below f (n + 1) ≡ sum_below f n + f n
unfolding sum_below
sum_more f n = rw add-one refl

pub sum_none : (f : ℕ → ℕ) → sum_below f 0 ≡ 0
unfolding sum_below
sum_none f = refl

pub rows_more : (f : ℕ → BandRow) (n : ℕ) → rows_below f (n + 1) ≡ rows_below f n ++ f n ∷ []
unfolding rows_below
rows_more f n = rw add-one refl

pub rows_none : (f : ℕ → BandRow) → rows_below f 0 ≡ []
unfolding rows_below
rows_none f = refl

-- a bar has one of four lanes
pub lane_small : (r : Row) (x : Bar) → lane_in r x ≤ 3
lane_small r x =
    cond_both (has x r.first) 0 (cond (has x r.second) 1 (cond (has x r.third) 2 3)) (λ n. n ≤ 3) (λ e. omega arith) (λ e.
    cond_both (has x r.second) 1 (cond (has x r.third) 2 3) (λ n. n ≤ 3) (λ f. omega arith) (λ f.
    cond_both (has x r.third) 2 3 (λ n. n ≤ 3) (λ g. omega arith) (λ g. omega arith)))

-- one more thread is counted, or not
pub count_more : (test : ℕ → Bool) (n k : ℕ) (b : Bool) (d : ℕ) → k ≡ count_below test n → b ≡ test n → d ≡ cond b 1 0 → (k + d ≡ count_below test (n + 1)) × (d ≤ 1)
count_more test n k b d is same one =
    let more : count_below test (n + 1) ≡ cond (test n) 1 0 + count_below test n = rw add-one refl in
    let last : d ≡ cond (test n) 1 0 = one ∙ ap (λ x. cond x 1 0) same in
    (omega (arith, is, more, last), small b one)
  where
    small : (b : Bool) → d ≡ cond b 1 0 → d ≤ 1
    small true e = omega (arith, e)
    small false e = omega (arith, e)
