-- What the shares of threads add up to.
use Rattle.std.proofs.Common.{◌≡◌, ℕ, ◌+◌, List, [], ◌∷◌, map, Some, arith, ap, refl}
use Rattle.nub.specs.Totals.{total}
use Rattle.example_sum.specs.Trees.{Adder, added_by, amount}

-- what the shares add up to
pub shares_added : (threads : List Adder) (shares : List ℕ) → map (λ t. t.share) threads ≡ map (λ s. Some s) shares → total (λ s. s) shares ≡ added_by threads
shares_added [] [] each = refl
shares_added [] (s ∷ shares) each = absurd (cc)
shares_added (t ∷ threads) [] each = absurd (cc)
shares_added (t ∷ threads) (s ∷ shares) each =
    let head : t.share ≡ Some s = cc in
    let tail : map (λ t. t.share) threads ≡ map (λ s. Some s) shares = cc in
    let own : amount t.share ≡ s = ap amount head in
    let rest = shares_added threads shares tail in
    omega arith
