-- What counts over shares need.
use Rattle.std.proofs.Common.{◌≡◌, ℕ, zero, suc, ◌+◌, ◌*◌, List, [], ◌∷◌, length, map, arith, refl, ap, ◌∙◌}
use Rattle.std.specs.List.{range_with_len}
use Rattle.nub_rule.specs.Ends.{firsts}
use Rattle.nub.specs.Totals.{total}

module _ {A : Type 0} (f : A → ℕ) (r : A) where
  total-alike : (a n : ℕ) → total f (map (λ k. r) (range_with_len a n)) ≡ n * f r
  total-alike a zero = omega arith
  total-alike a (suc n) = let h = total-alike (a + 1) n in omega arith

  -- where n threads begin with the same share, all parts are n times its part
  pub total_same : (n : ℕ) → total f (firsts (λ t. r) n) ≡ n * f r
  total_same n = total-alike 0 n
