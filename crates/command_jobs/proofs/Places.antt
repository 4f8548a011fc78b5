-- Values with their places.
use Rattle.std.proofs.Common.{◌≡◌, ℕ, ◌<◌, ◌≤◌, List, length, get_or, take, ap, ◌∙◌, zero-add, arith}
use Rattle.std.specs.List.{enumerate_from}
use Rattle.std.proofs.lemmas.List.{take_all}
use Rattle.std.proofs.lemmas.List.FromFn.{length-enumerate_from, get_or-enumerate_from}

module _ (values : List ℕ) (i : ℕ) where
  pub at_place : (d : ℕ × ℕ) → i < length values → get_or (enumerate_from 0 values) i d ≡ (i, get_or values i d.1)
  at_place d here = get_or-enumerate_from 0 values i d here ∙ ap (λ k. (k, get_or values i d.1)) (zero-add i)

  pub is_there : i < length values → i < length (enumerate_from 0 values)
  is_there here = omega (arith, length-enumerate_from 0 values)

  pub all_places : length values ≤ i → take i (enumerate_from 0 values) ≡ enumerate_from 0 values
  all_places past = take_all i (enumerate_from 0 values) (omega (arith, length-enumerate_from 0 values))
