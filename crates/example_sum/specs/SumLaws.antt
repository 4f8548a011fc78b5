-- The laws of the sum as a use of the package: a thread that takes it finds room for its own part,
-- and an addition keeps the account.
use Rattle.std.specs.Prelude.{◌≡◌, ◌≢◌, ℕ, ◌≤◌, ◌^◌, List, slice_set}
use Rattle.std.proofs.Common.{arith, subst, ⊎_elim}
use Rattle.std.proofs.lemmas.List.{length-set}
use mathlib.Core.Option.{some}
use lib.ListN.{get_elem?}
use Rattle.atomic_table.proofs.Lists.{at_set}
use Rattle.nub.proofs.Guards.{one_after}
use Rattle.nub.proofs.Totals.{part_set, total_most}
use Rattle.example_sum.specs.Sums.{AreSums, IsAdded, IsSum}

pub fits_sum : (w : Prim.Unit {0}) (values shares : List ℕ) → AreSums values shares → (m x : ℕ) → get_elem? values m ≡ some x → (t s : ℕ)
    → get_elem? shares t ≡ some s → x ≤ 2 ^ 63
fits_sum w values shares h m x at t s there =
    let was = h.each m x at in
    let few = was.few in
    let all = was.all in
    let most = total_most (λ (r : ℕ). r) 36028797018963968 shares was.small in
    omega arith

pub after_sum : (w : Prim.Unit {0}) (values shares : List ℕ) → AreSums values shares → (m x y : ℕ) → get_elem? values m ≡ some x
    → (t s r : ℕ) → get_elem? shares t ≡ some s → IsAdded x y s r
    → AreSums (slice_set values m y) (slice_set shares t r)
after_sum w values shares h m x y at t s r there ok = one_after IsSum values shares (slice_set shares t r) m x y h at (λ was.
    let long = length-set shares t r in
    let few = was.few in
    let sum = part_set (λ (u : ℕ). u) shares t s r there in
    let before = was.all in
    let alike = ok.alike in
    record {
      few = omega arith;
      small = λ u q f. ⊎_elim
          (λ (o : (u ≡ t) × (r ≡ q)). subst (λ k. k ≤ 2 ^ 55) o.1 ok.small)
          (λ (o : (u ≢ t) × (get_elem? shares u ≡ some q)). was.small u q o.1)
          (at_set shares t u r q f);
      all = omega arith;
    })
