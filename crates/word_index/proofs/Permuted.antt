-- More elements after the first or the second of two lists, and after a list of the elements of both.
use Rattle.std.proofs.Common.{◌≡◌, List, ◌++◌, subst, sym, append_assoc, IsPermutation}
use Rattle.std.proofs.lemmas.List.Sorted.{IsPermutation-refl, IsPermutation-trans, IsPermutation-append, IsPermutation-append_left, IsPermutation-append_right, IsPermutation-append_comm}

module _ {X : Type 0} (A B R x : List X) (same : IsPermutation (A ++ B) R) where
  pub permuted_second : IsPermutation (A ++ (B ++ x)) (R ++ x)
  permuted_second = subst (λ l. IsPermutation l (R ++ x)) (append_assoc A B x) (IsPermutation-append_left x (A ++ B) R same)

  pub permuted_first : IsPermutation ((A ++ x) ++ B) (R ++ x)
  permuted_first =
      let turn : IsPermutation (A ++ (x ++ B)) (A ++ (B ++ x)) = IsPermutation-append_right A (x ++ B) (B ++ x) (IsPermutation-append_comm x B) in
      rw append_assoc (IsPermutation-trans _ _ _ turn permuted_second)

-- of both at once
pub permuted_both : {X : Type 0} (A B R x y z : List X) → IsPermutation (A ++ B) R → IsPermutation (x ++ y) z → IsPermutation ((A ++ x) ++ (B ++ y)) (R ++ z)
permuted_both A B R x y z same more =
    let first = permuted_first A B R x same in
    let second : IsPermutation ((A ++ x) ++ (B ++ y)) ((R ++ x) ++ y) = permuted_second (A ++ x) B (R ++ x) y first in
    let third : IsPermutation (R ++ (x ++ y)) (R ++ z) = IsPermutation-append_right R (x ++ y) z more in
    IsPermutation-trans _ _ _ second (rw append_assoc third)
