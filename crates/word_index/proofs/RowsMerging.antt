-- The places of two rows on the way into one.
use Rattle.std.proofs.Common.{◌≡◌, ℕ, ◌+◌, ◌<◌, ◌≤◌, List, [], ◌∷◌, ◌++◌, length, get_or, take, arith, refl, sym, ap, subst, ◌∙◌, append-nil, append_assoc, IsPermutation}
use Rattle.std.specs.List.{AllPairs}
use Rattle.std.proofs.Math.Seq.{take-length}
use Rattle.std.proofs.lemmas.List.{take_more, take_all, take-append-le}
use Rattle.std.proofs.lemmas.List.Sorted.{IsPermutation-refl}
use Rattle.word_index.specs.declared.rows.Place.{Place}
use Rattle.word_index.specs.Merged.{IsPathBelow, nowhere, AreMerged, AddsMerged}
use Rattle.word_index.proofs.Joins.{Joins, joins_none, joins_first, joins_second}
use Rattle.word_index.proofs.Permuted.{permuted_first, permuted_second}

pub record Merging (xs ys old : List Place) (i j : ℕ) (new : List Place) : Type 0 where
  pub row : List Place
  pub is : new ≡ old ++ row
  pub order : Joins IsPathBelow nowhere xs ys i j row
  pub same : IsPermutation (take i xs ++ take j ys) row

below_trans : (x y z : Place) → IsPathBelow x y → IsPathBelow y z → IsPathBelow x z
below_trans x y z h k = omega (arith, h, k)

pub merging_none : (xs ys old : List Place) → Merging xs ys old 0 0 old
merging_none xs ys old = record {
  row = [];
  is = sym (append-nil old);
  order = joins_none IsPathBelow nowhere xs ys;
  same = IsPermutation-refl [];
}

module _ {xs ys old new : List Place} {i j : ℕ} (m : Merging xs ys old i j new) where
  -- the old places are still in front
  pub merging_keeps : take (length old) new ≡ old
  merging_keeps = ap (take (length old)) m.is ∙ take-append-le (length old) old m.row (omega arith) ∙ take-length old

  pub merging_first : AllPairs IsPathBelow xs → i < length xs → (j < length ys → IsPathBelow (get_or xs i nowhere) (get_or ys j nowhere)) → Merging xs ys old (i + 1) j (new ++ get_or xs i nowhere ∷ [])
  merging_first rise here less =
      let x = get_or xs i nowhere in
      record {
        row = m.row ++ x ∷ [];
        is = ap (λ l. l ++ x ∷ []) m.is ∙ append_assoc old m.row (x ∷ []);
        order = joins_first below_trans rise m.order here less;
        same = rw (take_more xs i nowhere here) (permuted_first (take i xs) (take j ys) m.row (x ∷ []) m.same);
      }

  pub merging_second : AllPairs IsPathBelow ys → j < length ys → (i < length xs → IsPathBelow (get_or ys j nowhere) (get_or xs i nowhere)) → Merging xs ys old i (j + 1) (new ++ get_or ys j nowhere ∷ [])
  merging_second rise here less =
      let y = get_or ys j nowhere in
      record {
        row = m.row ++ y ∷ [];
        is = ap (λ l. l ++ y ∷ []) m.is ∙ append_assoc old m.row (y ∷ []);
        order = joins_second below_trans m.order rise here less;
        same = rw (take_more ys j nowhere here) (permuted_second (take i xs) (take j ys) m.row (y ∷ []) m.same);
      }

  pub merging_all : length xs ≤ i → length ys ≤ j → AddsMerged xs ys old new
  merging_all whole_x whole_y = record {
    row = m.row;
    is = m.is;
    merged = record {
      same = subst (λ l. IsPermutation l m.row) (λ k. take_all i xs whole_x k ++ take_all j ys whole_y k) m.same;
      rising = m.order.rising;
    };
  }
