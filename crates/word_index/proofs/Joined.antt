-- Two rising lists of texts on the way to their union.
use Rattle.std.proofs.Common.{◌≡◌, ℕ, ◌+◌, ◌<◌, ◌≤◌, List, [], ◌∷◌, ◌++◌, length, get_or, arith, refl, sym, ap, subst, ◌∙◌, inl, inr, ⊎_elim, ◌⊎◌, All, ◌↔◌}
use Rattle.std.specs.List.{Contains, AllPairs}
use Rattle.std.proofs.lemmas.List.Elements.{All-push, All-nil, All-contains, All-get_or, Contains-get_or}
use Rattle.std.proofs.lemmas.List.{get_or_default}
use Rattle.word_index.specs.Index.{IsBelow, IsRising}
use Rattle.word_index.specs.Numbered.{IsNumbered}
use Rattle.word_index.proofs.Below.{below_trans}
use Rattle.word_index.proofs.Joins.{Joins, joins_none, joins_first, joins_second, joins_both}
use Rattle.word_index.proofs.Numbers.{numbered_more, numbered_push}

pub record Joined (xs ys : List (List ℕ)) (i j : ℕ) (all : List (List ℕ)) (of_x of_y : List ℕ) : Type 0 where
  pub order : Joins IsBelow [] xs ys i j all
  pub first : IsNumbered xs all of_x i
  pub second : IsNumbered ys all of_y j
  pub only : All (λ t. Contains xs t ⊎ Contains ys t) all

module _ {xs ys : List (List ℕ)} where
  pub joined_none : Joined xs ys 0 0 [] [] []
  joined_none = record {
    order = joins_none IsBelow [] xs ys;
    first = record { many = refl; within = All-nil (λ m. m < 0); rising = λ i j d _ below. absurd (omega (arith, below)); finds = λ k below. absurd (omega (arith, below)) };
    second = record { many = refl; within = All-nil (λ m. m < 0); rising = λ i j d _ below. absurd (omega (arith, below)); finds = λ k below. absurd (omega (arith, below)) };
    only = All-nil (λ t. Contains xs t ⊎ Contains ys t);
  }

  module _ {i j : ℕ} {all : List (List ℕ)} {of_x of_y : List ℕ} (rise_x : IsRising xs) (rise_y : IsRising ys) (old : Joined xs ys i j all of_x of_y) where
    pub joined_first : i < length xs → (j < length ys → IsBelow (get_or xs i []) (get_or ys j [])) → Joined xs ys (i + 1) j (all ++ get_or xs i [] ∷ []) (of_x ++ length all ∷ []) of_y
    joined_first within less = record {
      order = joins_first below_trans rise_x old.order within less;
      first = numbered_push (get_or xs i []) old.first refl;
      second = numbered_more (get_or xs i []) old.second;
      only = All-push (λ t. Contains xs t ⊎ Contains ys t) all (get_or xs i []) old.only (inl (Contains-get_or xs i [] within));
    }

    pub joined_second : j < length ys → (i < length xs → IsBelow (get_or ys j []) (get_or xs i [])) → Joined xs ys i (j + 1) (all ++ get_or ys j [] ∷ []) of_x (of_y ++ length all ∷ [])
    joined_second within less = record {
      order = joins_second below_trans old.order rise_y within less;
      first = numbered_more (get_or ys j []) old.first;
      second = numbered_push (get_or ys j []) old.second refl;
      only = All-push (λ t. Contains xs t ⊎ Contains ys t) all (get_or ys j []) old.only (inr (Contains-get_or ys j [] within));
    }

    pub joined_both : i < length xs → j < length ys → get_or xs i [] ≡ get_or ys j [] → Joined xs ys (i + 1) (j + 1) (all ++ get_or xs i [] ∷ []) (of_x ++ length all ∷ []) (of_y ++ length all ∷ [])
    joined_both within there same = record {
      order = joins_both below_trans old.order rise_x rise_y within there same;
      first = numbered_push (get_or xs i []) old.first refl;
      second = numbered_push (get_or xs i []) old.second (sym same);
      only = All-push (λ t. Contains xs t ⊎ Contains ys t) all (get_or xs i []) old.only (inl (Contains-get_or xs i [] within));
    }

-- a text with a number is among all
among_all : {xs all : List (List ℕ)} {numbers : List ℕ} {n : ℕ} → length xs ≤ n → IsNumbered xs all numbers n → (t : List ℕ) → Contains xs t → Contains all t
among_all {xs} {all} {numbers} {n} whole finds t here =
    let k = here.0 in
    let below : k < n = omega (arith, here.1) in
    let inside : k < length numbers = omega (arith, finds.many) in
    let same = finds.finds k below ∙ get_or_default xs k [] t here.1 ∙ here.2 in
    subst (Contains all) same (Contains-get_or all (get_or numbers k 0) [] (All-get_or (λ m. m < length all) numbers k 0 inside finds.within))

pub joined_members : {xs ys all : List (List ℕ)} {of_x of_y : List ℕ} {i j : ℕ} → length xs ≤ i → length ys ≤ j → Joined xs ys i j all of_x of_y → (t : List ℕ) → Contains all t ↔ (Contains xs t ⊎ Contains ys t)
joined_members {xs} {ys} {all} end_x end_y joined t = (
  All-contains (λ u. Contains xs u ⊎ Contains ys u) all t joined.only,
  ⊎_elim (among_all end_x joined.first t) (among_all end_y joined.second t),
)
