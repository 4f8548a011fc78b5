-- Texts that stand in a longer list, by their numbers there.
use Rattle.std.proofs.Common.{◌≡◌, ℕ, ◌+◌, ◌<◌, ◌≤◌, List, [], ◌∷◌, ◌++◌, length, get_or, arith, refl, sym, ap, ◌∙◌, ⊎_elim, All}
use Rattle.std.proofs.lemmas.List.{length_push, get_or_append_left, get_or_push}
use Rattle.std.proofs.lemmas.List.Elements.{All-push, All-weaker, All-get_or}
use Rattle.std.proofs.lemmas.List.Quantifiers.{all_pairs_push}
use Rattle.std.proofs.lemmas.Bool.{cases_lt}
use Rattle.word_index.specs.Numbered.{IsNumbered}

module _ {xs all : List (List ℕ)} {numbers : List ℕ} {n : ℕ} (y : List ℕ) (old : IsNumbered xs all numbers n) where
  wider : All (λ m. m < length (all ++ y ∷ [])) numbers
  wider = All-weaker (λ m. m < length all) (λ m. m < length (all ++ y ∷ [])) (λ m h. omega (arith, length_push all y)) numbers old.within

  still_finds : (k : ℕ) → k < n → get_or (all ++ y ∷ []) (get_or numbers k 0) [] ≡ get_or xs k []
  still_finds k below =
      let inside : k < length numbers = omega (arith, old.many) in
      get_or_append_left all (y ∷ []) [] (get_or numbers k 0) (All-get_or (λ m. m < length all) numbers k 0 inside old.within) ∙ old.finds k below

  -- the numbers stay where one more comes last
  pub numbered_more : IsNumbered xs (all ++ y ∷ []) numbers n
  numbered_more = record { many = old.many; within = wider; rising = old.rising; finds = still_finds }

  -- the next text is the new one
  pub numbered_push : get_or xs n [] ≡ y → IsNumbered xs (all ++ y ∷ []) (numbers ++ length all ∷ []) (n + 1)
  numbered_push next = record {
    many = omega (arith, length_push numbers (length all), old.many);
    within = All-push (λ m. m < length (all ++ y ∷ [])) numbers (length all) wider (omega (arith, length_push all y));
    rising = all_pairs_push (λ a b. a < b) numbers (length all) old.rising old.within;
    finds = λ k below. ⊎_elim
        (λ (lt : k < n).
        let before : k < length numbers = omega (arith, old.many) in
        ap (λ m. get_or (all ++ y ∷ []) m []) (get_or_append_left numbers (length all ∷ []) 0 k before) ∙ still_finds k lt)
        (λ (ge : n ≤ k).
        let last : length numbers ≡ k = omega (arith, old.many) in
        let here : k ≡ n = omega arith in
        ap (λ m. get_or (all ++ y ∷ []) m []) (get_or_push numbers (length all) 0 k last) ∙ get_or_push all y [] (length all) refl ∙ sym (ap (λ m. get_or xs m []) here ∙ next))
        (cases_lt k n);
  }
