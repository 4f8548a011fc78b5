-- What comes in turn: each after the key of the one before it.
use Rattle.std.proofs.Common.{◌≡◌, ℕ, zero, suc, ◌-◌, ◌<◌, List, [], ◌∷◌, ◌++◌, length, map, get_or, arith, refl, ap, ◌∙◌, Option, Some, None, slice_get, All}
use Rattle.std.proofs.lemmas.List.Elements.{All-nil, All-cons}
use Rattle.word_index.specs.Index.{Hit, Row, IsBelow, IsRising}
use Rattle.word_index.proofs.Below.{below_trans}
use Rattle.index_text.specs.Texts.{IsAbove, AreInTurn}

abbrev pub hit_path : Hit → List ℕ
hit_path h = h.path

abbrev pub row_word : Row → List ℕ
row_word r = r.word

abbrev pub itself : List ℕ → List ℕ
itself p = p

module _ {X : Type 0} (key : X → List ℕ) where
  -- the key of the last one
  abbrev pub end_of : Option (List ℕ) → List X → Option (List ℕ)
  end_of last [] = last
  end_of last (x ∷ xs) = end_of (Some (key x)) xs

  end_from : (k : List ℕ) (xs : List X) → end_of (Some k) xs ≡ slice_get (k ∷ map key xs) (length xs)
  end_from k [] = refl
  end_from k (x ∷ xs) = end_from (key x) xs

  pub end_is : (xs : List X) → end_of None xs ≡ slice_get (map key xs) (length xs - 1)
  end_is [] = refl
  end_is (x ∷ xs) = let e : length xs ≡ length (x ∷ xs) - 1 = omega arith in end_from (key x) xs ∙ ap (slice_get (map key (x ∷ xs))) e

  pub end_append : (last : Option (List ℕ)) (xs ys : List X) → end_of last (xs ++ ys) ≡ end_of (end_of last xs) ys
  end_append last [] ys = refl
  end_append last (x ∷ xs) ys = end_append (Some (key x)) xs ys

  module _ (lawful : Option (List ℕ) → X → Type 0) where
    pub join : (last : Option (List ℕ)) (xs ys : List X) → AreInTurn lawful key last xs → AreInTurn lawful key (end_of last xs) ys → AreInTurn lawful key last (xs ++ ys)
    join last [] ys a b = b
    join last (x ∷ xs) ys a b = (a.0, join (Some (key x)) xs ys a.1 b)

    pub push : (last : Option (List ℕ)) (xs : List X) (x : X) → AreInTurn lawful key last xs → lawful (end_of last xs) x → AreInTurn lawful key last (xs ++ x ∷ [])
    push last xs x are is = join last xs (x ∷ []) are (is, tt)

    -- what holds of the key of each holds of the last one
    pub stays : (Holds : Option (List ℕ) → Type 0) → ((last : Option (List ℕ)) (x : X) → lawful last x → Holds (Some (key x))) → (last : Option (List ℕ)) (xs : List X) → Holds last → AreInTurn lawful key last xs → Holds (end_of last xs)
    stays Holds one last [] ok are = ok
    stays Holds one last (x ∷ xs) ok are = stays Holds one (Some (key x)) xs (one last x are.0) are.1

    pub each : (P : X → Type 0) → ((last : Option (List ℕ)) (x : X) → lawful last x → P x) → (last : Option (List ℕ)) (xs : List X) → AreInTurn lawful key last xs → All P xs
    each P one last [] are = All-nil P
    each P one last (x ∷ xs) are = All-cons P x xs (one last x are.0) (each P one (Some (key x)) xs are.1)

    module _ (above : (last : Option (List ℕ)) (x : X) → lawful last x → IsAbove last (key x)) where
      below_all : (k : List ℕ) (xs : List X) → AreInTurn lawful key (Some k) xs → (i : ℕ) (d : List ℕ) → i < length (map key xs) → IsBelow k (get_or (map key xs) i d)
      below_all k [] are i d h = absurd (omega (arith, h))
      below_all k (x ∷ xs) are zero d h = above (Some k) x are.0
      below_all k (x ∷ xs) are (suc i) d h = below_trans k (key x) (get_or (map key xs) i d) (above (Some k) x are.0) (below_all (key x) xs are.1 i d (omega (arith, h)))

      pub rises : (last : Option (List ℕ)) (xs : List X) → AreInTurn lawful key last xs → IsRising (map key xs)
      rises last [] are i j d before below = absurd (omega (arith, below))
      rises last (x ∷ xs) are zero zero d before below = absurd (omega (arith, before))
      rises last (x ∷ xs) are zero (suc j) d before below = below_all (key x) xs are.1 j d (omega (arith, below))
      rises last (x ∷ xs) are (suc i) zero d before below = absurd (omega (arith, before))
      rises last (x ∷ xs) are (suc i) (suc j) d before below = rises (Some (key x)) xs are.1 i j d (omega (arith, before)) (omega (arith, below))

map_itself : (ps : List (List ℕ)) → map itself ps ≡ ps
map_itself [] = refl
map_itself (p ∷ ps) = ap (λ l. p ∷ l) (map_itself ps)

pub last_of : (ps : List (List ℕ)) → end_of itself None ps ≡ slice_get ps (length ps - 1)
last_of ps = end_is itself ps ∙ ap (λ l. slice_get l (length ps - 1)) (map_itself ps)
