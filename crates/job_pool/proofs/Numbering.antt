-- Batches under their places.
use Rattle.std.proofs.Common.{◌≡◌, ℕ, zero, suc, ◌+◌, ◌<◌, List, [], ◌∷◌, ◌++◌, length, get_or, reverse, Option as Opt, Some, None, refl, sym, ◌∙◌, ap, subst, ⊎_elim, arith}
use Rattle.std.specs.List.{Contains, AllZip, AllByRecursion}
use Rattle.std.specs.Prelude.{IsSome, map}
use Rattle.std.specs.List.Sorted.{IsPermutation}
use Rattle.std.proofs.lemmas.List.{reverse-append}
use Rattle.std.proofs.lemmas.List.Sorted.{Contains-permutation, IsPermutation-reverse, IsPermutation-sym, IsPermutation-trans}
use Rattle.job_pool.specs.declared.item.Item.{Item}
use Rattle.job_pool.specs.Batches.{Comes, IsPlaced, numbered}
use Rattle.job_pool.proofs.Members.{contains_cases, contains_head, contains_tail, contains_none}

module _ {T : Type 0} where
  abbrev item : ℕ → T → Item T
  item k x = record { place = k; batch = x }

  numbered_push : (n m : ℕ) (xs : List T) (x : T) → m ≡ n + length xs → numbered n (xs ++ x ∷ []) ≡ numbered n xs ++ item m x ∷ []
  numbered_push n m [] x is = ap (λ k. item k x ∷ []) (omega arith)
  numbered_push n m (a ∷ xs) x is = ap (λ l. item n a ∷ l) (numbered_push (n + 1) m xs x (omega arith))

  -- one more is put, the last first
  pub reverse_more : (m : ℕ) (xs : List T) (x : T) → m ≡ length xs → item m x ∷ reverse (numbered 0 xs) ≡ reverse (numbered 0 (xs ++ x ∷ []))
  reverse_more m xs x is = sym (ap reverse (numbered_push 0 m xs x (omega arith)) ∙ reverse-append (numbered 0 xs) (item m x ∷ []))

  numbered_has : (n m : ℕ) (xs : List T) (k : ℕ) (x : T) → m ≡ n + k → k < length xs → x ≡ get_or xs k x → Contains (numbered n xs) (item m x)
  numbered_has n m [] k x e low is = absurd (omega arith)
  numbered_has n m (a ∷ xs) zero x e low is =
      let same : item n a ≡ item m x = ap (λ y. item n y) (sym is) ∙ ap (λ j. item j x) (omega arith) in
      subst (λ i. Contains (numbered n (a ∷ xs)) i) same (contains_head (item n a) (numbered (n + 1) xs))
  numbered_has n m (a ∷ xs) (suc k) x e low is = contains_tail (item n a) (numbered (n + 1) xs) (item m x) (numbered_has (n + 1) m xs k x (omega arith) (omega arith) is)

  -- it is the batch at its place
  pub record IsOf (n : ℕ) (xs : List T) (i : Item T) : Type 0 where
    pub at : ℕ
    pub is_at : i.place ≡ n + at
    pub below : at < length xs
    pub is : i.batch ≡ get_or xs at i.batch

  numbered_only : (n : ℕ) (xs : List T) (i : Item T) → Contains (numbered n xs) i → IsOf n xs i
  numbered_only n [] i c = absurd (contains_none i c)
  numbered_only n (a ∷ xs) i c = ⊎_elim
      (λ (e : item n a ≡ i). record {
        at = 0;
        is_at = sym (ap (λ (q : Item T). q.place) e) ∙ omega arith;
        below = omega arith;
        is = sym (ap (λ (q : Item T). q.batch) e);
      })
      (λ (d : Contains (numbered (n + 1) xs) i).
      let r = numbered_only (n + 1) xs i d in
      let is_at = r.is_at in
      let below = r.below in
      record { at = suc r.at; is_at = omega arith; below = omega arith; is = r.is })
      (contains_cases (item n a) (numbered (n + 1) xs) i c)

  same_at : (xs : List T) (k : ℕ) (x y : T) → k < length xs → x ≡ get_or xs k x → y ≡ get_or xs k y → x ≡ y
  same_at [] k x y low a b = absurd (omega arith)
  same_at (z ∷ xs) zero x y low a b = a ∙ sym b
  same_at (z ∷ xs) (suc k) x y low a b = same_at xs k x y (omega arith) a b

zip_points : {A B : Type 0} (R : A → B → Type 0) (e : B) (xs : List A) (ys : List B) → length ys ≡ length xs
    → ((k : ℕ) (x : A) → k < length xs → x ≡ get_or xs k x → R x (get_or ys k e)) → AllZip R xs ys
zip_points R e [] [] long h = tt
zip_points R e [] (y ∷ ys) long h = absurd (omega arith)
zip_points R e (x ∷ xs) [] long h = absurd (omega arith)
zip_points R e (x ∷ xs) (y ∷ ys) long h = (h 0 x (omega arith) refl, zip_points R e xs ys (omega arith) (λ k a low is. h (suc k) a (omega arith) is))

module _ {T : Type 0} (goes : T → T → Type 0) where
  -- at the place of a batch is what came of it
  abbrev pub CameTo : T → Opt T → Type 0
  CameTo x o = (w : T) × (o ≡ Some w) × Comes goes x w

  came_to : (batches : List T) (taken : List (Item T)) (places : List (Opt T)) → IsPermutation (reverse (numbered 0 batches)) taken → IsPlaced goes taken places → length places ≡ length batches
      → (k : ℕ) (x : T) → k < length batches → x ≡ get_or batches k x → CameTo x (get_or places k None)
  came_to batches taken places perm placed wide k x low is =
      let all = IsPermutation-trans (numbered 0 batches) (reverse (numbered 0 batches)) taken (IsPermutation-reverse (numbered 0 batches)) perm in
      let there = Contains-permutation (numbered 0 batches) taken (item k x) all (numbered_has 0 k batches k x (omega arith) low is) in
      let w = placed.all (item k x) there (omega arith) in
      let i = placed.only k w.0 w.1 in
      let own = numbered_only 0 batches i.0 (Contains-permutation taken (numbered 0 batches) i.0 (IsPermutation-sym (numbered 0 batches) taken all) i.1) in
      let is_k = i.2 in
      let is_at = own.is_at in
      let here : own.at ≡ k = omega arith in
      let same : i.0.batch ≡ x = same_at batches k i.0.batch x low (subst (λ j. i.0.batch ≡ get_or batches j i.0.batch) here own.is) is in
      (w.0, w.1, subst (λ q. Comes goes q w.0) same i.3)

  -- each place is full
  pub came_back : (batches : List T) (taken : List (Item T)) (places : List (Opt T)) → IsPermutation (reverse (numbered 0 batches)) taken → IsPlaced goes taken places → length places ≡ length batches
      → AllZip CameTo batches places
  came_back batches taken places perm placed wide = zip_points CameTo None batches places wide (came_to batches taken places perm placed wide)

  some_true : (x : T) (o : Opt T) → CameTo x o → IsSome o
  some_true x (Some w) h = refl
  some_true x None h = let e = h.1 in absurd (cc)

  pub all_full : (batches : List T) (places : List (Opt T)) → AllZip CameTo batches places → AllByRecursion IsSome places
  all_full [] [] h = tt
  all_full [] (o ∷ places) h = absurd h
  all_full (x ∷ batches) [] h = absurd h
  all_full (x ∷ batches) (o ∷ places) h = (some_true x o h.0, all_full batches places h.1)

  pub came_out : (batches : List T) (places : List (Opt T)) (out : List T) → AllZip CameTo batches places → places ≡ map (λ x. Some x) out → AllZip (Comes goes) batches out
  came_out [] [] [] h is = tt
  came_out [] [] (y ∷ out) h is = absurd (cc)
  came_out [] (o ∷ places) out h is = absurd h
  came_out (x ∷ batches) [] out h is = absurd h
  came_out (x ∷ batches) (o ∷ places) [] h is = absurd (cc)
  came_out (x ∷ batches) (o ∷ places) (y ∷ out) h is =
      let w = h.0 in
      let e = w.1 in
      let first : o ≡ Some y = cc in
      let rest : places ≡ map (λ x. Some x) out = cc in
      let same : w.0 ≡ y = cc in
      (subst (λ q. Comes goes x q) same w.2, came_out batches places out h.1 rest)
