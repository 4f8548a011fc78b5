-- The trees at their places, before a call and after it.
use Rattle.std.proofs.Common.{◌≡◌, inl, inr, ℕ, zero, suc, ◌<◌, List, [], ◌∷◌, length, Option, Some, None, refl, sym, ap, subst, ◌∙◌, arith}
use Rattle.std.specs.Prelude.{slice_index_or}
use Rattle.std.proofs.lemmas.Option.{same_Some}
use Rattle.firefly_outside.specs.Trees.{Contents}
use Rattle.firefly.specs.Looks.{Look, look_at, looks_of, AllShow, AreOwn, IsSameTree, KeepTrees, Among, reported_by}

-- one of the trees, at its place
pub among_at : (xs ys : List (Option Look)) → KeepTrees xs ys → (k : ℕ) (a b : Look) → slice_index_or xs k None ≡ Some a → slice_index_or ys k None ≡ Some b → Among xs ys a b
among_at [] ys h k a b ea eb = absurd (cc)
among_at (None ∷ xs) [] h k a b ea eb = absurd h
among_at (None ∷ xs) (y ∷ ys) h k a b ea eb = absurd h
among_at (Some x ∷ xs) [] h k a b ea eb = absurd h
among_at (Some x ∷ xs) (None ∷ ys) h k a b ea eb = absurd h
among_at (Some x ∷ xs) (Some y ∷ ys) h zero a b ea eb = inl (sym (same_Some x a ea), sym (same_Some y b eb))
among_at (Some x ∷ xs) (Some y ∷ ys) h (suc k) a b ea eb = inr (among_at xs ys h.1 k a b ea eb)

pub place_of : (xs ys : List (Option Look)) (a b : Look) → Among xs ys a b → (k : ℕ) × (slice_index_or xs k None ≡ Some a) × (slice_index_or ys k None ≡ Some b)
place_of [] ys a b h = absurd h
place_of (None ∷ xs) ys a b h = absurd h
place_of (Some x ∷ xs) [] a b h = absurd h
place_of (Some x ∷ xs) (None ∷ ys) a b h = absurd h
place_of (Some x ∷ xs) (Some y ∷ ys) a b (inl h) = (zero, ap (λ l. Some l) (sym h.0), ap (λ l. Some l) (sym h.1))
place_of (Some x ∷ xs) (Some y ∷ ys) a b (inr h) = let r = place_of xs ys a b h in (suc r.0, r.1, r.2)

-- what the first tells, all tell
pub first_shows : (o : Option Contents) (xs : List (Option Look)) → AllShow o xs → 0 < length xs → reported_by xs ≡ o
first_shows o [] h low = absurd (omega arith)
first_shows o (None ∷ xs) h low = absurd h
first_shows o (Some x ∷ xs) h low = h.0

none_some : {A : Type 0} (a : A) → None ≡ Some a → ⊥
none_some a e = cc

module _ {S : Type 0} (look : S → Look) where
  pub look_there : (trees : List (Option S)) (k : ℕ) → slice_index_or (looks_of look trees) k None ≡ look_at look (slice_index_or trees k None)
  look_there [] k = refl
  look_there (t ∷ ts) zero = refl
  look_there (t ∷ ts) (suc k) = look_there ts k

  pub sees : (trees : List (Option S)) (k : ℕ) (s : S) → slice_index_or trees k None ≡ Some s → slice_index_or (looks_of look trees) k None ≡ Some (look s)
  sees trees k s e = look_there trees k ∙ ap (look_at look) e

  of_look : (t : Option S) (a : Look) → look_at look t ≡ Some a → (s : S) × (t ≡ Some s) × (look s ≡ a)
  of_look None a e = absurd (cc)
  of_look (Some s) a e = (s, refl, same_Some (look s) a e)

  -- whose look it is
  pub seen : (trees : List (Option S)) (k : ℕ) (a : Look) → slice_index_or (looks_of look trees) k None ≡ Some a → (s : S) × (slice_index_or trees k None ≡ Some s) × (look s ≡ a)
  seen trees k a e = of_look (slice_index_or trees k None) a (sym (look_there trees k) ∙ e)

  pub looks_many : (trees : List (Option S)) → length (looks_of look trees) ≡ length trees
  looks_many [] = refl
  looks_many (t ∷ ts) = let h = looks_many ts in omega arith

  pub all_show : (o : Option Contents) (trees : List (Option S)) → AllShow o (looks_of look trees) → (k : ℕ) (s : S) → slice_index_or trees k None ≡ Some s → (look s).reported ≡ o
  all_show o [] h k s e = absurd (cc)
  all_show o (None ∷ ts) h k s e = absurd h
  all_show o (Some t ∷ ts) h zero s e = ap (λ (x : S). (look x).reported) (sym (same_Some t s e)) ∙ h.0
  all_show o (Some t ∷ ts) h (suc k) s e = all_show o ts h.1 k s e

  pub there : (o : Option Contents) (trees : List (Option S)) → AllShow o (looks_of look trees) → (k : ℕ) → k < length trees → (s : S) × (slice_index_or trees k None ≡ Some s)
  there o [] h k low = absurd (omega arith)
  there o (None ∷ ts) h k low = absurd h
  there o (Some t ∷ ts) h zero low = (t, refl)
  there o (Some t ∷ ts) h (suc k) low = there o ts h.1 k (omega arith)

  -- the tree at each place came back
  abbrev pub Back : List (Option S) → List (Option S) → Type 0
  Back old new = (k : ℕ) (s : S) → slice_index_or old k None ≡ Some s → (r : S) × (slice_index_or new k None ≡ Some r) × IsSameTree (look s) (look r)

  kept_one : (x r : S) (t : Option S) (xs ts : List (Option S)) → t ≡ Some r → IsSameTree (look x) (look r) → KeepTrees (looks_of look xs) (looks_of look ts) → KeepTrees (looks_of look (Some x ∷ xs)) (looks_of look (t ∷ ts))
  kept_one x r None xs ts e same rest = absurd (cc)
  kept_one x r (Some z) xs ts e same rest = (subst (λ (v : S). IsSameTree (look x) (look v)) (sym (same_Some z r e)) same, rest)

  pub keeps : (o : Option Contents) (old new : List (Option S)) → AllShow o (looks_of look old) → length new ≡ length old → Back old new → KeepTrees (looks_of look old) (looks_of look new)
  keeps o [] [] shows many back = tt
  keeps o [] (y ∷ ys) shows many back = absurd (omega arith)
  keeps o (None ∷ xs) ys shows many back = absurd shows
  keeps o (Some x ∷ xs) [] shows many back = absurd (omega arith)
  keeps o (Some x ∷ xs) (y ∷ ys) shows many back =
      let h = back 0 x refl in
      kept_one x h.0 y xs ys h.1 h.2 (keeps o xs ys shows.1 (omega arith) (λ k s e. back (suc k) s e))

  -- what stands at each place came back there
  abbrev pub Owned : List (Option S) → List (Option S) → Type 0
  Owned old new = (k : ℕ) (r : S) → slice_index_or new k None ≡ Some r → (s : S) × (slice_index_or old k None ≡ Some s) × IsSameTree (look s) (look r)

  pub owns : (old new : List (Option S)) → length new ≡ length old → Owned old new → AreOwn (looks_of look old) (looks_of look new)
  owns [] [] many own = tt
  owns [] (y ∷ ys) many own = absurd (omega arith)
  owns (x ∷ xs) [] many own = absurd (omega arith)
  owns (None ∷ xs) (None ∷ ys) many own = owns xs ys (omega arith) (λ k r e. own (suc k) r e)
  owns (Some x ∷ xs) (None ∷ ys) many own = owns xs ys (omega arith) (λ k r e. own (suc k) r e)
  owns (None ∷ xs) (Some y ∷ ys) many own = let h = own 0 y refl in absurd (none_some h.0 h.1)
  owns (Some x ∷ xs) (Some y ∷ ys) many own =
      let h = own 0 y refl in
      (subst (λ (v : S). IsSameTree (look v) (look y)) (sym (same_Some x h.0 h.1)) h.2, owns xs ys (omega arith) (λ k r e. own (suc k) r e))
