-- Chains and rings.
use Rattle.std.proofs.Common.{◌≡◌, ℕ, zero, suc, ◌+◌, ◌<◌, true, ◌⊎◌, inl, inr, List, [], ◌∷◌, ◌++◌, length, take, get_or, refl, sym, ap, subst, ◌∙◌, arith}
use Rattle.std.proofs.lemmas.List.{take_more}
use Rattle.larch_actions.specs.Sets.{mem}
use Rattle.larch_actions.proofs.Sets.{mem-here}
use Rattle.lock_order.specs.Order.{first_or, Chain, Ring}
use Rattle.lock_order.proofs.Members.{mem-either, mem-there}

pub first_or-append : {A : Type 0} (d : A) (xs ys : List A) → first_or d (xs ++ ys) ≡ first_or (first_or d ys) xs
first_or-append d [] ys = refl
first_or-append d (x ∷ xs) ys = refl

module _ (R : ℕ → ℕ → Type 0) where
  pub chain-append : (xs ys : List ℕ) (back : ℕ) → Chain R xs (first_or back ys) → Chain R ys back → Chain R (xs ++ ys) back
  chain-append [] ys back c d = d
  chain-append (x ∷ xs) ys back c d = (subst (R x) (sym (first_or-append back xs ys)) c.0, chain-append xs ys back c.1 d)

  -- a ring from its second on, and then its first
  pub ring-turned : (x : ℕ) (xs : List ℕ) → Ring R (x ∷ xs) → Ring R (xs ++ x ∷ [])
  ring-turned x [] r = r
  ring-turned x (y ∷ ys) r = chain-append (y ∷ ys) (x ∷ []) y r.1 (r.0, tt)

  -- before each of a chain but its first, and before what is after it, stands one of the chain
  chain-before : (x : ℕ) (xs : List ℕ) (back n : ℕ) → Chain R (x ∷ xs) back → (mem n xs ≡ true) ⊎ (n ≡ back) → (p : ℕ) × (mem p (x ∷ xs) ≡ true) × R p n
  chain-before x [] back n c (inl h) = absurd (let f : mem n [] ≡ true = h in cc)
  chain-before x [] back n c (inr e) = (x, mem-here x x [] refl, subst (R x) (sym e) c.0)
  chain-before x (y ∷ ys) back n c (inl h) =
      mem-either n y ys h
      (λ e. (x, mem-here x x (y ∷ ys) refl, subst (R x) e c.0))
      (λ m. let p = chain-before y ys back n c.1 (inl m) in (p.0, mem-there p.0 x (y ∷ ys) p.1, p.2))
  chain-before x (y ∷ ys) back n c (inr e) =
      let p = chain-before y ys back n c.1 (inr e) in (p.0, mem-there p.0 x (y ∷ ys) p.1, p.2)

  -- before each of a ring stands one of it
  pub ring-before : (xs : List ℕ) (n : ℕ) → Ring R xs → mem n xs ≡ true → (p : ℕ) × (mem p xs ≡ true) × R p n
  ring-before [] n r h = absurd (let f : mem n [] ≡ true = h in cc)
  ring-before (x ∷ xs) n r h = mem-either n x xs h (λ e. chain-before x xs x n r (inr (sym e))) (λ m. chain-before x xs x n r (inl m))

  chain-after : (xs : List ℕ) (back n : ℕ) → Chain R xs back → mem n xs ≡ true → (q : ℕ) × R n q
  chain-after [] back n c h = absurd (let f : mem n [] ≡ true = h in cc)
  chain-after (x ∷ xs) back n c h = mem-either n x xs h (λ e. (first_or back xs, subst (λ z. R z (first_or back xs)) e c.0)) (λ m. chain-after xs back n c.1 m)

  -- each of a ring stands before another
  pub ring-after : (xs : List ℕ) (n : ℕ) → Ring R xs → mem n xs ≡ true → (q : ℕ) × R n q
  ring-after [] n r h = absurd (let f : mem n [] ≡ true = h in cc)
  ring-after (x ∷ xs) n r h = chain-after (x ∷ xs) x n r h

  -- x stands before the first of the list, if there is one
  abbrev pub Leads : ℕ → List ℕ → Type 0
  Leads x [] = Unit {0}
  Leads x (y ∷ ys) = R x y

  -- each of the list stands before the next
  abbrev pub Path : List ℕ → Type 0
  Path [] = Unit {0}
  Path (x ∷ xs) = Leads x xs × Path xs

  -- a path as far as the place of m is a chain to m
  chain_to : (xs : List ℕ) (k m : ℕ) → k < length xs → get_or xs k 0 ≡ m → Path xs → Chain R (take k xs) m
  chain_to xs zero m low at p = tt
  chain_to [] (suc k) m low at p = absurd (omega arith)
  chain_to (x ∷ []) (suc k) m low at p = absurd (omega arith)
  chain_to (x ∷ y ∷ ys) (suc zero) m low at p = (subst (R x) at p.0, tt)
  chain_to (x ∷ y ∷ ys) (suc (suc k)) m low at p = (p.0, chain_to (y ∷ ys) (suc k) m (omega arith) at p.1)

  ring_from : (xs : List ℕ) (d : ℕ) → Chain R xs (first_or d xs) → Ring R xs
  ring_from [] d c = tt
  ring_from (x ∷ xs) d c = c

  -- where m is at a place of a path to whose first it leads, the path as far as that place is a ring
  pub ring_to : (xs : List ℕ) (k m : ℕ) → k < length xs → get_or xs k 0 ≡ m → Path (m ∷ xs) → Ring R (take (k + 1) xs)
  ring_to [] k m low at p = absurd (omega arith)
  ring_to (x ∷ xs) k m low at p =
      let more : take (k + 1) (x ∷ xs) ≡ take k (x ∷ xs) ++ m ∷ [] = take_more (x ∷ xs) k 0 low ∙ ap (λ z. take k (x ∷ xs) ++ z ∷ []) at in
      let head : first_or m (take k (x ∷ xs)) ≡ x = heads k x xs m at in
      let chain : Chain R (take k (x ∷ xs) ++ m ∷ []) x = chain-append (take k (x ∷ xs)) (m ∷ []) x (chain_to (x ∷ xs) k m low at p.1) (p.0, tt) in
      let whole : first_or 0 (take k (x ∷ xs) ++ m ∷ []) ≡ x = first_or-append 0 (take k (x ∷ xs)) (m ∷ []) ∙ head in
      subst (Ring R) (sym more) (ring_from (take k (x ∷ xs) ++ m ∷ []) 0 (subst (Chain R (take k (x ∷ xs) ++ m ∷ [])) (sym whole) chain))
    where
      heads : (k x : ℕ) (xs : List ℕ) (m : ℕ) → get_or (x ∷ xs) k 0 ≡ m → first_or m (take k (x ∷ xs)) ≡ x
      heads zero x xs m at = sym at
      heads (suc k) x xs m at = refl
