-- Trees before a call and after it.
use Rattle.std.proofs.Common.{◌≡◌, List, [], ◌∷◌, ◌++◌, refl, arith, Option, Some, None}
use Rattle.firefly_outside.specs.Trees.{Contents}
use Rattle.firefly.specs.Looks.{Look, looks_of, AllShow, Agree, AreOwn, KeepTrees, NoneFailed}

kept : (reported : Option Contents) (ts : List (Option Look)) → AllShow reported ts → KeepTrees ts ts
kept reported [] h = tt
kept reported (None ∷ ts) h = absurd h
kept reported (Some l ∷ ts) h = (record { reported = refl; weak = refl; count = omega arith }, kept reported ts h.1)

-- what stays is kept
pub kept-same : (ts : List (Option Look)) → Agree ts → KeepTrees ts ts
kept-same ts h = kept h.0 ts h.1

-- each place that is kept holds its own tree
pub kept_own : (xs ys : List (Option Look)) → KeepTrees xs ys → AreOwn xs ys
kept_own [] [] h = tt
kept_own [] (y ∷ ys) h = absurd h
kept_own (None ∷ xs) [] h = absurd h
kept_own (None ∷ xs) (y ∷ ys) h = absurd h
kept_own (Some a ∷ xs) [] h = absurd h
kept_own (Some a ∷ xs) (None ∷ ys) h = absurd h
kept_own (Some a ∷ xs) (Some b ∷ ys) h = (h.0, kept_own xs ys h.1)

pub own-same : (ts : List (Option Look)) → Agree ts → AreOwn ts ts
own-same ts h = kept_own ts ts (kept-same ts h)

module _ {S : Type 0} (look : S → Look) (reported : Option Contents) (x : S) (is : (look x).reported ≡ reported) where
  -- one more tree that tells the same
  pub shows-more : (trees : List (Option S)) → AllShow reported (looks_of look trees) → AllShow reported (looks_of look (trees ++ Some x ∷ []))
  shows-more [] h = (is, tt)
  shows-more (None ∷ ts) h = absurd h
  shows-more (Some y ∷ ts) h = (h.0, shows-more ts h.1)

-- one more tree that hasn't failed
pub fresh-more : {S : Type 0} (look : S → Look) (x : S) → (look x).faults ≡ 0 → (trees : List (Option S)) → NoneFailed (looks_of look trees) → NoneFailed (looks_of look (trees ++ Some x ∷ []))
fresh-more look x is [] h = (is, tt)
fresh-more look x is (None ∷ ts) h = fresh-more look x is ts h
fresh-more look x is (Some y ∷ ts) h = (h.0, fresh-more look x is ts h.1)
