-- Trees of which nothing was asked, beside those of which something was.
use Rattle.std.proofs.Common.{◌≡◌, ◌⊎◌, ⊎_elim, ℕ, zero, suc, ◌+◌, ◌<◌, ◌≤◌, List, [], ◌∷◌, ◌++◌, length, Option, Some, None, refl, sym, ap, subst, ◌∙◌, inl, inr, arith, length-append, append-nil}
use Rattle.std.specs.Prelude.{◌≢◌, ◌↔◌, AllPairs, Contains, slice_index_or}
use Rattle.std.proofs.lemmas.Option.{same_Some}
use mathlib.Core.Option.{some, some-injective, some-ne-none}
use lib.ListN.{get_elem?}
use Rattle.firefly_outside.specs.Trees.{Path, Contents, Calls}
use Rattle.firefly_outside.specs.Under.{IsUnder}
use Rattle.firefly_outside.specs.declared.tree.Kind.TheVariants.{File, Dir}
use Rattle.indexer.specs.Once.{AreSince, IsEachOnce, joined}

-- a list of nothing for each of so many trees
abbrev empties : ℕ → List (List Path)
empties zero = []
empties (suc m) = [] ∷ empties m

empties_many : (m : ℕ) → length (empties m) ≡ m
empties_many zero = refl
empties_many (suc m) = let h = empties_many m in omega arith

empty_at : (m k : ℕ) (paths : List Path) → get_elem? (empties m) k ≡ some paths → paths ≡ []
empty_at zero k paths e = absurd (some-ne-none paths (sym e))
empty_at (suc m) zero paths e = sym (some-injective [] paths e)
empty_at (suc m) (suc k) paths e = empty_at m k paths e

at_more : (lists : List (List Path)) (m k : ℕ) (paths : List Path) → get_elem? (lists ++ empties m) k ≡ some paths → (get_elem? lists k ≡ some paths) ⊎ ((length lists ≤ k) × (paths ≡ []))
at_more [] m k paths e = inr (omega arith, empty_at m k paths e)
at_more (x ∷ lists) m zero paths e = inl e
at_more (x ∷ lists) m (suc k) paths e = ⊎_elim
    (λ (h : get_elem? lists k ≡ some paths). inl h)
    (λ (h : (length lists ≤ k) × (paths ≡ [])). let low = h.0 in inr (omega arith, h.1))
    (at_more lists m k paths e)

nothing_joined : (m : ℕ) → joined (empties m) ≡ []
nothing_joined zero = refl
nothing_joined (suc m) = nothing_joined m

same_joined : (lists : List (List Path)) (m : ℕ) → joined (lists ++ empties m) ≡ joined lists
same_joined [] m = nothing_joined m
same_joined (x ∷ lists) m = ap (λ l. x ++ l) (same_joined lists m)

module _ {S : Type 0} (calls : S → Calls) (n m : ℕ) (old new : List (Option S)) (spared : (k : ℕ) → n < k → slice_index_or new k None ≡ slice_index_or old k None) where
  more_since : (of : Calls → List Path) (lists : List (List Path)) → AreSince calls of n old new lists → AreSince calls of (n + m) old new (lists ++ empties m)
  more_since of lists h = record {
    many = (let many = h.many in let more = empties_many m in length-append lists (empties m) ∙ omega arith);
    since = λ k s r paths before now at. ⊎_elim
        (λ (e : get_elem? lists k ≡ some paths). h.since k s r paths before now e)
        (λ (e : (length lists ≤ k) × (paths ≡ [])).
        let low = e.0 in
        let many = h.many in
        let same : s ≡ r = same_Some s r (sym before ∙ (sym (spared k (omega arith)) ∙ now)) in
        ap (λ (t : S). of (calls t)) (sym same) ∙ (sym (append-nil (of (calls s))) ∙ ap (λ l. of (calls s) ++ l) (sym e.1)))
        (at_more lists m k paths at);
  }

  -- what the first trees were asked, all were
  pub all_once : (t : Contents) (root : Path) → IsEachOnce calls t root n old new → IsEachOnce calls t root (n + m) old new
  all_once t root h = record {
    listed = h.listed ++ empties m;
    listed_since = more_since (λ c. c.listed) h.listed h.listed_since;
    listed_once = subst (AllPairs (λ p q. p ≢ q)) (sym (same_joined h.listed m)) h.listed_once;
    listed_all = λ p. subst (λ (l : List Path). IsUnder t root Dir p ↔ Contains l p) (sym (same_joined h.listed m)) (h.listed_all p);
    read = h.read ++ empties m;
    read_since = more_since (λ c. c.files_read) h.read h.read_since;
    read_once = subst (AllPairs (λ p q. p ≢ q)) (sym (same_joined h.read m)) h.read_once;
    read_all = λ p. subst (λ (l : List Path). IsUnder t root File p ↔ Contains l p) (sym (same_joined h.read m)) (h.read_all p);
  }
