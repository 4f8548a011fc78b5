-- Each directory listed once, and each file read once, by the workers and the closing walk together.
use Rattle.std.proofs.Common.{◌≡◌, ◌⊎◌, ℕ, ◌<◌, ◌≤◌, List, [], ◌∷◌, ◌++◌, length, take, zero, suc, inl, inr, sym, ap, subst, ◌∙◌, refl, arith, Contains, append-nil, Option, Some, None}
use Rattle.std.specs.Prelude.{◌↔◌, slice_index_or}
use Rattle.std.proofs.lemmas.List.Concat.{flat_map-append}
use Rattle.std.proofs.lemmas.List.Elements.{Contains-append_cases, Contains-append_left, Contains-append_right}
use mathlib.Core.Option.{some, some-injective, some-ne-none}
use lib.ListN.{get_elem?}
use Rattle.firefly_outside.specs.Trees.{Path, Calls}
use Rattle.index_rule.specs.Counting.{distinct_append}
use Rattle.index_rule.specs.Distinct.{AreDistinct}
use Rattle.indexer.specs.Once.{joined, AreSince}

-- the list of the last one after the others
joined-last : (parts : List (List Path)) (rest : List Path) → joined (parts ++ rest ∷ []) ≡ joined parts ++ rest
joined-last parts rest = flat_map-append (λ (ps : List Path). ps) parts (rest ∷ []) ∙ ap (λ l. joined parts ++ l) (append-nil rest)

module _ (Mine Under : Path → Type 0) (parts : List (List Path)) (rest : List Path)
    (parts_once : AreDistinct (joined parts)) (parts_all : (p : Path) → Mine p ↔ Contains (joined parts) p)
    (rest_once : AreDistinct rest) (rest_new : (p : Path) → Contains rest p → ¬ Mine p) (rest_all : (p : Path) → Under p ↔ (Mine p ⊎ Contains rest p)) where
  pub all_once : AreDistinct (joined (parts ++ rest ∷ []))
  all_once = subst AreDistinct (sym (joined-last parts rest)) (distinct_append (joined parts) rest parts_once rest_once (λ p first last. rest_new p last ((parts_all p).1 first)))

  pub all_listed : (p : Path) → Under p ↔ Contains (joined (parts ++ rest ∷ [])) p
  all_listed p = (
    (λ h. subst (λ (l : List Path). Contains l p) (sym (joined-last parts rest)) (elim ((rest_all p).0 h) [
      | inl mine ↦ Contains-append_left (joined parts) rest p ((parts_all p).0 mine)
      | inr last ↦ Contains-append_right (joined parts) rest p last
    ])),
    (λ h. (rest_all p).1 (elim (Contains-append_cases (joined parts) rest p (subst (λ (l : List Path). Contains l p) (joined-last parts rest) h)) [
      | inl first ↦ inl ((parts_all p).1 first)
      | inr last ↦ inr last
    ])),
  )

-- an element after others, by its place
at_last : {X : Type 0} (xs : List X) (x y : X) (k : ℕ) → get_elem? (xs ++ x ∷ []) k ≡ some y → (get_elem? xs k ≡ some y) ⊎ ((k ≡ length xs) × (x ≡ y))
at_last [] x y zero e = inr (refl, some-injective x y e)
at_last [] x y (suc k) e = absurd (some-ne-none y (sym e))
at_last (z ∷ xs) x y zero e = inl e
at_last (z ∷ xs) x y (suc k) e = elim (at_last xs x y k e) [ inl a ↦ inl a | inr b ↦ inr (ap suc b.0, b.1) ]

at_within : {X : Type 0} (xs : List X) (k : ℕ) (x : X) → get_elem? xs k ≡ some x → k < length xs
at_within [] k x e = absurd (some-ne-none x (sym e))
at_within (y ∷ xs) zero x e = omega arith
at_within (y ∷ xs) (suc k) x e = let h = at_within xs k x e in omega arith

-- those of the workers' trees, and that of the closing walk's
pub since_all : {S : Type 0} (calls : S → Calls) (of : Calls → List Path) (n : ℕ) (old new : List (Option S)) (parts : List (List Path)) (rest : List Path) → length parts ≡ n
    → ((k : ℕ) (s r : S) (paths : List Path) → k < n → slice_index_or old k None ≡ Some s → slice_index_or new k None ≡ Some r → get_elem? parts k ≡ some paths → of (calls r) ≡ of (calls s) ++ paths)
    → ((s r : S) → slice_index_or old n None ≡ Some s → slice_index_or new n None ≡ Some r → of (calls r) ≡ of (calls s) ++ rest) → AreSince calls of n old new (parts ++ rest ∷ [])
since_all {S} calls of n old new parts rest many each last = record {
  many = long parts many;
  since = λ k s r paths was is at. elim (at_last parts rest paths k at) [
    | inl first ↦ each k s r paths (let low = at_within parts k paths first in omega arith) was is first
    | inr here ↦ (let k_is : k ≡ n = here.0 ∙ many in
        subst (λ (l : List Path). of (calls r) ≡ of (calls s) ++ l) here.1
        (last s r (subst (λ (j : ℕ). slice_index_or old j None ≡ Some s) k_is was) (subst (λ (j : ℕ). slice_index_or new j None ≡ Some r) k_is is)))
  ];
}
  where
    long : (xs : List (List Path)) → length xs ≡ n → length (xs ++ rest ∷ []) ≡ suc n
    long xs e = length_last xs ∙ ap suc e
      where
        length_last : (ys : List (List Path)) → length (ys ++ rest ∷ []) ≡ suc (length ys)
        length_last [] = refl
        length_last (y ∷ ys) = ap suc (length_last ys)

-- lists after the first n, none of which has anything, are none
pub joined-take : (n : ℕ) (lists : List (List Path)) → ((k : ℕ) (ps : List Path) → n ≤ k → get_elem? lists k ≡ some ps → ps ≡ []) → joined (take n lists) ≡ joined lists
joined-take zero lists none = sym (all_none lists (λ k ps at. none k ps (omega arith) at))
  where
    all_none : (ls : List (List Path)) → ((k : ℕ) (ps : List Path) → get_elem? ls k ≡ some ps → ps ≡ []) → joined ls ≡ []
    all_none [] h = refl
    all_none (l ∷ ls) h = ap (λ q. q ++ joined ls) (h 0 l refl) ∙ all_none ls (λ k ps at. h (suc k) ps at)
joined-take (suc n) [] none = refl
joined-take (suc n) (l ∷ lists) none = ap (λ q. l ++ q) (joined-take n lists (λ k ps low at. none (suc k) ps (omega arith) at))

pub at_take : {X : Type 0} (n k : ℕ) (xs : List X) (x : X) → get_elem? (take n xs) k ≡ some x → get_elem? xs k ≡ some x
at_take zero k xs x e = absurd (some-ne-none x (sym e))
at_take (suc n) k [] x e = absurd (some-ne-none x (sym e))
at_take (suc n) zero (y ∷ xs) x e = e
at_take (suc n) (suc k) (y ∷ xs) x e = at_take n k xs x e

-- where there is one for each place, there is a list of them
pub record AreChosen {X : Type 0} (P : ℕ → X → Type 0) (n : ℕ) : Type 0 where
  pub list : List X
  pub many : length list ≡ n
  pub each : (k : ℕ) (x : X) → get_elem? list k ≡ some x → P k x

pub chosen : {X : Type 0} (P : ℕ → X → Type 0) (n : ℕ) → ((k : ℕ) → k < n → (x : X) × P k x) → AreChosen P n
chosen P zero choose = record { list = []; many = refl; each = λ k x at. absurd (some-ne-none x (sym at)) }
chosen {X} P (suc n) choose =
    let first = choose 0 (omega arith) in
    let rest = chosen (λ k x. P (suc k) x) n (λ k low. choose (suc k) (omega arith)) in
    record {
      list = first.0 ∷ rest.list;
      many = ap suc rest.many;
      each = at_each first.0 first.1 rest.list rest.each;
    }
  where
    at_each : (x : X) → P 0 x → (xs : List X) → ((k : ℕ) (y : X) → get_elem? xs k ≡ some y → P (suc k) y) → (k : ℕ) (y : X) → get_elem? (x ∷ xs) k ≡ some y → P k y
    at_each x p xs each zero y at = subst (P 0) (some-injective x y at) p
    at_each x p xs each (suc k) y at = each k y at
