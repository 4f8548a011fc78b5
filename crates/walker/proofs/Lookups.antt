-- What looking up a path in the maps of a walk answers.
use Rattle.std.proofs.Common.{◌≡◌, ◌≢◌, ◌∙◌, ◌↔◌, Bool, true, false, not, IsTrue, ℕ, ◌<◌, ◌≤◌, length, arith, List, [], ◌∷◌, map, sym, ap, subst, refl, inl, inr, Contains}
use Rattle.std.specs.Prelude.{Some, None, slice_get}
use Rattle.std.specs.String.{string_bytes}
use Rattle.std.specs.declared.string.String.{String}
use Rattle.std.specs.Str.{bytes_eq}
use Rattle.std.specs.Map.{lookup}
use Rattle.std.proofs.lemmas.Bool.{cases_Bool}
use Rattle.std.proofs.lemmas.Slice.Eq.{bytes_eq-Decides}
use Rattle.std.proofs.lemmas.Option.{slice_get_within, get_or_from_slice_get, slice_get-get_or}
use Rattle.firefly_outside.specs.Trees.{Path}
use Rattle.walker.specs.Walk.{pairs_of}
use Rattle.walker.proofs.ListLemmas.{Distinct, Contains-head, Contains-tail, Contains-nil, Contains-cons_cases, Contains-map, All-at, AllPairs-head, AllPairs-tail}

-- a test is not both
pub never : {P : Type 0} → false ≡ true → P
never h = cc

-- what is found stands in the map
pub entry_from : {A : Type 0} (es : List (String A × Bool)) (dir : Path) (b : Bool) → lookup (λ k. bytes_eq dir (string_bytes k)) es ≡ Some b → Contains (pairs_of es) (dir, b)
entry_from [] dir b h = absurd (let bad : None ≡ Some b = h in cc)
entry_from (e ∷ es) dir b h = elim (cases_Bool (bytes_eq dir (string_bytes e.0))) [
  | inl t ↦ (
      let is : Some e.1 ≡ Some b = rw t at h in
      let same : e.1 ≡ b = cc in
      let name : string_bytes e.0 ≡ dir = sym ((bytes_eq-Decides dir (string_bytes e.0)).0 t) in
      subst (λ (p : Path). Contains (pairs_of (e ∷ es)) (p, b)) name (subst (λ (v : Bool). Contains (pairs_of (e ∷ es)) (string_bytes e.0, v)) same (Contains-head _ _)))
  | inr f ↦ (let rest = rw f at h in Contains-tail _ _ _ (entry_from es dir b rest))
]

-- what stands in a map without a path twice is found
pub entry_at : {A : Type 0} (es : List (String A × Bool)) (dir : Path) (b : Bool) → Distinct (map (λ d. d.0) (pairs_of es)) → Contains (pairs_of es) (dir, b) → lookup (λ k. bytes_eq dir (string_bytes k)) es ≡ Some b
entry_at [] dir b once h = absurd (Contains-nil _ h)
entry_at (e ∷ es) dir b once h = elim (Contains-cons_cases _ _ _ h) [
  | inl is ↦ (
      let same : bytes_eq dir (string_bytes e.0) ≡ true = (bytes_eq-Decides dir (string_bytes e.0)).1 (sym (ap (λ (d : Path × Bool). d.0) is)) in
      rw same (ap (λ (d : Path × Bool). Some d.1) is))
  | inr later ↦ elim (cases_Bool (bytes_eq dir (string_bytes e.0))) [
    | inl t ↦ absurd (All-at (λ q. string_bytes e.0 ≢ q) (map (λ d. d.0) (pairs_of es)) dir (AllPairs-head (λ p q. p ≢ q) _ _ once) (Contains-map (λ (d : Path × Bool). d.0) (pairs_of es) (dir, b) later) (sym ((bytes_eq-Decides dir (string_bytes e.0)).0 t)))
    | inr f ↦ rw f (entry_at es dir b (AllPairs-tail (λ p q. p ≢ q) _ _ once) later)
  ]
]

-- what the map says of a directory that is found, and of one that isn't
pub unlisted_some : {A : Type 0} (es : List (String A × Bool)) (dir : Path) (b : Bool) → Distinct (map (λ d. d.0) (pairs_of es)) → Some b ≡ lookup (λ k. bytes_eq dir (string_bytes k)) es → IsTrue (not b) ↔ Contains (pairs_of es) (dir, false)
unlisted_some es dir false once is = ((λ yes. entry_from es dir false (sym is)), (λ here. refl))
unlisted_some es dir true once is = ((λ no. absurd (cc)), (λ here. let at : lookup (λ k. bytes_eq dir (string_bytes k)) es ≡ Some false = entry_at es dir false once here in let bad : Some true ≡ Some false = is ∙ at in absurd (cc)))

pub unlisted_none : {A : Type 0} (es : List (String A × Bool)) (dir : Path) → Distinct (map (λ d. d.0) (pairs_of es)) → None ≡ lookup (λ k. bytes_eq dir (string_bytes k)) es → IsTrue false ↔ Contains (pairs_of es) (dir, false)
unlisted_none es dir once is = ((λ no. absurd (cc)), (λ here. let at : lookup (λ k. bytes_eq dir (string_bytes k)) es ≡ Some false = entry_at es dir false once here in let bad : None ≡ Some false = is ∙ at in absurd (cc)))

-- a path at a place is among the others, and one that is at none isn't
pub found_at : (files : List Path) (at : ℕ) (file name : Path) → slice_get files at ≡ Some file → bytes_eq file name ≡ true → Contains files name
found_at files at file name here same =
    let is : file ≡ name = (bytes_eq-Decides file name).0 same in
    subst (Contains files) is (at, slice_get_within files at file here, get_or_from_slice_get files at file file here)

pub none_below : (files : List Path) (at : ℕ) (name : Path) → length files ≤ at → ((k : ℕ) → k < at → slice_get files k ≡ Some name → ⊥) → Contains files name → ⊥
none_below files at name all none h = none h.0 (let within = h.1 in omega arith) (slice_get-get_or files h.0 name h.1 ∙ ap (λ (x : Path). Some x) h.2)
