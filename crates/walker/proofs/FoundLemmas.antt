-- What a walk has found, seen as lists of paths.
use Rattle.std.proofs.Common.{◌≡◌, ◌∙◌, ℕ, ◌<◌, get_or, Bool, true, false, List, [], ◌∷◌, ◌++◌, length, drop, map, sym, ap, subst, refl, arith, suc, inl, inr, Contains}
use Rattle.std.specs.Prelude.{None, Some, slice_get}
use Rattle.std.specs.Option.{option_map}
use Rattle.std.proofs.lemmas.Option.{slice_get-get_or, slice_get-map}
use Rattle.std.specs.String.{string_bytes, string_eq}
use Rattle.std.specs.declared.string.String.{String}
use Rattle.std.specs.Str.{bytes_eq}
use Rattle.std.specs.List.{AllByRecursion, IsDistinct}
use Rattle.std.specs.Map.{lookup, set_value, keys_of}
use Rattle.std.proofs.lemmas.Bool.{cases_Bool}
use Rattle.std.proofs.lemmas.Slice.Eq.{bytes_eq-Decides}
use Rattle.std.proofs.Math.Bool.{or-true, or-false}
use Rattle.std.proofs.Math.Seq.{drop-append_seam, get_or-append_seam}
use Rattle.std.proofs.lemmas.List.{get_or_append_left, append_assoc, length-append}
use Rattle.std.proofs.lemmas.List.Elements.{Contains-append_cases, Contains-append_right}
use Rattle.firefly_outside.specs.Trees.{Path, child, slash}
use Rattle.walker.specs.Found.{AreBelow, AreNew, IsBelow, name_in, names_in}
use Rattle.walker.specs.Walk.{pairs_of, marked}

-- an element at the front, and one after it
pub Contains-head : {X : Type 0} (x : X) (xs : List X) → Contains (x ∷ xs) x
Contains-head x xs = (0, omega arith, refl)

pub Contains-tail : {X : Type 0} (y : X) (xs : List X) (x : X) → Contains xs x → Contains (y ∷ xs) x
Contains-tail y xs x h = (suc h.0, omega (arith, h.1), h.2)

-- a key that isn't there isn't found
pub absent-lookup : {A : Type 0} (es : List (String A × Bool)) (k : String A) → ¬ Contains (map (λ d. d.0) (pairs_of es)) (string_bytes k) → lookup (string_eq k) es ≡ None
absent-lookup [] k none = refl
absent-lookup (e ∷ es) k none = elim (cases_Bool (string_eq k e.0)) [
  | inl t ↦ absurd (none (subst (λ p. Contains (string_bytes e.0 ∷ map (λ d. d.0) (pairs_of es)) p) (sym ((bytes_eq-Decides (string_bytes k) (string_bytes e.0)).0 t)) (Contains-head _ _)))
  | inr f ↦ rw f (absent-lookup es k (λ h. none (Contains-tail _ _ _ h)))
]

pub pairs-push : {A : Type 0} (es : List (String A × Bool)) (k : String A) (b : Bool) → pairs_of (es ++ (k, b) ∷ []) ≡ pairs_of es ++ (string_bytes k, b) ∷ []
pairs-push [] k b = refl
pairs-push (e ∷ es) k b = ap (λ l. (string_bytes e.0, e.1) ∷ l) (pairs-push es k b)

-- a directory that isn't found, marked
pub marked-absent : {A : Type 0} (es : List (String A × Bool)) (dir : Path) → lookup (λ k. bytes_eq dir (string_bytes k)) es ≡ None → marked dir (pairs_of es) ≡ pairs_of es
marked-absent [] dir none = refl
marked-absent (e ∷ es) dir none = elim (cases_Bool (bytes_eq dir (string_bytes e.0))) [
  | inl t ↦ (let bad = rw t at none in cc)
  | inr f ↦ (let rest = rw f at none in rw (f, or-false) (ap (λ l. (string_bytes e.0, e.1) ∷ l) (marked-absent es dir rest)))
]

-- directories of which none is the one to be marked
marked-others : {A : Type 0} (es : List (String A × Bool)) (dir : Path) → AllByRecursion (λ k. bytes_eq dir (string_bytes k) ≡ false) (keys_of es) → marked dir (pairs_of es) ≡ pairs_of es
marked-others [] dir none = refl
marked-others (e ∷ es) dir none = rw (none.0, or-false) (ap (λ l. (string_bytes e.0, e.1) ∷ l) (marked-others es dir none.1))

-- a directory that is found, marked
pub marked-present : {A : Type 0} (es : List (String A × Bool)) (dir : Path) → IsDistinct string_eq (keys_of es) → pairs_of (set_value (λ k. bytes_eq dir (string_bytes k)) es true) ≡ marked dir (pairs_of es)
unfolding IsDistinct
marked-present [] dir unique = refl
marked-present (e ∷ es) dir unique = elim (cases_Bool (bytes_eq dir (string_bytes e.0))) [
  | inl t ↦ (
      let others : marked dir (pairs_of es) ≡ pairs_of es = marked-others es dir (subst (λ d. AllByRecursion (λ k. bytes_eq d (string_bytes k) ≡ false) (keys_of es)) (sym ((bytes_eq-Decides dir (string_bytes e.0)).0 t)) unique.0) in
      rw (t, or-true) (ap (λ l. (string_bytes e.0, true) ∷ l) (sym others)))
  | inr f ↦ rw (f, or-false) (ap (λ l. (string_bytes e.0, e.1) ∷ l) (marked-present es dir unique.1))
]

-- what isn't among the old ones or before it
pub not_yet : (old prefix : List Path) (p : Path) (rest : List Path) → AreNew old (prefix ++ p ∷ rest) → ¬ Contains (old ++ prefix) p
not_yet old prefix p rest new among = elim (Contains-append_cases old prefix p among) [
  | inl was ↦ new.fresh p (Contains-append_right prefix (p ∷ rest) p (Contains-head p rest)) was
  | inr before ↦ new.distinct before.0 (length prefix) p before.1 (omega (arith, length-append prefix (p ∷ rest)))
      (get_or_append_left prefix (p ∷ rest) p before.0 before.1 ∙ before.2 ∙ sym (get_or-append_seam prefix p rest p))
]

-- the paths of directories with unlisted ones after them
pub names-append : (pairs : List (Path × Bool)) (prefix : List Path) → map (λ d. d.0) (pairs ++ map (λ p. (p, false)) prefix) ≡ map (λ d. d.0) pairs ++ prefix
names-append [] [] = refl
names-append [] (p ∷ prefix) = ap (λ l. p ∷ l) (names-append [] prefix)
names-append (d ∷ pairs) prefix = ap (λ l. d.0 ∷ l) (names-append pairs prefix)

-- the step of a loop that adds what is left
pub more_left : {X : Type 0} (prefix : List X) (x : X) (rest all left : List X) → left ≡ x ∷ rest → prefix ++ left ≡ all → (prefix ++ x ∷ []) ++ rest ≡ all
more_left prefix x rest all left is whole = append_assoc prefix (x ∷ []) rest ∙ ap (λ l. prefix ++ l) (sym is) ∙ whole

-- a path below the root is its name below it
pub name_of_child : (root name : Path) → name_in root (child root name) ≡ name
name_of_child root name = ap (drop (length (root ++ slash ∷ []))) (sym (append_assoc root (slash ∷ []) name)) ∙ drop-append_seam (root ++ slash ∷ []) name

pub whole_name : (root path : Path) → IsBelow root path → child root (name_in root path) ≡ path
whole_name root path below = ap (child root) (ap (name_in root) below.1 ∙ name_of_child root below.0) ∙ sym below.1

pub whole_names : (root : Path) (paths : List Path) → AreBelow root paths → map (child root) (names_in root paths) ≡ paths
whole_names root [] below = refl
whole_names root (p ∷ paths) below =
    let here : child root (name_in root p) ≡ p = whole_name root p (below p (Contains-head p paths)) in
    let more : map (child root) (names_in root paths) ≡ paths = whole_names root paths (λ q h. below q (Contains-tail p paths q h)) in
    λ i. here i ∷ more i

pub below_both : (root : Path) (was more : List Path) → AreBelow root was → AreBelow root more → AreBelow root (was ++ more)
below_both root was more a b p h = elim (Contains-append_cases was more p h) [ inl k ↦ a p k | inr k ↦ b p k ]

-- the name of the file at a place
pub name_found : (root : Path) (files : List Path) (at : ℕ) (file name : Path) → at < length files → get_or files at file ≡ file → child root name ≡ file
    → slice_get (names_in root files) at ≡ Some name
name_found root files at file name within here is =
    let there : slice_get files at ≡ Some file = slice_get-get_or files at file within ∙ ap (λ (p : Path). Some p) here in
    let short : name_in root file ≡ name = ap (name_in root) (sym is) ∙ name_of_child root name in
    slice_get-map (name_in root) files at ∙ ap (option_map (name_in root)) there ∙ ap (λ (p : Path). Some p) short
