-- Names with what they are, as entries.
use Rattle.std.proofs.Common.{◌≡◌, ◌≢◌, ◌∙◌, List, [], ◌∷◌, map, ap, sym, refl, subst}
use Rattle.std.specs.Prelude.{AllPairs}
use Rattle.std.specs.Bool.{nat_eq}
use Rattle.std.specs.List.{IsDistinct}
use Rattle.std.specs.Map.{keys_of}
use Rattle.std.specs.Cmp.Lexicographic.{pointwise}
use Rattle.std.proofs.lemmas.Bool.Decides.{Decides-eqb}
use Rattle.std.proofs.lemmas.Slice.Eq.{slice_eq-Decides}
use Rattle.std.proofs.lemmas.Map.Made.{AllPairs-from_IsDistinct}
use Rattle.std.proofs.lemmas.List.{length-map}
use Rattle.std.proofs.Math.ListN.{get_or-map}
use Rattle.firefly_outside.specs.Trees.{Path}
use Rattle.firefly_outside.specs.declared.tree.Entry.{Entry}
use Rattle.firefly_outside.specs.declared.tree.Kind.{Kind}

abbrev pub entry_of : Path × Kind → Entry
entry_of p = record { name = p.0; kind = p.1 }

-- no two elements are the same under a function, where no two of their images are
pub AllPairs-unmap : {A B : Type 0} (f : A → B) (xs : List A) → AllPairs (λ x y. x ≢ y) (map f xs) → AllPairs (λ x y. f x ≢ f y) xs
AllPairs-unmap f xs apart i j d below within same =
    apart i j (f d) below (rw (length-map xs f) within) (get_or-map f xs i d ∙ same ∙ sym (get_or-map f xs j d))

-- entries of unique names have no two the same
pub distinct_entries : (es : List (Path × Kind)) → IsDistinct (pointwise nat_eq) (keys_of es) → AllPairs (λ e f. e.name ≢ f.name) (map entry_of es)
distinct_entries es unique =
    AllPairs-unmap (λ (e : Entry). e.name) (map entry_of es)
    (subst (AllPairs (λ x y. x ≢ y)) (names_are es) (AllPairs-from_IsDistinct (λ a b. slice_eq-Decides Decides-eqb a b (pointwise nat_eq a b) refl) (keys_of es) unique))
  where
    names_are : (xs : List (Path × Kind)) → keys_of xs ≡ map (λ (e : Entry). e.name) (map entry_of xs)
    names_are [] = refl
    names_are (x ∷ xs) = ap (λ l. x.0 ∷ l) (names_are xs)
