-- Copies of a tree at their places.
use Rattle.std.proofs.Common.{◌≡◌, ◌∙◌, ◌<◌, ℕ, zero, suc, List, [], ◌∷◌, ◌++◌, refl, Option, Some, None, length, sym, ap}
use Rattle.std.specs.Prelude.{All, slice_index_or}
use Rattle.std.proofs.lemmas.List.Elements.{All-append, All-cons, All-head, All-nil, All-tail}
use Rattle.std.proofs.lemmas.Option.{same_Some}
use Rattle.firefly_outside.specs.Seen.{tree_of}
use Rattle.firefly_outside.specs.Trees.{Contents}
use Rattle.firefly_outside.specs.declared.mem_tree.MemTree.{MemTree}
use Rattle.test_index.specs.Copies.{HoldsTree}

-- a tree is at each place
pub tree_there : (t : Contents) (trees : List (Option MemTree)) → All (HoldsTree t) trees → (k : ℕ) → k < length trees → (s : MemTree) × (slice_index_or trees k None ≡ Some s)
tree_there t trees all k within = let h = all k None within in (h.tree, h.is)

-- and it is this one
pub tree_reported : (t : Contents) (trees : List (Option MemTree)) → All (HoldsTree t) trees → (k : ℕ) (s : MemTree) → slice_index_or trees k None ≡ Some s → Some (tree_of s) ≡ Some t
tree_reported t [] all k s e = absurd (cc)
tree_reported t (x ∷ xs) all zero s e =
    let h = All-head (HoldsTree t) x xs all in
    ap (λ (o : Contents). Some o) (ap tree_of (same_Some s h.tree (sym e ∙ h.is)) ∙ h.reported)
tree_reported t (x ∷ xs) all (suc k) s e = tree_reported t xs (All-tail (HoldsTree t) x xs all) k s e

-- one copy more
pub tree_more : (t : Contents) (trees : List (Option MemTree)) (s : MemTree) → All (HoldsTree t) trees → tree_of s ≡ t → All (HoldsTree t) (trees ++ Some s ∷ [])
tree_more t trees s all reported = All-append (HoldsTree t) trees (Some s ∷ []) all (All-cons (HoldsTree t) (Some s) [] (record { tree = s; is = refl; reported = reported }) (All-nil (HoldsTree t)))
