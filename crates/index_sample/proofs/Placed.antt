-- Copies of a tree at their places.
use Rattle.std.proofs.Common.{◌≡◌, ◌∙◌, ◌<◌, ℕ, zero, suc, List, [], ◌∷◌, ◌++◌, refl, Option, Some, None, length, sym, ap}
use Rattle.std.specs.Prelude.{All, slice_index_or}
use Rattle.std.proofs.lemmas.List.Elements.{All-head, All-push, All-tail}
use Rattle.std.proofs.lemmas.Option.{same_Some}
use Rattle.firefly_outside.specs.Trees.{Contents}
use Rattle.index_sample.specs.Shown.{tree_of}
use Rattle.index_sample.specs.declared.sample_tree.SampleTree.{SampleTree}
use Rattle.index_sample.specs.Trees.{HoldsTree}

-- a tree is at each place
pub tree_there : (t : Contents) (trees : List (Option SampleTree)) → All (HoldsTree t) trees → (k : ℕ) → k < length trees → (s : SampleTree) × (slice_index_or trees k None ≡ Some s)
tree_there t trees all k within = let h = all k None within in (h.tree, h.is)

-- it is this one
pub tree_at : (t : Contents) (trees : List (Option SampleTree)) → All (HoldsTree t) trees → (k : ℕ) (s : SampleTree) → slice_index_or trees k None ≡ Some s → tree_of s ≡ t
tree_at t [] all k s e = absurd (cc)
tree_at t (x ∷ xs) all zero s e =
    let h = All-head (HoldsTree t) x xs all in
    let same : s ≡ h.tree = same_Some s h.tree (sym e ∙ h.is) in
    ap tree_of same ∙ h.reported
tree_at t (x ∷ xs) all (suc k) s e = tree_at t xs (All-tail (HoldsTree t) x xs all) k s e

-- one copy more
pub tree_more : (t : Contents) (trees : List (Option SampleTree)) (s : SampleTree) → All (HoldsTree t) trees → tree_of s ≡ t → All (HoldsTree t) (trees ++ Some s ∷ [])
tree_more t trees s all reported = All-push (HoldsTree t) trees (Some s) all (record { tree = s; is = refl; reported = reported })
