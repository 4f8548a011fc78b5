-- What a call on a sample tree tells where it fails.
use Rattle.std.proofs.Common.{◌≡◌, ℕ, List, [], ◌++◌, ◌∷◌, subst, refl, inr}
use Rattle.std.specs.Prelude.{Some, Err}
use Rattle.firefly_outside.specs.Trees.{Path, Directory, Bytes, Lists, Reads, Counts}
use Rattle.firefly_outside.specs.declared.tree.Entry.{Entry}
use Rattle.firefly_outside.specs.declared.tree.TreeError.{TreeError}
use Rattle.firefly_outside.specs.declared.tree.TreeError.TheVariants.{Memory, Failed}
use Rattle.index_sample.specs.Shown.{tree_of, calls_of, faults_of, Fails}
use Rattle.index_sample.specs.declared.sample_tree.SampleTree.{SampleTree}

-- the count of a call that fails
pub counts_fault : (T : Type 0) (m n : SampleTree) (p : Path) (e : TreeError) → Fails m n p e → Counts {T = T} (faults_of m) (faults_of n) (Err e)
counts_fault T m n p Memory f = (f.free refl).1
counts_fault T m n p Failed f = f.rose refl

-- what a list tells that fails
pub lists_fault : {V : Type 0} (items : V → List Entry) (m n : SampleTree) (dir p : Path) (e : TreeError) → Fails m n p e → p ≡ dir
    → ((es : List Entry) → tree_of m dir ≡ Some (Directory es) → ⊥) → Lists items [] dir (calls_of m) (calls_of n) (Err e) (tree_of m)
lists_fault items m n dir p Memory f same none = (f.free refl).0
lists_fault items m n dir p Failed f same none =
    record { noted = subst (λ (d : Path). calls_of n ≡ record (calls_of m) { failed = (calls_of m).failed ++ d ∷ [] }) same (f.noted refl); may = inr (λ h. none h.0 h.1) }

-- what a read tells that fails
pub reads_fault : (m n : SampleTree) (path p : Path) (e : TreeError) → Fails m n p e → p ≡ path
    → ((bs : List ℕ) → tree_of m path ≡ Some (Bytes bs) → ⊥) → Reads [] path (calls_of m) (calls_of n) (Err e) (tree_of m)
reads_fault m n path p Memory f same none = (f.free refl).0
reads_fault m n path p Failed f same none =
    record { noted = subst (λ (d : Path). calls_of n ≡ record (calls_of m) { failed = (calls_of m).failed ++ d ∷ [] }) same (f.noted refl); may = inr (λ h. none h.0 h.1) }
