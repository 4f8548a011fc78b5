-- What a call on a tree in memory tells where it fails.
use Rattle.std.proofs.Common.{◌≡◌, ◌⊎◌, ◌∙◌, ℕ, Bool, true, false, List, subst, sym, refl}
use Rattle.std.specs.Prelude.{Some, Err, Contains}
use Rattle.firefly_outside.specs.Trees.{Path, Directory, Bytes, Lists, Reads, Counts, IsFault}
use Rattle.firefly_outside.specs.Seen.{tree_of, weak_of, calls_of, faults_of, Fails}
use Rattle.firefly_outside.specs.declared.mem_tree.MemTree.{MemTree}
use Rattle.firefly_outside.specs.declared.tree.Entry.{Entry}
use Rattle.firefly_outside.specs.declared.tree.TreeError.{TreeError}
use Rattle.firefly_outside.specs.declared.tree.TreeError.TheVariants.{Memory, Failed}

-- the count of a call that fails
pub counts_fault : (T : Type 0) (m n : MemTree) (p : Path) (e : TreeError) → Fails m n p e → Counts {T = T} (faults_of m) (faults_of n) (Err e)
counts_fault T m n p Memory f = (f.free refl).faults
counts_fault T m n p Failed f = f.rose refl

-- what a list tells that fails
pub lists_fault : {V : Type 0} (items : V → List Entry) (m n : MemTree) (dir p : Path) (e : TreeError) → Fails m n p e → p ≡ dir
    → Contains (weak_of m) p ⊎ ¬ ((es : List Entry) × (tree_of m p ≡ Some (Directory es))) → Lists items (weak_of m) dir (calls_of m) (calls_of n) (Err e) (tree_of m)
lists_fault items m n dir p Memory f same may = (f.free refl).calls
lists_fault items m n dir p Failed f same may =
    subst (λ d. IsFault (weak_of m) d ((es : List Entry) × (tree_of m d ≡ Some (Directory es))) (calls_of m) (calls_of n)) same (record { noted = f.noted refl; may = may })

-- what a read tells that fails
pub reads_fault : (m n : MemTree) (path p : Path) (e : TreeError) → Fails m n p e → p ≡ path
    → Contains (weak_of m) p ⊎ ¬ ((bs : List ℕ) × (tree_of m p ≡ Some (Bytes bs))) → Reads (weak_of m) path (calls_of m) (calls_of n) (Err e) (tree_of m)
reads_fault m n path p Memory f same may = (f.free refl).calls
reads_fault m n path p Failed f same may =
    subst (λ d. IsFault (weak_of m) d ((bs : List ℕ) × (tree_of m d ≡ Some (Bytes bs))) (calls_of m) (calls_of n)) same (record { noted = f.noted refl; may = may })

-- a path that isn't weak
pub not_weak : (weak : List Path) (path p : Path) (b : Bool) → b ≡ false → p ≡ path → (Contains weak p → b ≡ true) → ¬ Contains weak path
not_weak weak path p b off same tells = λ k. let bad : true ≡ false = sym (tells (subst (λ d. Contains weak d) (sym same) k)) ∙ off in cc
