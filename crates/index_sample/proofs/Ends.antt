-- A run over copies of the sample tree ends with an index, or for want of memory.
use Rattle.std.proofs.Common.{◌≡◌, ◌≢◌, ◌∙◌, ℕ, ◌+◌, ◌/◌, ◌<◌, ◌≤◌, List, [], sym, ap, subst, refl, arith, ⊎_elim, Contains, length}
use Rattle.std.specs.Prelude.{Option, Some, None, Result, Ok, Err, IfOk}
use Rattle.firefly_outside.specs.Trees.{Path, Contents}
use Rattle.firefly_outside.specs.Samples.{sample_root, dir_count, IsSampleTree}
use Rattle.firefly_outside.specs.Under.{IsThere, AreMany}
use Rattle.firefly_outside.specs.declared.tree.Kind.TheVariants.{Dir}
use Rattle.walker.specs.Closing.{IsFaultUnder, most_dirs}
use Rattle.walker.specs.TreeIndex.{IsTreeIndex}
use Rattle.indexer.specs.Says.{IndexSays, HasCause, IsCausedAt}
use Rattle.indexer.specs.declared.answer.IndexAnswer.{IndexAnswer}
use Rattle.indexer.specs.declared.answer.IndexAnswer.TheVariants.{Done, Stopped, ReadFault, TooMany, Memory}
use Rattle.indexer.specs.declared.plan.Plan.{Plan}
use Rattle.index_sample.specs.Shown.{tree_of, calls_of, faults_of}
use Rattle.index_sample.specs.declared.sample_tree.SampleTree.{SampleTree}
use Rattle.index_sample.specs.Sums.{Sums, IsDoneOrMemory, SumsAnswer}
use Rattle.index_sample.specs.Summary.{IsSummary}
use Rattle.index_sample.specs.Trees.{HoldsTree, AreSamples}
use Rattle.index_sample.specs.declared.summary.SampleSums.{SampleSums}
use Rattle.index_sample.proofs.Placed.{tree_at}
use Rattle.index_sample.proofs.SampleWalk.{sample_there, few_dirs}

none_contained : (p : Path) → Contains [] p → ⊥
none_contained p among = omega (arith, among.1)

pub no_stop : (n : ℕ) → None ≡ Some n → ⊥
no_stop n e = cc

-- no path of a sample tree can fail
pub no_fault : (seed files : ℕ) (t : Contents) → IsSampleTree seed files t → (path : Path) → IsFaultUnder t sample_root [] path → ⊥
no_fault seed files t is path fault = ⊎_elim
    (λ (among : Contains [] path). none_contained path among)
    (λ (missing : ¬ IsThere t fault.kind path). missing (sample_there seed (dir_count files) files t is fault.kind path fault.under))
    fault.may

pub not_too_many : (seed files : ℕ) (t : Contents) → files ≤ 20000 → IsSampleTree seed files t → (many : ℕ) → many ≡ most_dirs + 1 → AreMany t sample_root Dir many → ⊥
not_too_many seed files t few is many enough are = few_dirs seed (dir_count files) files t is many (omega (arith, few, enough)) are

-- the fault of one of the copies
fault_of : (seed files : ℕ) (trees new : List (Option SampleTree)) → (a : AreSamples seed files trees) → (path : Path)
    → IsCausedAt (λ m. Some (tree_of m)) (λ _. []) faults_of calls_of sample_root trees new path → ⊥
fault_of seed files trees new a path cause =
    let at = tree_at a.tree trees a.each cause.place cause.s cause.was in
    no_fault seed files a.tree a.is_sample path (subst (λ (t : Contents). IsFaultUnder t sample_root [] path) at cause.reported.0)

pub ends_so : (seed files : ℕ) (plan : Plan) (trees new : List (Option SampleTree)) → plan.stop_after ≡ None → files ≤ 20000 → (a : AreSamples seed files trees) → (answer : IndexAnswer)
    → IndexSays (Some a.tree) sample_root plan answer → HasCause (λ m. Some (tree_of m)) (λ _. []) faults_of calls_of sample_root trees new answer → IsDoneOrMemory answer
ends_so seed files plan trees new none few a (Done piece closed) says cause = tt
ends_so seed files plan trees new none few a (Stopped many) says cause = no_stop says.0.0 (sym none ∙ says.0.1)
ends_so seed files plan trees new none few a (ReadFault path) says cause = fault_of seed files trees new a path cause
ends_so seed files plan trees new none few a (TooMany many) says cause = not_too_many seed files a.tree few a.is_sample many says.0 says.1
ends_so seed files plan trees new none few a Memory says cause = tt

pub summary_of : (seed files : ℕ) (plan : Plan) (trees : List (Option SampleTree)) → (a : AreSamples seed files trees) → (answer : IndexAnswer)
    → IndexSays (Some a.tree) sample_root plan answer → (sums : SampleSums) → SumsAnswer files answer sums → IsSummary seed files sums
summary_of seed files plan trees a (Done piece closed) says sums counted =
    record { tree = a.tree; is_sample = a.is_sample; index = piece; is_index = says.0.index; counted = counted }
summary_of seed files plan trees a (Stopped many) says sums counted = absurd counted
summary_of seed files plan trees a (ReadFault path) says sums counted = absurd counted
summary_of seed files plan trees a (TooMany many) says sums counted = absurd counted
summary_of seed files plan trees a Memory says sums counted = absurd counted

-- what follows of a value that is answered
pub IfOk-then : {X E : Type 0} {P Q : X → Type 0} (r : Result X E) → ((x : X) → P x → Q x) → IfOk r P → IfOk r Q
IfOk-then (Ok x) next h = next x h
IfOk-then (Err e) next h = tt
