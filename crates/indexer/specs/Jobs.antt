-- Workers with their trees, and what became of them.
use Rattle.std.specs.Prelude.{◌≡◌, ℕ, ◌≤◌, ◌<◌, true, false, List, [], ◌∷◌, ◌++◌, length, map, remove, Option, Some, None, IfSome, cond, nat_lt, slice_index_or}
use mathlib.Core.Option.{some}
use lib.ListN.{get_elem?}
use Rattle.firefly_outside.specs.Trees.{Path, Contents, Calls}
use Rattle.firefly_outside.specs.declared.tree.Kind.{Kind}
use Rattle.firefly_outside.specs.declared.tree.Kind.TheVariants.{File, Dir}
use Rattle.bounded_buffer.specs.Plain.{part_of}
use Rattle.nub_rule.specs.Items.{Each}
use Rattle.index_findings.specs.Visits.{dirs_listed}
use Rattle.index_rule.specs.Shares.{blank}
use Rattle.indexer.specs.Gets.{Makes, OfShare, nothing}
use Rattle.indexer.specs.Hands.{IsLeft}
use Rattle.index_findings.specs.declared.findings.Findings.{Findings}
use Rattle.indexer.specs.Roles.{role_of}
use Rattle.indexer.specs.declared.job.Job.{Job}
use Rattle.indexer.specs.declared.job.Role.{Role}
use Rattle.indexer.specs.declared.job.Role.TheVariants.{Walker, Parser, Merger}
use Rattle.indexer.specs.Turns.{Worker, Run, HasCalled, IsBetween}
use Rattle.indexer.specs.Walks.{HasDone}

-- the tree of the worker k, if it is one of the first n, which have one
abbrev pub tree_at : {S : Type 0} → ℕ → List (Option S) → ℕ → Option S
tree_at n trees k = cond (nat_lt k n) (slice_index_or trees k None) None

-- the walkers, which list directories, come first
abbrev pub kind_at : ℕ → ℕ → Kind
kind_at walkers k = cond (nat_lt k walkers) Dir File

-- the thread is between two calls, and has done nothing yet
abbrev pub IsFresh : Run → Worker → Type 0
IsFresh p a = IsBetween p a × (a.share ≡ Some blank)

-- a job for each thread, with the role of its place; the trees after the first n stay, and the
-- others were taken from their places
pub record AreJobs {S : Type 0} (walkers n : ℕ) (threads : List Worker) (old new : List (Option S)) (jobs : List (Job S)) : Type 0 where
  pub made : map (λ (j : Job S). j.me) jobs ≡ threads
  pub roles : (k : ℕ) (e : Job S) → k < length jobs → (slice_index_or jobs k e).role ≡ role_of (kind_at walkers k) (tree_at n old k)
  pub others : (i : ℕ) (d : Option S) → n ≤ i → slice_index_or new i d ≡ slice_index_or old i d
  pub left : (i : ℕ) (r : S) → slice_index_or new i None ≡ Some r → slice_index_or old i None ≡ Some r

module _ {S : Type 0} (tree : S → Option Contents) (weak : S → List Path) (faults : S → ℕ) (calls : S → Calls) (root : Path) where
  -- the worker went from a to b with these findings, as its share says: the tree that it got came
  -- back, with calls of its kind; without a tree it took and merged pieces, and saw the end of
  -- their buffer unless it lost a piece
  abbrev pub GivesTree : Run → Kind → Worker → Worker → Findings → Option S → Option S → Type 0
  GivesTree p kind a b f None None = ((o : Option Contents) → HasCalled o root f.pieces.items p 0 0 a b) × (f.visits.items ≡ [])
      × (f.fault ≡ None)
      × OfShare b (IsLeft p.world [] f) × (f.lost ≡ false → OfShare b (λ u. (part_of u.notes 2).seen_end ≡ true))
  GivesTree p kind a b f (Some s) (Some r) = (tree r ≡ tree s) × (weak r ≡ weak s)
      × HasDone kind (tree s) root (weak s) (faults s) (faults r) (calls s) (calls r) p 0 a b f.visits.items f.pieces.items f.fault f.lost
      × ((files : List Path) × OfShare b (IsLeft p.world files f)
      × IfSome (tree s) (λ t. ((calls r).files_read ≡ (calls s).files_read ++ files)
      × (f.lost ≡ false → (calls r).listed ≡ (calls s).listed ++ dirs_listed f.visits.items)))
  GivesTree p kind a b f None (Some r) = ⊥
  GivesTree p kind a b f (Some s) None = ⊥

  -- the same for a worker with its role, which stays
  abbrev pub GivesRole : Run → Worker → Worker → Findings → Role S → Role S → Type 0
  GivesRole p a b f (Walker s) (Walker r) = GivesTree p Dir a b f (Some s) (Some r)
  GivesRole p a b f (Parser s) (Parser r) = GivesTree p File a b f (Some s) (Some r)
  GivesRole p a b f Merger Merger = GivesTree p File a b f None None
  GivesRole p a b f x y = ⊥

  -- the thread at this place came back with the findings at this place, and so did its tree; the
  -- first n have a tree, and of these the walkers come first
  pub record HasWorked (p : Run) (walkers n : ℕ) (threads : List Worker) (findings : List Findings) (old new : List (Option S)) (k : ℕ)
      (t : Worker) : Type 0 where
    pub was : Worker
    pub is_was : get_elem? threads k ≡ some was
    pub found : Findings
    pub is_found : get_elem? findings k ≡ some found
    pub gives : GivesTree p (kind_at walkers k) was t found (tree_at n old k) (tree_at n new k)

  -- the first thread made a call, and the others worked; this is what they came back as, the first
  -- in front, and what they found
  pub record HasCrew (p : Run) (walkers n : ℕ) (threads : List Worker) (old new : List (Option S)) (all : List Worker)
      (findings : List Findings) : Type 0 where
    pub caller : Worker
    pub is_caller : get_elem? threads 0 ≡ some caller
    pub last : Worker
    pub called : Makes p nothing caller last
    pub back : List Worker
    pub is_all : all ≡ last ∷ back
    pub many : length back ≡ length (remove threads 0)
    pub found : length findings ≡ length back
    pub worked : Each (HasWorked p walkers n (remove threads 0) findings old new) back
    pub others : (i : ℕ) (d : Option S) → n ≤ i → slice_index_or new i d ≡ slice_index_or old i d
