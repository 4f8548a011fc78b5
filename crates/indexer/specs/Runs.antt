-- What a run of the workers leaves.
use Rattle.std.specs.Prelude.{◌≡◌, ℕ, ◌+◌, ◌≤◌, true, false, List, [], length, All, Option, Some, None, slice_index_or}
use Rattle.std.specs.List.{flat_map, list_any}
use Rattle.std.proofs.Common.{suc}
use mathlib.Core.Option.{some}
use lib.ListN.{get_elem?}
use Rattle.firefly_outside.specs.Trees.{Path, Contents, Calls}
use Rattle.larch_actions.specs.declared.event.Event.{Event}
use Rattle.nub.specs.Ended.{Ended, IsWhole}
use Rattle.nub_rule.specs.Items.{Each}
use Rattle.index_findings.specs.declared.findings.Findings.{Findings}
use Rattle.index_findings.specs.Pieces.{IsFilesPiece}
use Rattle.index_findings.specs.Visits.{AreFound, AreVisits}
use Rattle.walker.specs.Pile.{AreApart}
use Rattle.indexer.specs.Once.{IsWorkedOnce}
use Rattle.indexer.specs.declared.plan.Plan.{Plan}
use Rattle.index_rule.specs.declared.value.IndexValue.{IndexValue}
use Rattle.indexer.specs.Jobs.{GivesTree, kind_at, tree_at}
use Rattle.indexer.specs.Plans.{layout_of}
use Rattle.indexer.specs.Says.{AllShow}
use Rattle.indexer.specs.Turns.{Worker, Run}
use Rattle.index_rule.specs.Shares.{Share}

module _ {S : Type 0} (tree : S → Option Contents) (weak : S → List Path) (faults : S → ℕ) (calls : S → Calls) (root : Path) where
  -- the worker k, which is thread k + 1 and had done nothing before, found this, and its tree came
  -- back
  pub record IsFoundBy (walkers n : ℕ) (threads : List Worker) (old new : List (Option S)) (k : ℕ) (found : Findings) : Type 0 where
    pub run : Run
    pub first : Worker
    pub nothing : first.mine ≡ []
    pub last : Worker
    pub is_last : get_elem? threads (suc k) ≡ some last
    pub gives : GivesTree tree weak faults calls root run (kind_at walkers k) first last found (tree_at n old k) (tree_at n new k)

  -- the package of the plan was closed like this when its workers had ended, and this is what they
  -- found
  pub record HasRun (plan : Plan) (old new : List (Option S)) (closed : Ended IndexValue Share Path) (findings : List Findings) : Type 0
    where
      pub layout : closed.layout ≡ layout_of plan
      pub untraced : plan.traced ≡ false → closed.trace ≡ None
      pub traced : plan.traced ≡ true → (h : List Event) × (closed.trace ≡ Some h) × IsWhole (layout_of plan) closed.threads h
      pub count : length findings + 1 ≡ (layout_of plan).threads
      pub found : Each (IsFoundBy plan.walkers (plan.walkers + plan.parsers) closed.threads old new) findings
      pub pieces : (o : Option Contents) → AllShow tree o old → All (IsFilesPiece o root) (flat_map (λ f. f.pieces.items) findings)
      pub visits : AreVisits root (flat_map (λ f. f.visits.items) findings)
      pub apart : AreApart (flat_map (λ f. f.pieces.items) findings)
      pub covered : AreFound root (flat_map (λ f. f.visits.items) findings) (flat_map (λ f. f.pieces.items) findings)
      pub once : (t : Contents) → AllShow tree (Some t) old → list_any (λ f. f.lost) findings ≡ false
          → IsWorkedOnce calls root (plan.walkers + plan.parsers) old new (flat_map (λ f. f.visits.items) findings)
          (flat_map (λ f. f.pieces.items) findings)
      pub others : (i : ℕ) (d : Option S) → plan.walkers + plan.parsers ≤ i → slice_index_or new i d ≡ slice_index_or old i d
