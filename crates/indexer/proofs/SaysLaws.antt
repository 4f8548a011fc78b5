-- What follows from what the workers came by.
use Rattle.std.proofs.Common.{◌≡◌, ℕ, suc, List, [], ◌∷◌, Option, Some, None, refl, sym, subst, ⊎_elim}
use Rattle.std.specs.Prelude.{All, IfSome}
use Rattle.std.specs.List.{flat_map}
use Rattle.std.proofs.lemmas.List.Elements.{All-append, All-nil}
use Rattle.firefly_outside.specs.Trees.{Path, Contents, Calls}
use Rattle.firefly_outside.specs.Under.{IsUnder}
use Rattle.firefly_outside.specs.declared.tree.Kind.{Kind}
use Rattle.nub.specs.Ended.{Ended}
use Rattle.nub_rule.specs.Items.{Each}
use Rattle.walker.specs.Closing.{IsFaultUnder}
use Rattle.walker.specs.Listings.{IsListingOf, IsReportedBy}
use Rattle.walker.specs.declared.answer.WalkAnswer.{WalkAnswer}
use Rattle.walker.specs.declared.answer.WalkAnswer.TheVariants.{Done, Stopped, ReadFault, TooMany, Memory}
use Rattle.index_findings.specs.declared.findings.Fault.{Fault}
use Rattle.index_findings.specs.declared.findings.Findings.{Findings}
use Rattle.index_findings.specs.declared.findings.Visit.{Visit}
use Rattle.index_findings.specs.Gathered.{Ends, EndsByWalk}
use Rattle.index_findings.specs.Faults.{path_of, kind_of}
use Rattle.index_findings.proofs.ReportedLaws.{reported_on}
use Rattle.indexer.specs.declared.plan.Plan.{Plan}
use Rattle.index_rule.specs.declared.value.IndexValue.{IndexValue}
use Rattle.indexer.specs.Jobs.{GivesTree, kind_at, tree_at}
use Rattle.indexer.specs.Runs.{IsFoundBy}
use Rattle.indexer.specs.Says.{AllShow, IndexSays, IsRunOf, WalkSays, answer_of}
use Rattle.indexer.specs.Turns.{Worker, Run}
use Rattle.index_rule.specs.Shares.{Share}
use Rattle.indexer.specs.Walks.{IsVisit}
use Rattle.indexer.proofs.RunLaws.{tree_of}

module _ {S : Type 0} (tree : S → Option Contents) (weak : S → List Path) (faults : S → ℕ) (calls : S → Calls) (root : Path) where
  gives_visits : (p : Run) (kind : Kind) (a b : Worker) (f : Findings) (given got : Option S) (o : Option Contents) → GivesTree tree weak faults calls root p kind a b f given got → ((s : S) → given ≡ Some s → tree s ≡ o)
      → All (IsVisit o) f.visits.items
  gives_visits p kind a b f None None o h shows_it = subst (All (IsVisit o)) (sym h.1) (All-nil (IsVisit o))
  gives_visits p kind a b f (Some s) (Some r) o h shows_it = subst (λ (q : Option Contents). All (IsVisit q) f.visits.items) (shows_it s refl) h.2.each
  gives_visits p kind a b f None (Some r) o h shows_it = absurd h
  gives_visits p kind a b f (Some s) None o h shows_it = absurd h

  -- each listing is one of the told tree
  pub all_visits : (walkers n : ℕ) (threads : List Worker) (old new : List (Option S)) (findings : List Findings) (o : Option Contents) → AllShow tree o old
      → Each (IsFoundBy tree weak faults calls root walkers n threads old new) findings → All (IsVisit o) (flat_map (λ f. f.visits.items) findings)
  all_visits walkers n threads old new findings o shows found = flat findings (λ k f at.
      let w = found k f at in
      gives_visits w.run (kind_at walkers k) w.first w.last f (tree_at n old k) (tree_at n new k) o w.gives (λ s e. shows k s (tree_of n old k s e)))
    where
      flat : (fs : List Findings) → Each (λ k f. All (IsVisit o) f.visits.items) fs → All (IsVisit o) (flat_map (λ f. f.visits.items) fs)
      flat [] h = All-nil (IsVisit o)
      flat (f ∷ fs) h = All-append (IsVisit o) f.visits.items (flat_map (λ g. g.visits.items) fs) (h 0 f refl) (flat fs (λ k g e. h (suc k) g e))

pub visits_lawful : (o : Option Contents) (visits : List Visit) → All (IsVisit o) visits → All (λ v. IsListingOf v.dir v.listing) visits
visits_lawful o visits all k d low = (all k d low).lawful

pub visits_reported : (o : Option Contents) (visits : List Visit) → All (IsVisit o) visits → IfSome o (λ t. All (λ v. IsReportedBy t v.dir v.listing) visits)
visits_reported None visits all = tt
visits_reported (Some t) visits all = λ k d low. (all k d low).reported

walk_says : (o : Option Contents) (weak : List Path) (root : Path) (stop : Option ℕ) (count then_count : ℕ) (before now : Calls) (answer : WalkAnswer) → EndsByWalk o weak root stop count then_count before now answer → WalkSays o root stop answer
walk_says o weak root stop count then_count before now (Done piece) h = h.answers
walk_says o weak root stop count then_count before now (Stopped many) h = (h.numbers, h.answers)
walk_says o weak root stop count then_count before now (ReadFault path) h = reported_on o (λ t. IsFaultUnder t root weak path) (λ t. (kind : Kind) × IsUnder t root kind path) (λ t f. (f.kind, f.under)) h.answers
walk_says o weak root stop count then_count before now (TooMany many) h = (h.numbers, h.answers)
walk_says o weak root stop count then_count before now Memory h = tt

-- whatever ended the run, the answer says of the tree what it should
pub ends_say : (o : Option Contents) (weak : List Path) (root : Path) (stop : Option ℕ) (fault : Option Fault) (count then_count : ℕ) (before now : Calls) (answer : WalkAnswer)
    → Ends o weak root stop fault count then_count before now answer → WalkSays o root stop answer
ends_say o weak root stop None count then_count before now answer h = walk_says o weak root stop count then_count before now answer h
ends_say o weak root stop (Some fault) count then_count before now answer h = ⊎_elim
    (λ (e : answer ≡ Memory). subst (WalkSays o root stop) (sym e) tt)
    (λ (e : (answer ≡ ReadFault (path_of fault)) × IfSome o (λ t. IsUnder t root (kind_of fault) (path_of fault))). subst (WalkSays o root stop) (sym e.0)
    (reported_on o (λ t. IsUnder t root (kind_of fault) (path_of fault)) (λ t. (kind : Kind) × IsUnder t root kind (path_of fault)) (λ t u. (kind_of fault, u)) e.1))
    h.cases

-- what the closing walk's answer says, the run's says
pub index_says : (o : Option Contents) (root : Path) (plan : Plan) (closed : Ended IndexValue Share Path) (answer : WalkAnswer)
    → WalkSays o root plan.stop_after answer → IsRunOf plan closed → IndexSays o root plan (answer_of answer closed)
index_says o root plan closed (Done piece) says run = (says, run)
index_says o root plan closed (Stopped many) says run = says
index_says o root plan closed (ReadFault path) says run = says
index_says o root plan closed (TooMany many) says run = says
index_says o root plan closed Memory says run = tt

pub if_each : (x : Option ℕ) (P : ℕ → Type 0) → ((n : ℕ) → x ≡ Some n → P n) → IfSome x P
if_each None P h = tt
if_each (Some n) P h = h n refl

module _ {S : Type 0} (tree : S → Option Contents) (weak : S → List Path) (faults : S → ℕ) (calls : S → Calls) where
  -- what the answer says where the closing walk's tree is the told one
  pub end_says : (o : Option Contents) (root : Path) (stop : Option ℕ) (fault : Option Fault) (s : S) (after : Option S) (answer : WalkAnswer) → tree s ≡ o
      → ((r : S) × (after ≡ Some r) × (tree r ≡ tree s) × (weak r ≡ weak s) × Ends (tree s) (weak s) root stop fault (faults s) (faults r) (calls s) (calls r) answer)
      → WalkSays o root stop answer
  end_says o root stop fault s after answer same h = subst (λ (q : Option Contents). WalkSays q root stop answer) same
      (ends_say (tree s) (weak s) root stop fault (faults s) (faults h.0) (calls s) (calls h.0) answer h.4)
