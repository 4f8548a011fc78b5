-- The steps of a worker with a tree.
use Rattle.std.proofs.Common.{◌≡◌, ℕ, ◌≤◌, Bool, true, false, List, [], ◌∷◌, ◌++◌, map, Some, None, Option, ◌⊎◌, ⊎_elim, sym, ap, subst, ◌∙◌, refl, arith, append_assoc, append-nil, length-append}
use Rattle.std.proofs.lemmas.List.{map-append}
use Rattle.std.specs.Prelude.{All, IfSome}
use Rattle.std.proofs.lemmas.List.Elements.{All-append, All-cons, All-nil}
use Rattle.firefly_outside.specs.Causes.{Rose}
use Rattle.firefly_outside.specs.Trees.{Path, Contents, Calls}
use Rattle.firefly_outside.specs.declared.tree.Kind.{Kind}
use Rattle.firefly_outside.specs.declared.tree.Kind.TheVariants.{File, Dir}
use Rattle.walker.specs.Listings.{IsListingOf, IsReportedBy, with_listed}
use Rattle.walker.specs.declared.listing.Listing.{Listing}
use Rattle.word_index.specs.Index.{Index}
use Rattle.index_findings.specs.declared.findings.Fault.{Fault}
use Rattle.index_findings.specs.declared.findings.Visit.{Visit}
use Rattle.index_findings.specs.Pieces.{IsFilesPiece}
use Rattle.index_findings.specs.Visits.{dirs_listed}
use Rattle.index_findings.specs.Faults.{path_of}
use Rattle.index_findings.proofs.ReportedLaws.{reported_on, reported_both, reported_all}
use Rattle.indexer.specs.Turns.{Worker, Run, HasCalled}
use Rattle.indexer.specs.Walks.{IsVisit, MayFail, calls_with, mutex_of, CalledOnly, HasDone, HasKept}
use Rattle.indexer.proofs.Turning.{back_on, back_as, passes_none}

calls_of : List Path → List Path → List Path → Calls
calls_of listed read failed = record { listed = listed; files_read = read; failed = failed }

-- calls after calls
calls_on : (kind : Kind) (ps qs fs gs : List Path) (c : Calls) → calls_with kind qs gs (calls_with kind ps fs c) ≡ calls_with kind (ps ++ qs) (fs ++ gs) c
unfolding calls_of
calls_on Dir ps qs fs gs c = ap (λ l. calls_of l c.files_read ((c.failed ++ fs) ++ gs)) (append_assoc c.listed ps qs) ∙ ap (λ l. calls_of (c.listed ++ (ps ++ qs)) c.files_read l) (append_assoc c.failed fs gs)
calls_on File ps qs fs gs c = ap (λ l. calls_of c.listed l ((c.failed ++ fs) ++ gs)) (append_assoc c.files_read ps qs) ∙ ap (λ l. calls_of c.listed (c.files_read ++ (ps ++ qs)) l) (append_assoc c.failed fs gs)

-- no call
calls_none : (kind : Kind) (c : Calls) → c ≡ calls_with kind [] [] c
unfolding calls_of
calls_none Dir c = ap (λ l. calls_of l c.files_read c.failed) (sym (append-nil c.listed)) ∙ ap (λ l. calls_of (c.listed ++ []) c.files_read l) (sym (append-nil c.failed))
calls_none File c = ap (λ l. calls_of c.listed l c.failed) (sym (append-nil c.files_read)) ∙ ap (λ l. calls_of c.listed (c.files_read ++ []) l) (sym (append-nil c.failed))

pub calls_listed : (c : Calls) (dir : Path) → with_listed c dir ≡ calls_with Dir (dir ∷ []) [] c
unfolding calls_of
calls_listed c dir = ap (λ l. calls_of (c.listed ++ dir ∷ []) c.files_read l) (sym (append-nil c.failed))

pub calls_read : (c : Calls) (path : Path) → record c { files_read = c.files_read ++ path ∷ [] } ≡ calls_with File (path ∷ []) [] c
unfolding calls_of
calls_read c path = ap (λ l. calls_of c.listed (c.files_read ++ path ∷ []) l) (sym (append-nil c.failed))

pub calls_failed : (kind : Kind) (c : Calls) (path : Path) → record c { failed = c.failed ++ path ∷ [] } ≡ calls_with kind [] (path ∷ []) c
unfolding calls_of
calls_failed Dir c path = ap (λ l. calls_of l c.files_read (c.failed ++ path ∷ [])) (sym (append-nil c.listed))
calls_failed File c path = ap (λ l. calls_of c.listed l (c.failed ++ path ∷ [])) (sym (append-nil c.files_read))

is_true : true ≡ false → ⊥
is_true e = cc

-- none was listed, and no listing was kept
kept_none : (kind : Kind) → HasKept kind [] []
kept_none Dir = refl
kept_none File = tt

module _ (kind : Kind) (tree : Option Contents) (root : Path) (weak : List Path) (count : ℕ) (before : Calls) (p : Run) (a : Worker) where
  -- nothing was done yet
  pub done_none : HasDone kind tree root weak count count before before p 0 a a [] [] None false
  done_none = record {
    back = λ n s idle. (s, idle, passes_none tree root s);
    each = All-nil (IsVisit tree);
    counts = refl;
    reported = reported_all tree (CalledOnly kind weak before before [] None false 0 a a) (λ t. record { paths = []; kept = λ none. kept_none kind; made = calls_none kind before; may = tt; times = omega arith });
  }

  -- the mutex was released at least so many times more
  pub done_on : (k f : ℕ) (now : Calls) (b c : Worker) (visits : List Visit) (fault : Option Fault) (lost : Bool)
      → HasDone kind tree root weak count f before now p 0 a b visits [] fault lost → HasCalled tree root [] p (mutex_of kind) k b c → HasDone kind tree root weak count f before now p k a c visits [] fault lost
  done_on k f now b c visits fault lost h r = record {
    back = back_on tree root [] [] p a b c h.back r.back;
    each = h.each;
    counts = h.counts;
    reported = reported_on tree (CalledOnly kind weak before now visits fault lost 0 a b) (CalledOnly kind weak before now visits fault lost k a c) (λ t l. record {
      paths = l.paths;
      kept = l.kept;
      made = l.made;
      may = l.may;
      times = let was = l.times in let more = r.times in omega arith;
    }) h.reported;
  }

  one_more : (now after : Calls) (b : Worker) (visits more : List Visit) (lost : Bool) (x : Path) (t : Contents) → (lost ≡ false → (ps : List Path) → HasKept kind ps visits → HasKept kind (ps ++ x ∷ []) more)
      → after ≡ calls_with kind (x ∷ []) [] now → CalledOnly kind weak before now visits None false 1 a b t → CalledOnly kind weak before after more None lost 0 a b t
  one_more now after b visits more lost x t keeps is l = record {
    paths = l.paths ++ x ∷ [];
    kept = λ none. keeps none l.paths (l.kept refl);
    made = is ∙ (ap (calls_with kind (x ∷ []) []) l.made ∙ calls_on kind l.paths (x ∷ []) [] [] before);
    may = tt;
    times = let was = l.times in let long = length-append l.paths (x ∷ []) in omega arith;
  }

  no_more : (now after : Calls) (b : Worker) (visits more : List Visit) (t : Contents) → after ≡ now → CalledOnly kind weak before now visits None false 1 a b t → CalledOnly kind weak before after more None true 0 a b t
  no_more now after b visits more t is l = record { paths = l.paths; kept = λ none. absurd (is_true none); made = is ∙ l.made; may = tt; times = let was = l.times in omega arith }

  -- a call was made, and what it gave was kept
  pub done_more : (f g : ℕ) (now after : Calls) (b : Worker) (visits more : List Visit) (x : Path)
      → HasDone kind tree root weak count f before now p 1 a b visits [] None false → g ≡ f → (All (IsVisit tree) visits → All (IsVisit tree) more)
      → ((ps : List Path) → HasKept kind ps visits → HasKept kind (ps ++ x ∷ []) more)
      → IfSome tree (λ t. after ≡ calls_with kind (x ∷ []) [] now) → HasDone kind tree root weak count g before after p 0 a b more [] None false
  done_more f g now after b visits more x h same each keeps reported = record {
    back = h.back;
    each = each h.each;
    counts = same ∙ h.counts;
    reported = reported_both tree (CalledOnly kind weak before now visits None false 1 a b) (λ t. after ≡ calls_with kind (x ∷ []) [] now) (CalledOnly kind weak before after more None false 0 a b)
        (λ t one is. one_more now after b visits more false x t (λ none. keeps) is one) h.reported reported;
  }

  -- a call may have been made, and what it gave may be lost
  pub done_lost : (f g : ℕ) (now after : Calls) (b : Worker) (visits : List Visit) (x : Path)
      → HasDone kind tree root weak count f before now p 1 a b visits [] None false → g ≡ f
      → IfSome tree (λ t. (after ≡ now) ⊎ (after ≡ calls_with kind (x ∷ []) [] now)) → HasDone kind tree root weak count g before after p 0 a b visits [] None true
  done_lost f g now after b visits x h same reported = record {
    back = h.back;
    each = h.each;
    counts = same ∙ h.counts;
    reported = reported_both tree (CalledOnly kind weak before now visits None false 1 a b) (λ t. (after ≡ now) ⊎ (after ≡ calls_with kind (x ∷ []) [] now)) (CalledOnly kind weak before after visits None true 0 a b)
        (λ t one q. ⊎_elim (λ (e : after ≡ now). no_more now after b visits visits t e one)
        (λ (e : after ≡ calls_with kind (x ∷ []) [] now). one_more now after b visits visits true x t (λ none. absurd (is_true none)) e one) q) h.reported reported;
  }

  -- a call failed
  pub done_fault : (f g : ℕ) (now after : Calls) (b : Worker) (visits : List Visit) (fault : Fault)
      → HasDone kind tree root weak count f before now p 1 a b visits [] None false → (f ≤ g) × Rose f g
      → IfSome tree (λ t. (after ≡ record now { failed = now.failed ++ path_of fault ∷ [] }) × MayFail weak t fault) → HasDone kind tree root weak count g before after p 0 a b visits [] (Some fault) false
  done_fault f g now after b visits fault h rose reported = record {
    back = h.back;
    each = h.each;
    counts = subst (λ (n : ℕ). (n ≤ g) × Rose n g) h.counts rose;
    reported = reported_both tree (CalledOnly kind weak before now visits None false 1 a b) (λ t. (after ≡ record now { failed = now.failed ++ path_of fault ∷ [] }) × MayFail weak t fault) (CalledOnly kind weak before after visits (Some fault) false 0 a b)
        (λ t l q. record {
          paths = l.paths;
          kept = l.kept;
          made = q.0 ∙ (calls_failed kind now (path_of fault) ∙ (ap (calls_with kind [] (path_of fault ∷ [])) l.made
              ∙ (calls_on kind l.paths [] [] (path_of fault ∷ []) before ∙ ap (λ ps. calls_with kind ps (path_of fault ∷ []) before) (append-nil l.paths))));
          may = q.1;
          times = let was = l.times in omega arith;
        }) h.reported reported;
  }

  -- the pieces that are left are those of files of the tree
  pub done_pieces : (f : ℕ) (now : Calls) (b : Worker) (visits : List Visit) (pieces : List Index) (fault : Option Fault) (lost : Bool) → All (IsFilesPiece tree root) pieces
      → HasDone kind tree root weak count f before now p 0 a b visits [] fault lost → HasDone kind tree root weak count f before now p 0 a b visits pieces fault lost
  done_pieces f now b visits pieces fault lost all h = record { back = back_as tree root [] pieces p a b (λ none. all) h.back; each = h.each; counts = h.counts; reported = h.reported }

  -- something more may be lost
  pub done_less : (f : ℕ) (now : Calls) (b : Worker) (visits : List Visit) (pieces : List Index) (fault : Option Fault) (lost late : Bool) → (late ≡ false → lost ≡ false)
      → HasDone kind tree root weak count f before now p 0 a b visits pieces fault lost → HasDone kind tree root weak count f before now p 0 a b visits pieces fault late
  done_less f now b visits pieces fault lost late less h = record {
    back = h.back;
    each = h.each;
    counts = h.counts;
    reported = reported_on tree (CalledOnly kind weak before now visits fault lost 0 a b) (CalledOnly kind weak before now visits fault late 0 a b) (λ t l. record {
      paths = l.paths;
      kept = λ none. l.kept (less none);
      made = l.made;
      may = l.may;
      times = l.times;
    }) h.reported;
  }

  -- a turn on the tree as it is now, which tells the same
  pub done_along : (tree' : Option Contents) (weak' : List Path) → tree' ≡ tree → weak' ≡ weak → (f g : ℕ) (now after : Calls) (k j : ℕ) (b c : Worker) (visits more : List Visit) (fault late : Option Fault) (lost gone : Bool)
      → HasDone kind tree root weak count f before now p k a b visits [] fault lost
      → (HasDone kind tree' root weak' count f before now p k a b visits [] fault lost → HasDone kind tree' root weak' count g before after p j a c more [] late gone)
      → HasDone kind tree root weak count g before after p j a c more [] late gone
  done_along tree' weak' same same_weak f g now after k j b c visits more fault late lost gone h step =
      let got : HasDone kind tree' root weak' count f before now p k a b visits [] fault lost =
      subst (λ (o : Option Contents). HasDone kind o root weak' count f before now p k a b visits [] fault lost) (sym same)
      (subst (λ (w : List Path). HasDone kind tree root w count f before now p k a b visits [] fault lost) (sym same_weak) h) in
      subst (λ (o : Option Contents). HasDone kind o root weak count g before after p j a c more [] late gone) same
      (subst (λ (w : List Path). HasDone kind tree' root w count g before after p j a c more [] late gone) same_weak (step got))

-- the listing of one directory more is kept
pub kept_more : (visits kept : List Visit) (dir text : Path) (l : Listing) → kept ≡ visits ++ record { dir = dir; listing = l } ∷ [] → text ≡ dir
    → (ps : List Path) → HasKept Dir ps visits → HasKept Dir (ps ++ text ∷ []) kept
kept_more visits kept dir text l all is ps was =
    let v : Visit = record { dir = dir; listing = l } in
    ap (λ (qs : List Path). qs ++ text ∷ []) was ∙ (ap (λ (d : Path). map (λ (u : Visit). u.dir) visits ++ d ∷ []) is
    ∙ sym (ap (map (λ (u : Visit). u.dir)) all ∙ map-append (λ (u : Visit). u.dir) visits (v ∷ [])))

-- one listing more
pub visits_more : (tree : Option Contents) (visits kept : List Visit) (dir text : Path) (l : Listing) → kept ≡ visits ++ record { dir = dir; listing = l } ∷ [] → text ≡ dir → IsListingOf text l
    → IfSome tree (λ t. IsReportedBy t text l) → All (IsVisit tree) visits → All (IsVisit tree) kept
visits_more tree visits kept dir text l all is lawful reported each =
    let v : Visit = record { dir = dir; listing = l } in
    let here : IsVisit tree v = record { lawful = subst (λ (d : Path). IsListingOf d l) is lawful; reported = subst (λ (d : Path). IfSome tree (λ t. IsReportedBy t d l)) is reported } in
    subst (All (IsVisit tree)) (sym all) (All-append (IsVisit tree) visits (v ∷ []) each (All-cons (IsVisit tree) v [] here (All-nil (IsVisit tree))))

-- who lists directories reads nothing, and unless a listing was lost it has those that it listed
pub lists_only : (tree : Option Contents) (weak : List Path) (before now : Calls) (visits : List Visit) (fault : Option Fault) (lost : Bool) (spare : ℕ) (a b : Worker) → IfSome tree (CalledOnly Dir weak before now visits fault lost spare a b)
    → IfSome tree (λ t. (now.files_read ≡ before.files_read ++ []) × (lost ≡ false → now.listed ≡ before.listed ++ dirs_listed visits))
lists_only tree weak before now visits fault lost spare a b h =
    reported_on tree (CalledOnly Dir weak before now visits fault lost spare a b) (λ t. (now.files_read ≡ before.files_read ++ []) × (lost ≡ false → now.listed ≡ before.listed ++ dirs_listed visits))
    (λ t c. (ap (λ (d : Calls). d.files_read) c.made ∙ sym (append-nil before.files_read), (λ none. ap (λ (d : Calls). d.listed) c.made ∙ ap (λ l. before.listed ++ l) (c.kept none)))) h

-- who reads files lists nothing
pub reads_only : (tree : Option Contents) (weak : List Path) (before now : Calls) (visits : List Visit) (fault : Option Fault) (lost : Bool) (spare : ℕ) (a b : Worker) (files : List Path) → visits ≡ [] → IfSome tree (CalledOnly File weak before now visits fault lost spare a b)
    → IfSome tree (λ t. now.files_read ≡ before.files_read ++ files) → IfSome tree (λ t. (now.files_read ≡ before.files_read ++ files) × (lost ≡ false → now.listed ≡ before.listed ++ dirs_listed visits))
reads_only None weak before now visits fault lost spare a b files none h read = tt
reads_only (Some t) weak before now visits fault lost spare a b files none h read =
    (read, (λ kept. ap (λ (d : Calls). d.listed) h.made ∙ (sym (append-nil before.listed) ∙ ap (λ (vs : List Visit). before.listed ++ dirs_listed vs) (sym none))))
