-- The trees after a run.
use Rattle.std.proofs.Common.{◌≡◌, ℕ, ◌<◌, ◌≤◌, Bool, true, suc, zero, List, [], ◌∷◌, ◌++◌, length, Option, Some, None, Result, Ok, Err, OnErr, cond, nat_lt, refl, sym, ap, subst, ◌∙◌, ⊎_elim, arith, append-nil, false}
use Rattle.std.specs.Prelude.{IfSome, Contains, slice_index_or}
use Rattle.std.specs.Option.{option_or}
use mathlib.Core.Option.{some, some-injective, some-ne-none}
use lib.ListN.{get_elem?}
use Rattle.std.proofs.lemmas.Bool.{cases_eq, cases_lt, lt-ltb, ltb-true}
use Rattle.std.proofs.lemmas.List.Elements.{Contains-append_right}
use Rattle.std.proofs.lemmas.Option.{same_Some}
use Rattle.firefly_outside.specs.Trees.{Path, Contents, Calls}
use Rattle.firefly_outside.specs.Causes.{Rose}
use Rattle.firefly_outside.specs.Under.{IsUnder}
use Rattle.firefly_outside.specs.declared.tree.Kind.{Kind}
use Rattle.firefly_outside.specs.declared.tree.Kind.TheVariants.{File, Dir}
use Rattle.nub.specs.Ended.{Ended}
use Rattle.nub_rule.specs.Items.{Each}
use Rattle.walker.specs.Closing.{HasRisen, IsFaultUnder}
use Rattle.walker.specs.declared.answer.WalkAnswer.{WalkAnswer}
use Rattle.walker.specs.declared.answer.WalkAnswer.TheVariants.{Done, Stopped, ReadFault, TooMany, Memory}
use Rattle.word_index.specs.Index.{Index}
use Rattle.index_findings.specs.declared.findings.Fault.{Fault}
use Rattle.index_findings.specs.declared.findings.Findings.{Findings}
use Rattle.index_findings.specs.declared.findings.Visit.{Visit}
use Rattle.index_findings.specs.Gathered.{first_fault, Ends}
use Rattle.index_findings.specs.Faults.{path_of, kind_of}
use Rattle.index_findings.proofs.ReportedLaws.{reported_on, reported_both}
use Rattle.index_rule.specs.declared.value.IndexValue.{IndexValue}
use Rattle.indexer.specs.Jobs.{GivesTree, kind_at, tree_at}
use Rattle.indexer.specs.Runs.{IsFoundBy}
use Rattle.indexer.specs.Says.{AllShow, OnlyCalls, IsBack, AreBack, AreLeft, IsUsedBy, AreUsed, HasCause, IsCausedAt, FailsSince, TreesAfter, answer_of}
use Rattle.indexer.specs.Turns.{Worker, Run, release_count}
use Rattle.indexer.specs.Walks.{HasDone, FaultCounts, CalledOnly, MayFail, calls_with}
use Rattle.index_rule.specs.Shares.{Share}
use Rattle.indexer.proofs.RunLaws.{some_at}

-- what holds in any case holds on an error
pub on_err_if : {T E P : Type 0} (r : Result T E) → P → OnErr r P
on_err_if (Ok x) p = tt
on_err_if (Err e) p = p

fault_count : (a b : ℕ) (fault : Option Fault) → FaultCounts a b fault → a ≤ b
fault_count a b None h = omega (arith, h)
fault_count a b (Some fault) h = h.0

-- where none failed first, none failed
or_none : (a b : Option Fault) → option_or a b ≡ None → (a ≡ None) × (b ≡ None)
or_none None b e = (refl, e)
or_none (Some p) b e = absurd (cc)

pub none_failed : (fs : List Findings) → first_fault fs ≡ None → Each (λ k f. f.fault ≡ None) fs
none_failed [] e k f at = absurd (some-ne-none f (sym at))
none_failed (g ∷ fs) e zero f at = ap (λ (h : Findings). h.fault) (sym (some-injective g f at)) ∙ (or_none g.fault (first_fault fs) e).0
none_failed (g ∷ fs) e (suc k) f at = none_failed fs (or_none g.fault (first_fault fs) e).1 k f at

risen_count : (a b : ℕ) (answer : WalkAnswer) → HasRisen a b answer → a ≤ b
risen_count a b (Done piece) h = omega (arith, h)
risen_count a b (Stopped many) h = omega (arith, h)
risen_count a b (ReadFault path) h = h.0
risen_count a b (TooMany many) h = omega (arith, h)
risen_count a b Memory h = omega (arith, h)

pub ends_count : (o : Option Contents) (weak : List Path) (root : Path) (stop : Option ℕ) (fault : Option Fault) (a b : ℕ) (before now : Calls) (answer : WalkAnswer) → Ends o weak root stop fault a b before now answer → a ≤ b
ends_count o weak root stop None a b before now answer h = risen_count a b answer h.rises
ends_count o weak root stop (Some fault) a b before now answer h = let e = h.count_stays in omega arith

not_memory : (piece : Index) → Done piece ≡ Memory → ⊥
not_memory piece e = cc

not_fault : (piece : Index) (path : Path) → Done piece ≡ ReadFault path → ⊥
not_fault piece path e = cc

-- the index is answered only where none failed
pub done_none : (o : Option Contents) (weak : List Path) (root : Path) (stop : Option ℕ) (fault : Option Fault) (a b : ℕ) (before now : Calls) (piece : Index) → Ends o weak root stop fault a b before now (Done piece)
    → (fault ≡ None) × (b ≡ a)
done_none o weak root stop None a b before now piece h = (refl, h.rises)
done_none o weak root stop (Some fault) a b before now piece h = absurd (⊎_elim (λ e. not_memory piece e) (λ e. not_fault piece (path_of fault) e.0) h.cases)

tree_there : {S : Type 0} (n : ℕ) (trees : List (Option S)) (k : ℕ) → k < n → tree_at n trees k ≡ slice_index_or trees k None
tree_there n trees k low = ap (λ b. cond b (slice_index_or trees k None) None) (lt-ltb k n low)

abbrev Deciding : {S : Type 0} → (S → Option Contents) → (S → List Path) → (S → ℕ) → (S → Calls) → Path → Option ℕ → Option Fault → WalkAnswer → Option S → Option S → Type 0
Deciding {S} tree weak faults calls root stop fault answer given got =
    (s : S) → given ≡ Some s → (r : S) × (got ≡ Some r) × (tree r ≡ tree s) × (weak r ≡ weak s) × Ends (tree s) (weak s) root stop fault (faults s) (faults r) (calls s) (calls r) answer

-- calls of one kind alone
only_calls : (kind : Kind) (weak : List Path) (before now : Calls) (visits : List Visit) (lost : Bool) (a b : Worker) (t : Contents) → a.mine ≡ [] → CalledOnly kind weak before now visits None lost 0 a b t → OnlyCalls kind before now b
only_calls Dir weak before now visits lost a b t nothing l = record {
  dirs = l.paths;
  listed = ap (λ (c : Calls). c.listed) l.made;
  read = ap (λ (c : Calls). c.files_read) l.made;
  failed = ap (λ (c : Calls). c.failed) l.made ∙ append-nil before.failed;
  times = let was = l.times in let zero_at = ap (release_count 0) nothing in omega arith;
}
only_calls File weak before now visits lost a b t nothing l = record {
  files = l.paths;
  listed = ap (λ (c : Calls). c.listed) l.made;
  read = ap (λ (c : Calls). c.files_read) l.made;
  failed = ap (λ (c : Calls). c.failed) l.made ∙ append-nil before.failed;
  times = let was = l.times in let zero_at = ap (release_count 1) nothing in omega arith;
}

module _ {S : Type 0} (tree : S → Option Contents) (weak : S → List Path) (faults : S → ℕ) (calls : S → Calls) (root : Path) where
  -- what came back for the tree that was handed out
  record Came (p : Run) (kind : Kind) (a b : Worker) (f : Findings) (s : S) (got : Option S) : Type 0 where
    r : S
    is_r : got ≡ Some r
    same_tree : tree r ≡ tree s
    same_weak : weak r ≡ weak s
    done : HasDone kind (tree s) root (weak s) (faults s) (faults r) (calls s) (calls r) p 0 a b f.visits.items f.pieces.items f.fault f.lost

  came : (p : Run) (kind : Kind) (a b : Worker) (f : Findings) (given got : Option S) (s : S) → given ≡ Some s → GivesTree tree weak faults calls root p kind a b f given got → Came p kind a b f s got
  came p kind a b f None None s e h = absurd (cc)
  came p kind a b f None (Some r) s e h = absurd h
  came p kind a b f (Some u) None s e h = absurd h
  came p kind a b f (Some u) (Some r) s e h = subst (λ (v : S). Came p kind a b f v (Some r)) (same_Some u s e) (record { r = r; is_r = refl; same_tree = h.0; same_weak = h.1; done = h.2 })

  -- the tree of the worker k came back with what it came by
  record CameAt (walkers n : ℕ) (threads : List Worker) (findings : List Findings) (new : List (Option S)) (k : ℕ) (s : S) : Type 0 where
    run : Run
    first : Worker
    nothing : first.mine ≡ []
    last : Worker
    is_last : get_elem? threads (suc k) ≡ some last
    f : Findings
    is_f : get_elem? findings k ≡ some f
    came : Came run (kind_at walkers k) first last f s (slice_index_or new k None)

  came_at : (walkers n : ℕ) (threads : List Worker) (findings : List Findings) (old new : List (Option S)) (k : ℕ) (s : S) → n ≤ length findings → Each (IsFoundBy tree weak faults calls root walkers n threads old new) findings
      → k < n → slice_index_or old k None ≡ Some s → CameAt walkers n threads findings new k s
  came_at walkers n threads findings old new k s many found low e =
      let there = some_at findings k (omega arith) in
      let w = found k there.0 there.1 in
      record {
        run = w.run;
        first = w.first;
        nothing = w.nothing;
        last = w.last;
        is_last = w.is_last;
        f = there.0;
        is_f = there.1;
        came = subst (λ (o : Option S). Came w.run (kind_at walkers k) w.first w.last there.0 s o) (tree_there n new k low) (came w.run (kind_at walkers k) w.first w.last there.0 (tree_at n old k) (tree_at n new k) s (tree_there n old k low ∙ e) w.gives);
      }

  back_same : (s : S) → IsBack tree weak faults calls s s
  back_same s = record { same_tree = refl; same_weak = refl; count = omega arith }

  left_by : (n : ℕ) (old new : List (Option S)) → ((k : ℕ) (r : S) → k < n → slice_index_or new k None ≡ Some r → (s : S) × (slice_index_or old k None ≡ Some s) × IsBack tree weak faults calls s r)
      → ((i : ℕ) (d : Option S) → n ≤ i → slice_index_or new i d ≡ slice_index_or old i d) → AreLeft tree weak faults calls n old new
  left_by n old new low above = record {
    own = λ k r e. ⊎_elim (λ below. low k r below e) (λ high. (r, sym (above k None (omega (arith, high))) ∙ e, back_same r)) (cases_lt k n);
    closing = λ s e. (s, above n None (omega arith) ∙ e, back_same s);
    others = λ i d high. above i d (omega arith);
  }

  -- where what is left stood there
  pub left_there : (n : ℕ) (old new : List (Option S)) → ((i : ℕ) (r : S) → slice_index_or new i None ≡ Some r → slice_index_or old i None ≡ Some r)
      → ((i : ℕ) (d : Option S) → n ≤ i → slice_index_or new i d ≡ slice_index_or old i d) → AreLeft tree weak faults calls n old new
  left_there n old new left above = left_by n old new (λ k r low e. (r, left k r e, back_same r)) above

  pub left_same : (n : ℕ) (old new : List (Option S)) → new ≡ old → AreLeft tree weak faults calls n old new
  left_same n old new same = subst (λ (l : List (Option S)). AreLeft tree weak faults calls n old l) (sym same) (left_there n old old (λ i r e. e) (λ i d h. refl))

  gives_back : (p : Run) (kind : Kind) (a b : Worker) (f : Findings) (given got : Option S) (r : S) → got ≡ Some r → GivesTree tree weak faults calls root p kind a b f given got
      → (s : S) × (given ≡ Some s) × IsBack tree weak faults calls s r
  gives_back p kind a b f None None r e h = absurd (cc)
  gives_back p kind a b f None (Some u) r e h = absurd h
  gives_back p kind a b f (Some s) None r e h = absurd h
  gives_back p kind a b f (Some s) (Some u) r e h =
      (s, refl, subst (IsBack tree weak faults calls s) (same_Some u r e) (record { same_tree = h.0; same_weak = h.1; count = fault_count (faults s) (faults u) f.fault h.2.counts }))

  -- where the workers came back, each of their trees did
  pub left_found : (walkers n : ℕ) (threads : List Worker) (findings : List Findings) (old new : List (Option S)) → n ≤ length findings → Each (IsFoundBy tree weak faults calls root walkers n threads old new) findings
      → ((i : ℕ) (d : Option S) → n ≤ i → slice_index_or new i d ≡ slice_index_or old i d) → AreLeft tree weak faults calls n old new
  left_found walkers n threads findings old new many found above = left_by n old new
      (λ k r low e.
      let there = some_at findings k (omega arith) in
      let w = found k there.0 there.1 in
      let b = gives_back w.run (kind_at walkers k) w.first w.last there.0 (tree_at n old k) (tree_at n new k) r (tree_there n new k low ∙ e) w.gives in
      (b.0, sym (tree_there n old k low) ∙ b.1, b.2))
      above

  module _ (walkers n : ℕ) (threads : List Worker) (findings : List Findings) (old mid new : List (Option S)) (stop : Option ℕ) (fault : Option Fault) (many : n ≤ length findings)
      (found : Each (IsFoundBy tree weak faults calls root walkers n threads old mid) findings)
      (above : (i : ℕ) (d : Option S) → n ≤ i → slice_index_or mid i d ≡ slice_index_or old i d)
      (others : (i : ℕ) (d : Option S) → (i ≡ n → ⊥) → slice_index_or new i d ≡ slice_index_or mid i d) where
    -- all trees are back
    are_back : (answer : WalkAnswer) → Deciding tree weak faults calls root stop fault answer (slice_index_or mid n None) (slice_index_or new n None) → AreBack tree weak faults calls n old new
    are_back answer ends = record {
      workers = λ k s low e.
          let w = came_at walkers n threads findings old mid k s many found low e in
          let c = w.came in
          (c.r, others k None (λ same. omega arith) ∙ c.is_r, record { same_tree = c.same_tree; same_weak = c.same_weak; count = fault_count (faults s) (faults c.r) w.f.fault c.done.counts });
      closing = λ s e.
          let h = ends s (above n None (omega arith) ∙ e) in
          (h.0, h.1, record { same_tree = h.2; same_weak = h.3; count = ends_count (tree s) (weak s) root stop fault (faults s) (faults h.0) (calls s) (calls h.0) answer h.4 });
      others = λ i d low. others i d (λ same. omega arith) ∙ above i d (omega arith);
    }

    -- and so they are where memory wanted after the run
    are_left : (answer : WalkAnswer) (own : S) → slice_index_or old n None ≡ Some own → Deciding tree weak faults calls root stop fault answer (slice_index_or mid n None) (slice_index_or new n None) → AreLeft tree weak faults calls n old new
    are_left answer own is_own ends =
        let was = left_found walkers n threads findings old mid many found above in
        let all = are_back answer ends in
        record {
          own = λ k r e. ⊎_elim
              (λ (here : k ≡ n).
              let w = all.closing own is_own in
              (own, ap (λ i. slice_index_or old i None) here ∙ is_own, subst (IsBack tree weak faults calls own) (same_Some w.0 r (sym w.1 ∙ (ap (λ i. slice_index_or new i None) (sym here) ∙ e))) w.2))
              (λ (else : k ≡ n → ⊥). was.own k r (sym (others k None else) ∙ e))
              (cases_eq k n);
          closing = all.closing;
          others = all.others;
        }

    -- where the index is answered, no count rose, and only calls of its kind were made on each worker's tree
    are_used : (piece : Index) → fault ≡ first_fault findings → (own : S) → slice_index_or old n None ≡ Some own
        → Deciding tree weak faults calls root stop fault (Done piece) (slice_index_or mid n None) (slice_index_or new n None) → AreUsed tree weak faults calls walkers n threads old new
    are_used piece is_fault own is_own ends =
        let whole = ends own (above n None (omega arith) ∙ is_own) in
        let none = done_none (tree own) (weak own) root stop fault (faults own) (faults whole.0) (calls own) (calls whole.0) piece whole.4 in
        let nobody = none_failed findings (sym is_fault ∙ none.0) in
        record {
          workers = λ k s r low e is.
              let w = came_at walkers n threads findings old mid k s many found low e in
              let c = w.came in
              let same : c.r ≡ r = same_Some c.r r (sym (others k None (λ z. omega arith) ∙ c.is_r) ∙ is) in
              let none_here = nobody k w.f w.is_f in
              let done = subst (λ (o : Option Fault). HasDone (kind_at walkers k) (tree s) root (weak s) (faults s) (faults c.r) (calls s) (calls c.r) w.run 0 w.first w.last w.f.visits.items w.f.pieces.items o w.f.lost) none_here c.done in
              subst (λ (v : S). IsUsedBy tree weak faults calls (kind_at walkers k) threads k s v) same (record {
                none_rose = done.counts;
                thread = w.last;
                is_thread = w.is_last;
                calls_only = reported_on (tree s) (CalledOnly (kind_at walkers k) (weak s) (calls s) (calls c.r) w.f.visits.items None w.f.lost 0 w.first w.last) (λ t. OnlyCalls (kind_at walkers k) (calls s) (calls c.r) w.last)
                    (λ t l. only_calls (kind_at walkers k) (weak s) (calls s) (calls c.r) w.f.visits.items w.f.lost w.first w.last t w.nothing l) done.reported;
              });
          closing = λ s r e is.
              let h = ends s (above n None (omega arith) ∙ e) in
              let same : h.0 ≡ r = same_Some h.0 r (sym h.1 ∙ is) in
              let stays = done_none (tree s) (weak s) root stop fault (faults s) (faults h.0) (calls s) (calls h.0) piece h.4 in
              ap faults (sym same) ∙ stays.1;
        }

-- one of them failed so
abbrev OneFailed : List Findings → Fault → Type 0
OneFailed fs fault = (k : ℕ) × (f : Findings) × (get_elem? fs k ≡ some f) × (f.fault ≡ Some fault)

first_here : (g : Findings) (fs : List Findings) (fault : Fault) (o : Option Fault) → g.fault ≡ o → option_or g.fault (first_fault fs) ≡ Some fault → (first_fault fs ≡ Some fault → OneFailed fs fault) → OneFailed (g ∷ fs) fault
first_here g fs fault (Some q) is e later = (0, g, refl, is ∙ (sym (ap (λ u. option_or u (first_fault fs)) is) ∙ e))
first_here g fs fault None is e later = let r = later (sym (ap (λ u. option_or u (first_fault fs)) is) ∙ e) in (suc r.0, r.1, r.2, r.3)

-- the first that failed is one of them
first_failed : (fs : List Findings) (fault : Fault) → first_fault fs ≡ Some fault → OneFailed fs fault
first_failed [] fault e = absurd (cc)
first_failed (g ∷ fs) fault e = first_here g fs fault g.fault refl e (first_failed fs fault)

low_by : {S : Type 0} (v : Bool) (x : Option S) (s : S) → cond v x None ≡ Some s → v ≡ true
low_by true x s e = refl
low_by false x s e = absurd (cc)

last_among : (xs : List Path) (x : Path) → Contains (xs ++ x ∷ []) x
last_among xs x = Contains-append_right xs (x ∷ []) x (0, omega arith, refl)

fault_rose : (a b : ℕ) (fault : Fault) (o : Option Fault) → o ≡ Some fault → FaultCounts a b o → Rose a b
fault_rose a b fault o is h = (let P : Option Fault → Type 0 = FaultCounts a b in subst P is h).1

-- what failed last is among what failed since
fails_since : (path : Path) (before now : Calls) → now.failed ≡ before.failed ++ path ∷ [] → FailsSince before now path
fails_since path before now e = record { more = path ∷ []; failed = e; among = last_among [] path }

failed_since : (kind : Kind) (paths : List Path) (path : Path) (before now : Calls) → now ≡ calls_with kind paths (path ∷ []) before → FailsSince before now path
failed_since Dir paths path before now e = fails_since path before now (ap (λ (c : Calls). c.failed) e)
failed_since File paths path before now e = fails_since path before now (ap (λ (c : Calls). c.failed) e)

no_memory : (q : Path) → ReadFault q ≡ Memory → ⊥
no_memory q e = cc

same_fault : (q u : Path) → ReadFault q ≡ ReadFault u → q ≡ u
same_fault q u e = cc

module _ {S : Type 0} (tree : S → Option Contents) (weak : S → List Path) (faults : S → ℕ) (calls : S → Calls) (root : Path) where
  -- a worker's tree failed so
  record Failed (s r : S) (fault : Fault) : Type 0 where
    rose : Rose (faults s) (faults r)
    reported : IfSome (tree s) (λ t. MayFail (weak s) t fault × FailsSince (calls s) (calls r) (path_of fault))

  failed_at : (p : Run) (kind : Kind) (a b : Worker) (f : Findings) (given got : Option S) (fault : Fault) → f.fault ≡ Some fault → GivesTree tree weak faults calls root p kind a b f given got
      → (s : S) × (r : S) × (given ≡ Some s) × (got ≡ Some r) × Failed s r fault
  failed_at p kind a b f None None fault is h = absurd (let bad : None ≡ Some fault = sym h.2 ∙ is in cc)
  failed_at p kind a b f None (Some r) fault is h = absurd h
  failed_at p kind a b f (Some s) None fault is h = absurd h
  failed_at p kind a b f (Some s) (Some r) fault is h = (
    s,
    r,
    refl,
    refl,
    record {
      rose = fault_rose (faults s) (faults r) fault f.fault is h.2.counts;
      reported = reported_on (tree s) (CalledOnly kind (weak s) (calls s) (calls r) f.visits.items f.fault f.lost 0 a b) (λ t. MayFail (weak s) t fault × FailsSince (calls s) (calls r) (path_of fault))
          (λ t l. let k = subst (λ (o : Option Fault). CalledOnly kind (weak s) (calls s) (calls r) f.visits.items o f.lost 0 a b t) is l in
          (k.may, failed_since kind k.paths (path_of fault) (calls s) (calls r) k.made)) h.2.reported;
    },
  )

  module _ (walkers n : ℕ) (threads : List Worker) (findings : List Findings) (old mid new : List (Option S)) (o : Option Contents) (stop : Option ℕ) (shows : AllShow tree o old)
      (found : Each (IsFoundBy tree weak faults calls root walkers n threads old mid) findings) (own : S) (is_own : slice_index_or old n None ≡ Some own)
      (above : (i : ℕ) (d : Option S) → n ≤ i → slice_index_or mid i d ≡ slice_index_or old i d)
      (others : (i : ℕ) (d : Option S) → (i ≡ n → ⊥) → slice_index_or new i d ≡ slice_index_or mid i d) where
    caused_by : (fault : Fault) → Some fault ≡ first_fault findings → IfSome (tree own) (λ t. IsUnder t root (kind_of fault) (path_of fault)) → IsCausedAt tree weak faults calls root old new (path_of fault)
    caused_by fault is_fault under =
        let k = first_failed findings fault (sym is_fault) in
        let w = found k.0 k.1 k.2 in
        let f = failed_at w.run (kind_at walkers k.0) w.first w.last k.1 (tree_at n old k.0) (tree_at n mid k.0) fault k.3 w.gives in
        let low : k.0 < n = ltb-true k.0 n (low_by (nat_lt k.0 n) (slice_index_or old k.0 None) f.0 f.2) in
        let was = sym (tree_there n old k.0 low) ∙ f.2 in
        let under_here = subst (λ (q : Option Contents). IfSome q (λ t. IsUnder t root (kind_of fault) (path_of fault))) (shows n own is_own ∙ sym (shows k.0 f.0 was)) under in
        record {
          place = k.0;
          s = f.0;
          was = was;
          r = f.1;
          is = others k.0 None (λ z. omega arith) ∙ (sym (tree_there n mid k.0 low) ∙ f.3);
          rose = f.4.rose;
          reported = reported_both (tree f.0) (λ t. MayFail (weak f.0) t fault × FailsSince (calls f.0) (calls f.1) (path_of fault)) (λ t. IsUnder t root (kind_of fault) (path_of fault))
              (λ t. IsFaultUnder t root (weak f.0) (path_of fault) × FailsSince (calls f.0) (calls f.1) (path_of fault))
              (λ t m u. (record { kind = kind_of fault; under = u; may = m.0 }, m.1)) f.4.reported under_here;
        }

    -- a path that is answered was made to fail by a worker or by the closing walk
    caused : (fault : Option Fault) (path : Path) → fault ≡ first_fault findings → Deciding tree weak faults calls root stop fault (ReadFault path) (slice_index_or mid n None) (slice_index_or new n None)
        → IsCausedAt tree weak faults calls root old new path
    caused None path is_fault ends =
        let h = ends own (above n None (omega arith) ∙ is_own) in
        record {
          place = n;
          s = own;
          was = is_own;
          r = h.0;
          is = h.1;
          rose = h.4.rises.1;
          reported = reported_both (tree own) (λ t. IsFaultUnder t root (weak own) path) (λ t. (calls h.0).failed ≡ (calls own).failed ++ path ∷ []) (λ t. IsFaultUnder t root (weak own) path × FailsSince (calls own) (calls h.0) path)
              (λ t f e. (f, fails_since path (calls own) (calls h.0) e)) h.4.answers h.4.failed;
        }
    caused (Some fault) path is_fault ends =
        let h = ends own (above n None (omega arith) ∙ is_own) in
        ⊎_elim
        (λ (e : ReadFault path ≡ Memory). absurd (no_memory path e))
        (λ (e : (ReadFault path ≡ ReadFault (path_of fault)) × IfSome (tree own) (λ t. IsUnder t root (kind_of fault) (path_of fault))).
        subst (IsCausedAt tree weak faults calls root old new) (sym (same_fault path (path_of fault) e.0)) (caused_by fault is_fault e.1))
        h.4.cases

-- of whatever the closing walk answered
module _ {S : Type 0} (tree : S → Option Contents) (weak : S → List Path) (faults : S → ℕ) (calls : S → Calls) (root : Path) (walkers n : ℕ) (closed : Ended IndexValue Share Path) (findings : List Findings)
    (old mid new : List (Option S)) (stop : Option ℕ) (fault : Option Fault) (is_fault : fault ≡ first_fault findings) (found : Each (IsFoundBy tree weak faults calls root walkers n closed.threads old mid) findings)
    (own : S) (is_own : slice_index_or old n None ≡ Some own) (above : (i : ℕ) (d : Option S) → n ≤ i → slice_index_or mid i d ≡ slice_index_or old i d)
    (others : (i : ℕ) (d : Option S) → (i ≡ n → ⊥) → slice_index_or new i d ≡ slice_index_or mid i d) where
  abbrev Decides : WalkAnswer → Type 0
  Decides answer = Deciding tree weak faults calls root stop fault answer (slice_index_or mid n None) (slice_index_or new n None)

  back : n ≤ length findings → (answer : WalkAnswer) → Decides answer → AreBack tree weak faults calls n old new
  back many = are_back tree weak faults calls root walkers n closed.threads findings old mid new stop fault many found above others

  pub trees_after : n ≤ length findings → (answer : WalkAnswer) → Decides answer → TreesAfter tree weak faults calls walkers n old new (answer_of answer closed)
  trees_after many (Done piece) ends = (back many (Done piece) ends, are_used tree weak faults calls root walkers n closed.threads findings old mid new stop fault many found above others piece is_fault own is_own ends)
  trees_after many (Stopped m) ends = back many (Stopped m) ends
  trees_after many (ReadFault path) ends = back many (ReadFault path) ends
  trees_after many (TooMany m) ends = back many (TooMany m) ends
  trees_after many Memory ends = are_left tree weak faults calls root walkers n closed.threads findings old mid new stop fault many found above others Memory own is_own ends

  pub has_cause : (o : Option Contents) → AllShow tree o old → (answer : WalkAnswer) → Decides answer → HasCause tree weak faults calls root old new (answer_of answer closed)
  has_cause o shows (Done piece) ends = tt
  has_cause o shows (Stopped m) ends = tt
  has_cause o shows (ReadFault path) ends = caused tree weak faults calls root walkers n closed.threads findings old mid new o stop shows found own is_own above others fault path is_fault ends
  has_cause o shows (TooMany m) ends = tt
  has_cause o shows Memory ends = tt
