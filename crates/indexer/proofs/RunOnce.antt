-- What the workers of a run did together: each directory was listed once, and each file was read once.
use Rattle.std.proofs.Common.{◌≡◌, ◌⊎◌, ℕ, ◌<◌, ◌≤◌, Bool, true, false, zero, suc, List, [], ◌∷◌, ◌++◌, length, map, take, inl, inr, Option, Some, None, cond, nat_lt, ◌||◌, refl, sym, ap, subst, ◌∙◌, arith, Contains}
use Rattle.std.specs.Prelude.{IfSome, remove, slice_index_or}
use Rattle.std.specs.List.{flat_map, list_any}
use Rattle.std.proofs.lemmas.Bool.{lt-ltb, ltb-true}
use Rattle.std.proofs.lemmas.List.{length-map, length-take-le}
use Rattle.std.proofs.lemmas.Option.{same_Some}
use mathlib.Core.Option.{some, some-injective, some-ne-none}
use lib.ListN.{get_elem?}
use Rattle.bounded_buffer.specs.Plain.{part_of}
use Rattle.firefly_outside.specs.Trees.{Path, Contents, Calls}
use Rattle.firefly_outside.specs.declared.tree.Kind.{Kind}
use Rattle.nub_rule.specs.Items.{Each}
use Rattle.nub.specs.Ended.{IsFirst, KeepsLocks}
use Rattle.nub.proofs.Users.{from_at, share_of}
use Rattle.index_findings.specs.declared.findings.Findings.{Findings}
use Rattle.index_findings.specs.Visits.{AreFound, AreVisits, dirs_listed}
use Rattle.walker.specs.Pile.{AreApart}
use Rattle.index_rule.specs.Distinct.{AreDistinct}
use Rattle.index_rule.specs.declared.value.IndexValue.{IndexValue}
use Rattle.index_rule.specs.Shares.{Share, blank}
use Rattle.index_rule.specs.Work.{KeepsWork}
use Rattle.indexer.specs.Gets.{Grows, Makes, OfShare, nothing}
use Rattle.indexer.specs.Hands.{HasRead, HasShare, IsLeft, IsStill}
use Rattle.indexer.specs.Jobs.{GivesTree, HasWorked, kind_at, tree_at}
use Rattle.indexer.specs.Once.{IsWorkedOnce, joined}
use Rattle.indexer.specs.Says.{AllShow}
use Rattle.indexer.specs.Turns.{Worker, Run}
use Rattle.indexer.proofs.CrewBack.{from_map}
use Rattle.indexer.proofs.OnceLaws.{AreChosen, at_take, chosen, joined-take}
use Rattle.indexer.proofs.RunLaws.{no_share, some_at, thread_of, tree_of}
use Rattle.indexer.proofs.Together.{IsCameBy, IsOfReader, IsOfWorker, IsReadBy, dirs_over, pieces_apart, pieces_found, pieces_of, read_all, read_once, visits_of, visits_once}

-- nobody lost anything where not any did
none_lost : (fs : List Findings) → list_any (λ f. f.lost) fs ≡ false → (k : ℕ) (f : Findings) → get_elem? fs k ≡ some f → f.lost ≡ false
none_lost [] none k f at = absurd (some-ne-none f (sym at))
none_lost (g ∷ fs) none zero f at = ap (λ (h : Findings). h.lost) (sym (some-injective g f at)) ∙ first g.lost (list_any (λ h. h.lost) fs) none
  where
    first : (a b : Bool) → (a || b) ≡ false → a ≡ false
    first true b e = e
    first false b e = refl
none_lost (g ∷ fs) none (suc k) f at = none_lost fs (later g.lost (list_any (λ h. h.lost) fs) none) k f at
  where
    later : (a b : Bool) → (a || b) ≡ false → b ≡ false
    later true b e = absurd (cc)
    later false b e = e

still_of : (root : Path) (r : Share) → Grows root nothing blank r → IsStill root r
still_of root r g = record { dirs = g.put; files = g.files_put; pieces = g.pieces_put; merges = g.pieces_taken }

-- after the first n there is no tree
no_tree : {S : Type 0} (n : ℕ) (trees : List (Option S)) (k : ℕ) → n ≤ k → tree_at n trees k ≡ None
no_tree n trees k high = by (nat_lt k n) refl
  where
    by : (b : Bool) → nat_lt k n ≡ b → cond (nat_lt k n) (slice_index_or trees k None) None ≡ None
    by true e = absurd (let low = ltb-true k n e in omega arith)
    by false e = ap (λ b. cond b (slice_index_or trees k None) None) e

tree_is : {S : Type 0} (n : ℕ) (trees : List (Option S)) (k : ℕ) → k < n → tree_at n trees k ≡ slice_index_or trees k None
tree_is n trees k low = ap (λ b. cond b (slice_index_or trees k None) None) (lt-ltb k n low)

module _ {S : Type 0} (tree : S → Option Contents) (weak : S → List Path) (faults : S → ℕ) (calls : S → Calls) (root : Path) (p : Run) where
  -- each worker's share says so
  gives_share : (kind : Kind) (a b : Worker) (f : Findings) (given got : Option S) → GivesTree tree weak faults calls root p kind a b f given got → OfShare b (HasShare p.world f)
  gives_share kind a b f None None h s at = (h.3 s at).has
  gives_share kind a b f (Some u) (Some v) h s at = (h.3.1 s at).has
  gives_share kind a b f None (Some v) h s at = absurd h
  gives_share kind a b f (Some u) None h s at = absurd h

  -- what a worker that lost nothing listed and read
  record Reads (f : Findings) (b : Worker) (t : Contents) (given got : Option S) : Type 0 where
    files : List Path
    left : OfShare b (IsLeft p.world files f)
    made : (s r : S) → given ≡ Some s → got ≡ Some r → ((calls r).files_read ≡ (calls s).files_read ++ files) × ((calls r).listed ≡ (calls s).listed ++ dirs_listed f.visits.items)
    none : given ≡ None → (files ≡ []) × (dirs_listed f.visits.items ≡ [])

  gives_reads : (kind : Kind) (a b : Worker) (f : Findings) (t : Contents) (given got : Option S) → f.lost ≡ false → ((s : S) → given ≡ Some s → tree s ≡ Some t) → GivesTree tree weak faults calls root p kind a b f given got
      → Reads f b t given got
  gives_reads kind a b f t None None kept shows_it h = record { files = []; left = h.3; made = λ s r e g. absurd (cc); none = λ e. (refl, ap dirs_listed h.1) }
  gives_reads kind a b f t (Some u) (Some v) kept shows_it h =
      let reported = subst (λ (o : Option Contents). IfSome o (λ t. ((calls v).files_read ≡ (calls u).files_read ++ h.3.0) × (f.lost ≡ false → (calls v).listed ≡ (calls u).listed ++ dirs_listed f.visits.items))) (shows_it u refl) h.3.2 in
      record {
        files = h.3.0;
        left = h.3.1;
        made = λ s r e g.
            subst (λ (x : S). ((calls r).files_read ≡ (calls x).files_read ++ h.3.0) × ((calls r).listed ≡ (calls x).listed ++ dirs_listed f.visits.items)) (same_Some u s e)
            (subst (λ (x : S). ((calls x).files_read ≡ (calls u).files_read ++ h.3.0) × ((calls x).listed ≡ (calls u).listed ++ dirs_listed f.visits.items)) (same_Some v r g) (reported.0, reported.1 kept));
        none = λ e. absurd (cc);
      }
  gives_reads kind a b f t None (Some v) kept shows_it h = absurd h
  gives_reads kind a b f t (Some u) None kept shows_it h = absurd h

  gives_end : (kind : Kind) (a b : Worker) (f : Findings) (given got : Option S) → given ≡ None → f.lost ≡ false → GivesTree tree weak faults calls root p kind a b f given got
      → OfShare b (λ u. (part_of u.notes 2).seen_end ≡ true)
  gives_end kind a b f None None e kept h = h.4 kept
  gives_end kind a b f (Some u) (Some v) e kept h = absurd (cc)
  gives_end kind a b f None (Some v) e kept h = absurd h
  gives_end kind a b f (Some u) None e kept h = absurd h

  module _ (walkers n : ℕ) (threads : List Worker) (caller last : Worker) (back : List Worker) (findings : List Findings) (old new : List (Option S))
      (firsts : Each (IsFirst p no_share) threads) (own : get_elem? threads 0 ≡ some caller) (called : Makes p nothing caller last)
      (worked : Each (HasWorked tree weak faults calls root p walkers n (remove threads 0) findings old new) back)
      (values : List IndexValue) (three : length values ≡ 3) (keeps : KeepsLocks (KeepsWork p.world) (last ∷ back) values) (many : length findings ≡ length back) where
    -- the worker at a place, with its share
    record At (k : ℕ) (f : Findings) : Type 0 where
      thread : Worker
      at : get_elem? back k ≡ some thread
      was : Worker
      share : Share
      share_at : get_elem? keeps.shares (suc k) ≡ some share
      is_share : thread.share ≡ Some share
      gives : GivesTree tree weak faults calls root p (kind_at walkers k) was thread f (tree_at n old k) (tree_at n new k)

    at_place : (k : ℕ) (f : Findings) → get_elem? findings k ≡ some f → At k f
    at_place k f e =
        let within = (from_at findings k f e).0 in
        let there = some_at back k (omega arith) in
        let w = worked k there.0 there.1 in
        let same : w.found ≡ f = some-injective w.found f (sym w.is_found ∙ e) in
        let s = share_of (last ∷ back) keeps.shares keeps.each_share (suc k) there.0 there.1 in
        record {
          thread = there.0;
          at = there.1;
          was = w.was;
          share = s.0;
          share_at = s.1;
          is_share = s.2;
          gives = subst (λ (g : Findings). GivesTree tree weak faults calls root p (kind_at walkers k) w.was there.0 g (tree_at n old k) (tree_at n new k)) same w.gives;
        }

    came_by : (k : ℕ) (f : Findings) → get_elem? findings k ≡ some f → IsCameBy p.world keeps.shares k f
    came_by k f e = let w = at_place k f e in record { share = w.share; at = w.share_at; has = gives_share (kind_at walkers k) w.was w.thread f (tree_at n old k) (tree_at n new k) w.gives w.share w.is_share }

    -- the caller put nothing
    caller_still : (s : Share) → last.share ≡ Some s → IsStill p.world s
    caller_still s at =
        let r = called.gets blank ((firsts 0 caller own).share) in
        subst (IsStill p.world) (same_Some r.0 s (sym r.1 ∙ at)) (still_of p.world r.0 r.2)

    -- the findings of a thread
    found_of : (k : ℕ) (t : Worker) → get_elem? back k ≡ some t → (f : Findings) × (get_elem? findings k ≡ some f)
    found_of k t at = let within = (from_at back k t at).0 in some_at findings k (omega arith)

    whose : (i : ℕ) (s : Share) → get_elem? keeps.shares i ≡ some s → IsStill p.world s ⊎ IsOfWorker p.world findings s
    whose zero s at =
        let t = thread_of (last ∷ back) keeps.shares keeps.each_share 0 s at in
        inl (caller_still s (ap (λ (u : Worker). u.share) (some-injective last t.0 t.1) ∙ t.2))
    whose (suc k) s at =
        let t = thread_of (last ∷ back) keeps.shares keeps.each_share (suc k) s at in
        let f = found_of k t.0 t.1 in
        let c = came_by k f.0 f.1 in
        inr (record { place = k; found = f.0; at = f.1; has = subst (HasShare p.world f.0) (some-injective c.share s (sym c.at ∙ at)) c.has })

    big : 2 < length values
    big = omega (arith, three)

    pub all_visits_once : AreVisits p.world (visits_of findings)
    all_visits_once = visits_once p.world values keeps.shares keeps.kept big findings came_by whose

    pub all_apart : AreApart (pieces_of findings)
    all_apart = pieces_apart p.world values keeps.shares keeps.kept big findings came_by whose

    pub all_found : AreFound p.world (visits_of findings) (pieces_of findings)
    all_found = pieces_found p.world values keeps.shares keeps.kept big findings came_by whose

    module _ (t : Contents) (shows : AllShow tree (Some t) old) (kept : list_any (λ f. f.lost) findings ≡ false) (merger : n < length findings) where
      reads_at : (k : ℕ) (f : Findings) (e : get_elem? findings k ≡ some f) → let w = at_place k f e in Reads f w.thread t (tree_at n old k) (tree_at n new k)
      reads_at k f e = let w = at_place k f e in
          gives_reads (kind_at walkers k) w.was w.thread f t (tree_at n old k) (tree_at n new k) (none_lost findings kept k f e) (λ s is. shows k s (tree_of n old k s is)) w.gives

      -- these files were read by the worker at the place
      record IsReading (k : ℕ) (files : List Path) : Type 0 where
        by : IsReadBy p.world keeps.shares findings k files
        since : (s r : S) → k < n → slice_index_or old k None ≡ Some s → slice_index_or new k None ≡ Some r → (calls r).files_read ≡ (calls s).files_read ++ files
        none : n ≤ k → files ≡ []

      reading : (k : ℕ) → k < length findings → (files : List Path) × IsReading k files
      reading k low =
          let f = some_at findings k low in
          let w = at_place k f.0 f.1 in
          let r = reads_at k f.0 f.1 in (
            r.files,
            record {
              by = record { share = w.share; at = w.share_at; found = f.0; is_found = f.1; read = (r.left w.share w.is_share).read (none_lost findings kept k f.0 f.1) };
              since = λ s q within was is. (r.made s q (tree_is n old k within ∙ was) (tree_is n new k within ∙ is)).0;
              none = λ high. (r.none (no_tree n old k high)).0;
            },
          )

      readings : AreChosen IsReading (length findings)
      readings = chosen IsReading (length findings) reading

      reading_of : (k : ℕ) → k < length findings → (files : List Path) × (get_elem? readings.list k ≡ some files)
      reading_of k low = some_at readings.list k (let same = readings.many in omega arith)

      whose_reading : (i : ℕ) (s : Share) → get_elem? keeps.shares i ≡ some s → IsStill p.world s ⊎ IsOfReader p.world findings readings.list s
      whose_reading zero s at =
          let u = thread_of (last ∷ back) keeps.shares keeps.each_share 0 s at in
          inl (caller_still s (ap (λ (x : Worker). x.share) (some-injective last u.0 u.1) ∙ u.2))
      whose_reading (suc k) s at =
          let u = thread_of (last ∷ back) keeps.shares keeps.each_share (suc k) s at in
          let f = found_of k u.0 u.1 in
          let r = reading_of k (from_at findings k f.0 f.1).0 in
          let c = (readings.each k r.0 r.1).by in
          inr (record {
            place = k;
            found = c.found;
            at = c.is_found;
            files = r.0;
            is_read = r.1;
            read = subst (HasRead p.world r.0 c.found) (some-injective c.share s (sym c.at ∙ at)) c.read;
          })

      -- the first merger saw the end
      end_seen : (s : Share) × (get_elem? keeps.shares (suc n) ≡ some s) × ((part_of s.notes 2).seen_end ≡ true)
      end_seen =
          let f = some_at findings n merger in
          let w = at_place n f.0 f.1 in
          (w.share, w.share_at, gives_end (kind_at walkers n) w.was w.thread f.0 (tree_at n old n) (tree_at n new n) (no_tree n old n (omega arith)) (none_lost findings kept n f.0 f.1) w.gives w.share w.is_share)

      abbrev dirs_of : List (List Path)
      dirs_of = map (λ (f : Findings). dirs_listed f.visits.items) findings

      dirs_none : (k : ℕ) (ps : List Path) → n ≤ k → get_elem? dirs_of k ≡ some ps → ps ≡ []
      dirs_none k ps high at =
          let o = from_map (λ (f : Findings). dirs_listed f.visits.items) findings k ps at in
          sym o.2 ∙ ((reads_at k o.0 o.1).none (no_tree n old k high)).1

      joined-map : (fs : List Findings) → joined (map (λ (f : Findings). dirs_listed f.visits.items) fs) ≡ flat_map (λ f. dirs_listed f.visits.items) fs
      joined-map [] = refl
      joined-map (f ∷ fs) = ap (λ l. dirs_listed f.visits.items ++ l) (joined-map fs)

      dirs_joined : joined (take n dirs_of) ≡ dirs_listed (visits_of findings)
      dirs_joined = joined-take n dirs_of dirs_none ∙ (joined-map findings ∙ sym (dirs_over findings))

      reads_joined : joined (take n readings.list) ≡ joined readings.list
      reads_joined = joined-take n readings.list (λ k ps high at. (readings.each k ps at).none high)

      pub worked_once : IsWorkedOnce calls p.world n old new (visits_of findings) (pieces_of findings)
      worked_once =
          let seen = end_seen in
          let together = read_all p.world values keeps.shares keeps.kept big findings readings.list (λ i ps at. (readings.each i ps at).by) whose_reading (λ i f at. reading_of i (from_at findings i f at).0) (suc n) seen.0 seen.1 seen.2 in
          record {
            listed = take n dirs_of;
            listed_many = taken dirs_of (length-map findings (λ (f : Findings). dirs_listed f.visits.items));
            listed_since = λ k s r paths low was is at.
                let o = from_map (λ (f : Findings). dirs_listed f.visits.items) findings k paths (at_take n k dirs_of paths at) in
                subst (λ (ps : List Path). (calls r).listed ≡ (calls s).listed ++ ps) o.2 ((reads_at k o.0 o.1).made s r (tree_is n old k low ∙ was) (tree_is n new k low ∙ is)).1;
            listed_once = subst AreDistinct (sym dirs_joined) all_visits_once.once;
            listed_all = λ q. (subst (λ (l : List Path). Contains l q) (sym dirs_joined), subst (λ (l : List Path). Contains l q) dirs_joined);
            read = take n readings.list;
            read_many = taken readings.list readings.many;
            read_since = λ k s r paths low was is at. (readings.each k paths (at_take n k readings.list paths at)).since s r low was is;
            read_once = subst AreDistinct (sym reads_joined) (read_once p.world values keeps.shares keeps.kept big findings readings.list (λ i ps at. (readings.each i ps at).by) whose_reading (λ i f at. reading_of i (from_at findings i f at).0));
            read_all = λ q. ((λ h. subst (λ (l : List Path). Contains l q) (sym reads_joined) ((together q).0 h)), (λ h. (together q).1 (subst (λ (l : List Path). Contains l q) reads_joined h)));
          }
        where
          taken : (ls : List (List Path)) → length ls ≡ length findings → length (take n ls) ≡ n
          taken ls same = length-take-le n ls (let low = merger in omega arith)
