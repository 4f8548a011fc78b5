-- What all threads came by, together.
use Rattle.std.proofs.Common.{◌≡◌, ◌⊎◌, ℕ, ◌<◌, List, [], ◌∷◌, ◌++◌, length, suc, true, inl, inr, sym, ap, subst, ◌∙◌, ⊎_elim, refl, arith, Contains, AllPairs}
use Rattle.std.specs.Prelude.{◌↔◌}
use Rattle.std.specs.List.{flat_map}
use Rattle.std.proofs.lemmas.List.{map-append}
use mathlib.Core.Option.{some, some-injective}
use lib.ListN.{get_elem?}
use Rattle.firefly_outside.specs.Trees.{Path, child}
use Rattle.walker.specs.Pile.{AreApart}
use Rattle.walker.proofs.ListLemmas.{AllPairs-append, AllPairs-nil}
use Rattle.word_index.specs.Index.{Index, Meet}
use Rattle.index_findings.specs.declared.findings.Findings.{Findings}
use Rattle.index_findings.specs.declared.findings.Visit.{Visit}
use Rattle.index_findings.specs.Rest.{IsCoveredFile}
use Rattle.index_findings.specs.Visits.{AreFound, AreVisits, IsFoundDir, IsFoundFile, dirs_listed}
use Rattle.index_rule.specs.Closing.{took_by_one, took_from, files_by_one, files_from, pieces_from, pieces_read, held_by_one, all_pieces_taken}
use Rattle.index_rule.specs.Counting.{all_at, contains_nil}
use Rattle.index_rule.specs.Distinct.{AreDistinct}
use Rattle.index_rule.specs.Shares.{Share, IsHeldBy, paths_put, paths_taken}
use Rattle.index_rule.specs.Sharing.{IsAt, at_one, of_all}
use Rattle.index_rule.specs.Work.{KeepsWork}
use Rattle.index_rule.specs.declared.value.IndexValue.{IndexValue}
use Rattle.bounded_buffer.specs.Plain.{part_of}
use Rattle.indexer.specs.Hands.{HasRead, HasShare, IsStill}
use Rattle.indexer.specs.Once.{joined}

-- where each part is so, and so are elements of different parts, all are so
pairs_over : {X Y : Type 0} (R : Y → Y → Type 0) (f : X → List Y) (xs : List X) → ((i : ℕ) (x : X) → get_elem? xs i ≡ some x → AllPairs R (f x))
    → ((i j : ℕ) (x z : X) (a b : Y) → get_elem? xs i ≡ some x → get_elem? xs j ≡ some z → (i ≡ j → ⊥) → Contains (f x) a → Contains (f z) b → R a b) → AllPairs R (flat_map f xs)
pairs_over R f [] each across = AllPairs-nil R
pairs_over R f (x ∷ xs) each across = AllPairs-append R (f x) (flat_map f xs) (each 0 x refl)
    (pairs_over R f xs (λ i y e. each (suc i) y e) (λ i j y z a b e g ne. across (suc i) (suc j) y z a b e g (λ same. ne (omega arith))))
    (λ a b first later.
    let o = at_one f xs b later in
    across 0 (suc o.place) x o.one a b refl o.at (λ same. omega arith) first o.is)

one_less : {i j : ℕ} → suc i ≡ suc j → i ≡ j
one_less same = omega arith

pub dirs_over : (all : List Findings) → dirs_listed (flat_map (λ f. f.visits.items) all) ≡ flat_map (λ f. dirs_listed f.visits.items) all
dirs_over [] = refl
dirs_over (f ∷ all) = map-append (λ (v : Visit). v.dir) f.visits.items (flat_map (λ (g : Findings). g.visits.items) all) ∙ ap (λ l. dirs_listed f.visits.items ++ l) (dirs_over all)

abbrev pub visits_of : List Findings → List Visit
visits_of all = flat_map (λ f. f.visits.items) all

abbrev pub pieces_of : List Findings → List Index
pieces_of all = flat_map (λ f. f.pieces.items) all

dir_found : (all : List Findings) (i : ℕ) (f : Findings) (p : Path) → get_elem? all i ≡ some f → IsFoundDir f.visits.items p → IsFoundDir (visits_of all) p
dir_found all i f p at h = record { visit = h.visit; among = of_all (λ (g : Findings). g.visits.items) all i f h.visit at h.among; found = h.found }

file_found : (all : List Findings) (i : ℕ) (f : Findings) (p : Path) → get_elem? all i ≡ some f → IsFoundFile f.visits.items p → IsFoundFile (visits_of all) p
file_found all i f p at h = record { visit = h.visit; among = of_all (λ (g : Findings). g.visits.items) all i f h.visit at h.among; found = h.found }

-- the thread after the place, which is the caller's at 0, came by this, and this is its share
pub record IsCameBy (root : Path) (shares : List Share) (i : ℕ) (f : Findings) : Type 0 where
  pub share : Share
  pub at : get_elem? shares (suc i) ≡ some share
  pub has : HasShare root f share

-- whose share it is
pub record IsOfWorker (root : Path) (all : List Findings) (s : Share) : Type 0 where
  pub place : ℕ
  pub found : Findings
  pub at : get_elem? all place ≡ some found
  pub has : HasShare root found s

nothing_in : {X : Type 0} (xs : List X) (x : X) → xs ≡ [] → Contains xs x → ⊥
nothing_in {X} xs x none h = contains_nil x (subst (λ (l : List X). Contains l x) none h)

module _ (root : Path) (values : List IndexValue) (shares : List Share) (keeps : KeepsWork root values shares) (many : 2 < length values) (all : List Findings)
    (each : (i : ℕ) (f : Findings) → get_elem? all i ≡ some f → IsCameBy root shares i f)
    (whole : (i : ℕ) (s : Share) → get_elem? shares i ≡ some s → IsStill root s ⊎ IsOfWorker root all s) where
  took_apart : (i j : ℕ) (f g : Findings) (p q : Path) → get_elem? all i ≡ some f → get_elem? all j ≡ some g → (i ≡ j → ⊥) → Contains (dirs_listed f.visits.items) p → Contains (dirs_listed g.visits.items) q → p ≡ q → ⊥
  took_apart i j f g p q at to ne h k same =
      let c = each i f at in
      let d = each j g to in
      ne (one_less (took_by_one root values shares keeps (suc i) (suc j) c.share d.share p c.at d.at (all_at (Contains c.share.took) (dirs_listed f.visits.items) p c.has.took h)
      (subst (Contains d.share.took) (sym same) (all_at (Contains d.share.took) (dirs_listed g.visits.items) q d.has.took k))))

  found_or_root : (p : Path) → Contains (flat_map (λ (f : Findings). dirs_listed f.visits.items) all) p → (p ≡ root) ⊎ IsFoundDir (visits_of all) p
  found_or_root p h =
      let o = at_one (λ (f : Findings). dirs_listed f.visits.items) all p h in
      let c = each o.place o.one o.at in
      ⊎_elim
      (λ (is : p ≡ root). inl is)
      (λ (put : IsAt (λ (s : Share). s.put) shares p).
      ⊎_elim
      (λ (still : IsStill root put.one). absurd (nothing_in put.one.put p still.dirs put.is))
      (λ (w : IsOfWorker root all put.one). inr (dir_found all w.place w.found p w.at (all_at (IsFoundDir w.found.visits.items) put.one.put p w.has.dirs put.is)))
      (whole put.place put.one put.at))
      (took_from root values shares keeps (suc o.place) c.share p c.at (all_at (Contains c.share.took) (dirs_listed o.one.visits.items) p c.has.took o.is))

  -- no directory was listed twice, and each was found in a listing
  pub visits_once : AreVisits root (visits_of all)
  visits_once = record {
    once = subst (AllPairs (λ p q. p ≡ q → ⊥)) (sym (dirs_over all))
        (pairs_over (λ p q. p ≡ q → ⊥) (λ (f : Findings). dirs_listed f.visits.items) all (λ i f at. (each i f at).has.once) (λ i j f g p q at to ne h k. took_apart i j f g p q at to ne h k));
    found = λ p h. found_or_root p (subst (λ (ps : List Path). Contains ps p) (dirs_over all) h);
  }

  held_at : (i : ℕ) (f : Findings) (x : Index) (q : Path) → (at : get_elem? all i ≡ some f) → Contains f.pieces.items x → Contains x.paths q → IsHeldBy root (each i f at).share (child root q)
  held_at i f x q at among covers = (each i f at).has.held (child root q) (record { name = q; is = refl; covered = record { piece = x; among = among; covers = covers } })

  -- no two pieces have a file in common
  pub pieces_apart : AreApart (pieces_of all)
  pieces_apart = pairs_over (λ (a b : Index). ¬ Meet a b) (λ (f : Findings). f.pieces.items) all (λ i f at. (each i f at).has.apart)
      (λ i j f g a b at to ne h k meet.
      let c = each i f at in
      let d = each j g to in
      ne (one_less (held_by_one root values shares keeps many (suc i) (suc j) c.share d.share (child root meet.0) c.at d.at (held_at i f a meet.0 at h meet.1) (held_at j g b meet.0 to k meet.2))))

  taken_found : (i : ℕ) (s : Share) (p : Path) → get_elem? shares i ≡ some s → Contains (paths_taken root 1 s) p → IsFoundFile (visits_of all) p
  taken_found i s p at h =
      let o = files_from root values shares keeps many i s p at h in
      ⊎_elim
      (λ (still : IsStill root o.one). absurd (nothing_in (paths_put root 1 o.one) p still.files o.is))
      (λ (w : IsOfWorker root all o.one). file_found all w.place w.found p w.at (all_at (IsFoundFile w.found.visits.items) (paths_put root 1 o.one) p w.has.files o.is))
      (whole o.place o.one o.at)

  held_found : (i : ℕ) (s : Share) (p : Path) → get_elem? shares i ≡ some s → IsHeldBy root s p → IsFoundFile (visits_of all) p
  held_found i s p at h = ⊎_elim
      (λ (k : Contains (paths_taken root 2 s) p).
      let o = pieces_from root values shares keeps many i s p at k in
      taken_found o.place o.one p o.at (pieces_read root values shares keeps many o.place o.one p o.at o.is))
      (λ (k : Contains (paths_taken root 1 s) p × (¬ Contains (paths_put root 2 s) p)). taken_found i s p at k.0)
      h

  -- the files of the pieces were found
  pub pieces_found : AreFound root (visits_of all) (pieces_of all)
  pieces_found q h =
      let o = at_one (λ (f : Findings). f.pieces.items) all h.piece h.among in
      let c = each o.place o.one o.at in
      held_found (suc o.place) c.share (child root q) c.at (held_at o.place o.one h.piece q o.at o.is h.covers)

-- the thread after the place came by something and read these files, and this is its share
pub record IsReadBy (root : Path) (shares : List Share) (all : List Findings) (i : ℕ) (files : List Path) : Type 0 where
  pub share : Share
  pub at : get_elem? shares (suc i) ≡ some share
  pub found : Findings
  pub is_found : get_elem? all i ≡ some found
  pub read : HasRead root files found share

-- whose share it is
pub record IsOfReader (root : Path) (all : List Findings) (readings : List (List Path)) (s : Share) : Type 0 where
  pub place : ℕ
  pub found : Findings
  pub at : get_elem? all place ≡ some found
  pub files : List Path
  pub is_read : get_elem? readings place ≡ some files
  pub read : HasRead root files found s

module _ (root : Path) (values : List IndexValue) (shares : List Share) (keeps : KeepsWork root values shares) (many : 2 < length values) (all : List Findings) (readings : List (List Path))
    (each : (i : ℕ) (files : List Path) → get_elem? readings i ≡ some files → IsReadBy root shares all i files)
    (whole : (i : ℕ) (s : Share) → get_elem? shares i ≡ some s → IsStill root s ⊎ IsOfReader root all readings s)
    (found : (i : ℕ) (f : Findings) → get_elem? all i ≡ some f → (files : List Path) × (get_elem? readings i ≡ some files)) where
  -- each file was read once
  pub read_once : AreDistinct (joined readings)
  read_once = pairs_over (λ p q. p ≡ q → ⊥) (λ (ps : List Path). ps) readings (λ i ps at. (each i ps at).read.once)
      (λ i j ps qs p q at to ne h k same.
      let c = each i ps at in
      let d = each j qs to in
      ne (one_less (files_by_one root values shares keeps many (suc i) (suc j) c.share d.share p c.at d.at (all_at (Contains (paths_taken root 1 c.share)) ps p c.read.took h)
      (subst (Contains (paths_taken root 1 d.share)) (sym same) (all_at (Contains (paths_taken root 1 d.share)) qs q d.read.took k)))))

  covered_of : (i : ℕ) (f : Findings) (p : Path) → get_elem? all i ≡ some f → IsCoveredFile root f.pieces.items p → IsCoveredFile root (pieces_of all) p
  covered_of i f p at h = record {
    name = h.name;
    is = h.is;
    covered = record { piece = h.covered.piece; among = of_all (λ (g : Findings). g.pieces.items) all i f h.covered.piece at h.covered.among; covers = h.covered.covers };
  }

  -- what was read is in the pieces that are left, where a merger has seen the end of the buffer
  read_covered : (m : ℕ) (last : Share) → get_elem? shares m ≡ some last → (part_of last.notes 2).seen_end ≡ true → (p : Path) → Contains (joined readings) p → IsCoveredFile root (pieces_of all) p
  read_covered m last at seen p h =
      let o = at_one (λ (ps : List Path). ps) readings p h in
      let c = each o.place o.one o.at in
      ⊎_elim
      (λ (k : IsCoveredFile root c.found.pieces.items p). covered_of o.place c.found p c.is_found k)
      (λ (k : Contains (paths_put root 2 c.share) p).
      let t = all_pieces_taken root values shares keeps many m (suc o.place) last c.share p at c.at seen k in
      ⊎_elim
      (λ (still : IsStill root t.one). absurd (nothing_in (paths_taken root 2 t.one) p still.merges t.is))
      (λ (w : IsOfReader root all readings t.one). covered_of w.place w.found p w.at (w.read.merged p t.is))
      (whole t.place t.one t.at))
      (c.read.kept p o.is)

  of_readings : (i : ℕ) (files : List Path) (p : Path) → get_elem? readings i ≡ some files → Contains files p → Contains (joined readings) p
  of_readings i files p at h = of_all (λ (ps : List Path). ps) readings i files p at h

  -- and these are of no other files
  covered_read : (p : Path) → IsCoveredFile root (pieces_of all) p → Contains (joined readings) p
  covered_read p h =
      let o = at_one (λ (f : Findings). f.pieces.items) all h.covered.piece h.covered.among in
      let r = found o.place o.one o.at in
      let c = each o.place r.0 r.1 in
      let same = some-injective c.found o.one (sym c.is_found ∙ o.at) in
      let own : IsCoveredFile root c.found.pieces.items p = record { name = h.name; is = h.is; covered = record { piece = h.covered.piece; among = subst (λ (f : Findings). Contains f.pieces.items h.covered.piece) (sym same) o.is; covers = h.covered.covers } } in
      ⊎_elim
      (λ (k : Contains r.0 p). of_readings o.place r.0 p r.1 k)
      (λ (k : Contains (paths_taken root 2 c.share) p).
      let t = pieces_from root values shares keeps many (suc o.place) c.share p c.at k in
      ⊎_elim
      (λ (still : IsStill root t.one). absurd (nothing_in (paths_put root 2 t.one) p still.pieces t.is))
      (λ (w : IsOfReader root all readings t.one). of_readings w.place w.files p w.is_read (w.read.put p t.is))
      (whole t.place t.one t.at))
      (c.read.made p own)

  pub read_all : (m : ℕ) (last : Share) → get_elem? shares m ≡ some last → (part_of last.notes 2).seen_end ≡ true → (p : Path) → IsCoveredFile root (pieces_of all) p ↔ Contains (joined readings) p
  read_all m last at seen p = (covered_read p, read_covered m last at seen p)
