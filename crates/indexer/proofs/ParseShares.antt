-- What the share of a parser says, from turn to turn.
use Rattle.std.proofs.Common.{◌≡◌, ◌⊎◌, ◌↔◌, ℕ, ◌+◌, ◌≤◌, ◌<◌, Bool, true, false, not, ◌||◌, List, [], ◌∷◌, ◌++◌, Option, Some, None, map, inl, inr, sym, ap, subst, ◌∙◌, refl, ⊎_elim, arith, append-nil, append_assoc, zero, suc}
use Rattle.std.specs.Prelude.{Contains, All}
use Rattle.std.specs.List.{flat_map}
use Rattle.std.proofs.lemmas.List.Concat.{flat_map-append}
use Rattle.std.proofs.lemmas.List.Elements.{All-append, All-cons, All-head, All-nil, All-tail, All-weaker, Contains-append_cases, Contains-append_left, Contains-append_right}
use Rattle.firefly_outside.specs.Trees.{Calls, Path, Contents, child}
use Rattle.walker.proofs.Children.{child_name}
use Rattle.walker.proofs.ListLemmas.{AllPairs-head, AllPairs-nil, AllPairs-tail, Contains-map, Contains-unmap, Distinct-map}
use Rattle.walker.specs.Pile.{AreApart}
use Rattle.word_index.specs.Index.{Index, IsRising, Meet}
use Rattle.word_index.proofs.Searches.{not_below}
use Rattle.std.proofs.lemmas.List.Kept.{AllPairs-cons}
use Rattle.index_findings.specs.ReadFiles.{AreRead, IsDue, IsReadAt}
use Rattle.index_findings.specs.declared.read_files.ReadFiles.{ReadFiles}
use Rattle.std.specs.Prelude.{IfSome, IsTrue, vec_len}
use Rattle.std.proofs.lemmas.List.{nil_from_length}
use Rattle.index_findings.specs.Pieces.{IsCovered, IsFilesPiece}
use Rattle.index_findings.specs.Rest.{IsCoveredFile}
use Rattle.index_findings.specs.Visits.{IsFoundDir, IsFoundFile}
use Rattle.index_findings.specs.declared.findings.Findings.{Findings}
use Rattle.index_findings.specs.declared.findings.Visit.{Visit}
use Rattle.index_findings.specs.declared.read_files.ReadFile.{ReadFile}
use Rattle.index_rule.specs.Children.{IsBelow}
use Rattle.index_rule.specs.Counting.{all_at, all_from, contains_cons_cases, contains_head, contains_nil, contains_one, contains_times, distinct_across, distinct_append, distinct_cons, distinct_left, distinct_nil, distinct_right, distinct_times, in_all, in_one, times, times-append, times_contains, times_distinct}
use Rattle.index_rule.specs.Distinct.{AreDistinct}
use Rattle.index_rule.specs.Shares.{Share, MayPut, blank, covered, paths_put, paths_taken}
use Rattle.index_rule.specs.declared.value.IndexItem.TheVariants.{Piece}
use Rattle.indexer.specs.Gets.{Gets, Grows, IsNewFile, OfShare, nothing}
use Rattle.indexer.proofs.Getting.{of_after}
use Rattle.indexer.specs.Hands.{IsLeft}
use Rattle.indexer.specs.States.{HasGathered, IsPassedOn, MayPutPieces, ReadsInto, accounted, lot_paths}
use Rattle.indexer.specs.Turns.{Worker, Run, IsBetween}

-- the paths in their three places
acc_times : (root : Path) (loaded : List Path) (kept : List Index) (s : Share) (p : Path) → times p (accounted root loaded kept s) ≡ times p loaded + (times p (flat_map (covered root) kept) + times p (paths_put root 2 s))
acc_times root loaded kept s p = times-append p loaded (flat_map (covered root) kept ++ paths_put root 2 s) ∙ ap (λ n. times p loaded + n) (times-append p (flat_map (covered root) kept) (paths_put root 2 s))

pub gathered_none : (root : Path) → HasGathered root [] [] [] false blank
gathered_none root = record {
  once = distinct_nil;
  took = All-nil (Contains (paths_taken root 1 blank));
  below = All-nil (IsBelow root);
  files_once = distinct_nil;
  files_took = All-nil (Contains (paths_taken root 1 blank));
  same = λ lost p. refl;
  no_dirs = refl;
  no_files = refl;
  no_merges = refl;
}

-- where no path is accounted for more often than before, and as often unless something was lost
module _ (root : Path) (loaded then_lot : List Path) (kept then_kept : List Index) (files : List Path) (lost then_lost : Bool) (s r : Share) (was : HasGathered root loaded kept files lost s) where
  gathered_less : ((p : Path) → Contains (paths_taken root 1 s) p → Contains (paths_taken root 1 r) p) → r.put ≡ s.put → paths_put root 1 r ≡ paths_put root 1 s → paths_taken root 2 r ≡ paths_taken root 2 s
      → All (IsBelow root) then_lot → ((p : Path) → times p (accounted root then_lot then_kept r) ≤ times p (accounted root loaded kept s))
      → (then_lost ≡ false → (lost ≡ false) × ((p : Path) → times p (accounted root then_lot then_kept r) ≡ times p (accounted root loaded kept s))) → HasGathered root then_lot then_kept files then_lost r
  gathered_less taken put files_put merged below most same = record {
    once = times_distinct (accounted root then_lot then_kept r) (λ p. let one = distinct_times p (accounted root loaded kept s) was.once in let less = most p in omega arith);
    took = all_from (Contains (paths_taken root 1 r)) (accounted root then_lot then_kept r) (λ p h.
        let one = contains_times p (accounted root then_lot then_kept r) h in
        let less = most p in
        taken p (all_at (Contains (paths_taken root 1 s)) (accounted root loaded kept s) p was.took (times_contains p (accounted root loaded kept s) (omega arith))));
    below = below;
    files_once = was.files_once;
    files_took = All-weaker (Contains (paths_taken root 1 s)) (Contains (paths_taken root 1 r)) taken files was.files_took;
    same = λ none p. let k = same none in was.same k.0 p ∙ sym (k.1 p);
    no_dirs = put ∙ was.no_dirs;
    no_files = files_put ∙ was.no_files;
    no_merges = merged ∙ was.no_merges;
  }

-- files were taken, or nothing was done
pub gathered_took : (root : Path) (loaded : List Path) (kept : List Index) (files taken : List Path) (lost : Bool) (s r : Share) → Grows root (record nothing { files_taken = taken }) s r → HasGathered root loaded kept files lost s → HasGathered root loaded kept files lost r
gathered_took root loaded kept files taken lost s r grows was =
    let same : (p : Path) → times p (accounted root loaded kept r) ≡ times p (accounted root loaded kept s) = λ p. ap (λ l. times p (loaded ++ (flat_map (covered root) kept ++ l))) grows.pieces_put in
    gathered_less root loaded loaded kept kept files lost lost s r was (λ p h. subst (λ l. Contains l p) (sym grows.files_taken) (Contains-append_right taken (paths_taken root 1 s) p h)) grows.put grows.files_put grows.pieces_taken was.below
    (λ p. let e = same p in omega arith) (λ none. (none, same))

-- a file was read into the read files, or lost, or not read
module _ (root : Path) (loaded : List Path) (kept : List Index) (files : List Path) (s r : Share) (path : Path) (was : HasGathered root loaded kept files false s) (new : IsNewFile root path s) (grows : Grows root (record nothing { files_taken = path ∷ [] }) s r) where
  here : HasGathered root loaded kept files false r
  here = gathered_took root loaded kept files (path ∷ []) false s r grows was

  first : Contains (paths_taken root 1 r) path
  first = subst (λ l. Contains l path) (sym grows.files_taken) (contains_head path (paths_taken root 1 s))

  not_read : ¬ Contains files path
  not_read h = new.new (all_at (Contains (paths_taken root 1 s)) files path was.files_took h)

  not_had : ¬ Contains (accounted root loaded kept r) path
  not_had h = new.new (all_at (Contains (paths_taken root 1 s)) (accounted root loaded kept s) path was.took (subst (λ l. Contains (loaded ++ (flat_map (covered root) kept ++ l)) path) grows.pieces_put h))

  more_once : AreDistinct (files ++ path ∷ [])
  more_once = distinct_append files (path ∷ []) was.files_once (distinct_cons path [] (contains_nil path) distinct_nil) (λ p h k. not_read (subst (Contains files) (sym (contains_one path p k)) h))

  more_took : All (Contains (paths_taken root 1 r)) (files ++ path ∷ [])
  more_took = All-append (Contains (paths_taken root 1 r)) files (path ∷ []) here.files_took (All-cons (Contains (paths_taken root 1 r)) path [] first (All-nil (Contains (paths_taken root 1 r))))

  pub gathered_into : (lost : Bool) → HasGathered root (loaded ++ path ∷ []) kept (files ++ path ∷ []) lost r
  gathered_into lost = record {
    once = times_distinct (accounted root (loaded ++ path ∷ []) kept r) (λ p.
        let most = distinct_times p (path ∷ accounted root loaded kept r) (distinct_cons path (accounted root loaded kept r) not_had here.once) in
        let e = longer p in
        omega arith);
    took = all_from (Contains (paths_taken root 1 r)) (accounted root (loaded ++ path ∷ []) kept r) (λ p h.
        let one = contains_times p (accounted root (loaded ++ path ∷ []) kept r) h in
        let e = longer p in
        ⊎_elim
        (λ (is : path ≡ p). subst (Contains (paths_taken root 1 r)) is first)
        (λ (k : Contains (accounted root loaded kept r) p). all_at (Contains (paths_taken root 1 r)) (accounted root loaded kept r) p here.took k)
        (contains_cons_cases path (accounted root loaded kept r) p (times_contains p (path ∷ accounted root loaded kept r) (omega arith))));
    below = All-append (IsBelow root) loaded (path ∷ []) was.below (All-cons (IsBelow root) path [] new.below (All-nil (IsBelow root)));
    files_once = more_once;
    files_took = more_took;
    same = λ none p. let a = times-append p files (path ∷ []) in let b = here.same refl p in let e = longer p in let f = times-append p (path ∷ []) (accounted root loaded kept r) in omega arith;
    no_dirs = here.no_dirs;
    no_files = here.no_files;
    no_merges = here.no_merges;
  }
    where
      longer : (p : Path) → times p (accounted root (loaded ++ path ∷ []) kept r) ≡ times p (path ∷ accounted root loaded kept r)
      longer p =
          let a = acc_times root (loaded ++ path ∷ []) kept r p in
          let b = acc_times root loaded kept r p in
          let d = times-append p loaded (path ∷ []) in
          let e = times-append p (path ∷ []) (accounted root loaded kept r) in
          omega arith

  -- read, and lost
  gathered_lost : HasGathered root loaded kept (files ++ path ∷ []) true r
  gathered_lost = record {
    once = here.once;
    took = here.took;
    below = here.below;
    files_once = more_once;
    files_took = more_took;
    same = λ none p. absurd (cc);
    no_dirs = here.no_dirs;
    no_files = here.no_files;
    no_merges = here.no_merges;
  }

  gathered_as : (lost : Bool) → HasGathered root loaded kept files lost r
  gathered_as lost = record {
    once = here.once;
    took = here.took;
    below = here.below;
    files_once = here.files_once;
    files_took = here.files_took;
    same = λ none. here.same refl;
    no_dirs = here.no_dirs;
    no_files = here.no_files;
    no_merges = here.no_merges;
  }

  pub gathered_read : (then_lot more : List Path) (lost : Bool) → ReadsInto path loaded then_lot more lost → HasGathered root then_lot kept (files ++ more) lost r
  gathered_read then_lot more lost reads = ⊎_elim
      (λ (x : (more ≡ path ∷ []) × (then_lot ≡ loaded ++ path ∷ [])).
      subst (λ l. HasGathered root then_lot kept (files ++ l) lost r) (sym x.0) (subst (λ l. HasGathered root l kept (files ++ path ∷ []) lost r) (sym x.1) (gathered_into lost)))
      (λ (x : (then_lot ≡ loaded) × ((more ≡ []) ⊎ ((more ≡ path ∷ []) × (lost ≡ true)))).
      subst (λ l. HasGathered root l kept (files ++ more) lost r) (sym x.0) (⊎_elim
      (λ (none : more ≡ []). subst (λ l. HasGathered root loaded kept (files ++ l) lost r) (sym none) (subst (λ l. HasGathered root loaded kept l lost r) (sym (append-nil files)) (gathered_as lost)))
      (λ (y : (more ≡ path ∷ []) × (lost ≡ true)). subst (λ l. HasGathered root loaded kept (files ++ l) lost r) (sym y.0) (subst (λ b. HasGathered root loaded kept (files ++ path ∷ []) b r) (sym y.1) gathered_lost))
      x.1))
      reads

-- two lists without repetition that have the same paths
pub times_same : (p : Path) (xs ys : List Path) → AreDistinct xs → AreDistinct ys → (Contains xs p → Contains ys p) → (Contains ys p → Contains xs p) → times p xs ≡ times p ys
times_same p xs ys a b f g =
    let most_x = distinct_times p xs a in
    let most_y = distinct_times p ys b in
    ⊎_elim
    (λ (none : times p xs ≤ 0). ⊎_elim
    (λ (also : times p ys ≤ 0). omega arith)
    (λ (one : 1 ≤ times p ys). let bad = contains_times p xs (g (times_contains p ys one)) in absurd (omega arith))
    (low (times p ys)))
    (λ (one : 1 ≤ times p xs). let also = contains_times p ys (f (times_contains p xs one)) in omega arith)
    (low (times p xs))
  where
    low : (n : ℕ) → (n ≤ 0) ⊎ (1 ≤ n)
    low zero = inl (omega arith)
    low (suc n) = inr (omega arith)

-- the files of pieces that have no file twice and none in common
covered_once : (root : Path) (x : Index) → IsRising x.paths → AreDistinct (covered root x)
covered_once root x rising = Distinct-map (child root) x.paths (λ n m h k same. child_name root n m same) (λ i j d below within same. not_below _ _ same (rising i j d below within))

pub pieces_once : (root : Path) (ps : List Index) → All (IsFilesPiece None root) ps → AreApart ps → AreDistinct (flat_map (covered root) ps)
pieces_once root [] each apart = distinct_nil
pieces_once root (x ∷ ps) each apart =
    distinct_append (covered root x) (flat_map (covered root) ps) (covered_once root x (All-head (IsFilesPiece None root) x ps each).index.ordered.paths)
    (pieces_once root ps (All-tail (IsFilesPiece None root) x ps each) (AllPairs-tail (λ a b. ¬ Meet a b) x ps apart))
    (λ p h k.
    let a = Contains-unmap (child root) x.paths p h in
    let o = in_one (covered root) ps p k in
    let b = Contains-unmap (child root) o.one.paths p o.is in
    let same : b.origin ≡ a.origin = child_name root b.origin a.origin (b.is ∙ sym a.is) in
    all_at (λ y. ¬ Meet x y) ps o.one (AllPairs-head (λ a b. ¬ Meet a b) x ps apart) o.among (a.origin, a.among, subst (Contains o.one.paths) same b.among))

-- and the other way round
pub apart_of : (root : Path) (ps : List Index) → AreDistinct (flat_map (covered root) ps) → AreApart ps
apart_of root [] once = AllPairs-nil (λ a b. ¬ Meet a b)
apart_of root (x ∷ ps) once = AllPairs-cons (λ a b. ¬ Meet a b) x ps
    (all_from (λ y. ¬ Meet x y) ps (λ y among meet.
    distinct_across (covered root x) (flat_map (covered root) ps) (child root meet.0) once (Contains-map (child root) x.paths meet.0 meet.1) (in_all (covered root) ps y (child root meet.0) among (Contains-map (child root) y.paths meet.0 meet.2))))
    (apart_of root ps (distinct_right (covered root x) (flat_map (covered root) ps) once))

-- a file that pieces cover is among those of the pieces
pub file_covered : (root : Path) (ps : List Index) (p : Path) → IsCoveredFile root ps p → Contains (flat_map (covered root) ps) p
file_covered root ps p h = in_all (covered root) ps h.covered.piece p h.covered.among (subst (Contains (covered root h.covered.piece)) (sym h.is) (Contains-map (child root) h.covered.piece.paths h.name h.covered.covers))

pub covered_file : (root : Path) (ps : List Index) (p : Path) → Contains (flat_map (covered root) ps) p → IsCoveredFile root ps p
covered_file root ps p h =
    let o = in_one (covered root) ps p h in
    let u = Contains-unmap (child root) o.one.paths p o.is in
    record { name = u.origin; is = sym u.is; covered = record { piece = o.one; among = o.among; covers = u.among } }

-- pieces made of a list of read files have its files
pub lot_same : (root : Path) (files : List ReadFile) (ps : List Index) → AreDistinct (lot_paths files) → All (IsBelow root) (lot_paths files) → All (IsFilesPiece None root) ps → AreApart ps → ((q : Path) → IsCovered ps q ↔ IsReadAt root files q)
    → (p : Path) → times p (flat_map (covered root) ps) ≡ times p (lot_paths files)
lot_same root files ps once below each apart covers p =
    times_same p (flat_map (covered root) ps) (lot_paths files) (pieces_once root ps each apart) once
    (λ h.
    let f = covered_file root ps p h in
    let r = (covers f.name).0 f.covered in
    subst (Contains (lot_paths files)) (r.is ∙ sym f.is) (Contains-map (λ (g : ReadFile). g.path) files r.read r.among))
    (λ h.
    let u = Contains-unmap (λ (g : ReadFile). g.path) files p h in
    let b = all_at (IsBelow root) (lot_paths files) p below h in
    file_covered root ps p (record { name = b.0; is = b.1; covered = (covers b.0).1 (record { read = u.origin; among = u.among; is = u.is ∙ b.1 }) }))

-- pieces made of a list of read files may be put
pub may_pass : (root : Path) (loaded : List Path) (kept : List Index) (files : List Path) (lost : Bool) (s : Share) (ps : List Index) → HasGathered root loaded kept files lost s → ((p : Path) → times p (flat_map (covered root) ps) ≡ times p loaded) → MayPutPieces root ps s
may_pass root loaded kept files lost s ps was same = record {
  took = all_from (Contains (paths_taken root 1 s)) (flat_map (covered root) ps) (λ p h.
      let one = contains_times p (flat_map (covered root) ps) h in
      let e = same p in
      let a = acc_times root loaded kept s p in
      all_at (Contains (paths_taken root 1 s)) (accounted root loaded kept s) p was.took (times_contains p (accounted root loaded kept s) (omega arith)));
  once = times_distinct (flat_map (covered root) ps) (λ p. let e = same p in let a = acc_times root loaded kept s p in let most = distinct_times p (accounted root loaded kept s) was.once in omega arith);
  new = λ p h k.
      let one = contains_times p (flat_map (covered root) ps) h in
      let two = contains_times p (paths_put root 2 s) k in
      let e = same p in
      let a = acc_times root loaded kept s p in
      let most = distinct_times p (accounted root loaded kept s) was.once in
      omega arith;
}

or_left : (a b : Bool) → (a || b) ≡ false → (a ≡ false) × (b ≡ false)
or_left true b e = absurd (cc)
or_left false b e = (refl, e)

not_false : (b : Bool) → not b ≡ false → b ≡ true
not_false true e = refl
not_false false e = absurd (cc)

-- they were given on
pub gathered_passed : (root : Path) (loaded : List Path) (kept new : List Index) (files put : List Path) (lost all : Bool) (s r : Share) (ps : List Index) → HasGathered root loaded kept files lost s → ((p : Path) → times p (flat_map (covered root) ps) ≡ times p loaded)
    → Grows root (record nothing { pieces_put = put }) s r → IsPassedOn root (flat_map (covered root) ps) put kept new all → HasGathered root [] new files (lost || not all) r
gathered_passed root loaded kept new files put lost all s r ps was made grows passed =
    gathered_less root loaded [] kept new files lost (lost || not all) s r was (λ p h. subst (λ l. Contains l p) (sym grows.files_taken) h) grows.put grows.files_put grows.pieces_taken (All-nil (IsBelow root))
    (λ p. let a = acc_times root [] new r p in let b = acc_times root loaded kept s p in let e = made p in let m = passed.most p in let g = ap (times p) grows.pieces_put in let h = times-append p put (paths_put root 2 s) in omega arith)
    (λ none. let both = or_left lost (not all) none in (
      both.0,
      λ p.
          let a = acc_times root [] new r p in let b = acc_times root loaded kept s p in let e = made p in let m = passed.same (not_false all both.1) p in let g = ap (times p) grows.pieces_put in let h = times-append p put (paths_put root 2 s) in omega arith,
    ))

-- or lost
pub gathered_without : (root : Path) (loaded : List Path) (kept : List Index) (files : List Path) (lost : Bool) (s r : Share) → HasGathered root loaded kept files lost s → Grows root nothing s r → HasGathered root [] kept files (lost || not false) r
gathered_without root loaded kept files lost s r was grows =
    gathered_less root loaded [] kept kept files lost (lost || not false) s r was (λ p h. subst (λ l. Contains l p) (sym grows.files_taken) h) grows.put grows.files_put grows.pieces_taken (All-nil (IsBelow root))
    (λ p. let a = acc_times root [] kept r p in let b = acc_times root loaded kept s p in let g = ap (times p) grows.pieces_put in omega arith)
    (λ none. let both = or_left lost (not false) none in absurd (cc))

-- nothing was lost
pub gathered_still : (root : Path) (loaded : List Path) (kept : List Index) (files : List Path) (lost : Bool) (s : Share) → HasGathered root loaded kept files lost s → HasGathered root loaded kept files (lost || not true) s
gathered_still root loaded kept files true s was = was
gathered_still root loaded kept files false s was = was

-- a piece that the buffer took, that was kept, or that was lost
pub passed_put : (root : Path) (x : Index) (kept : List Index) → IsPassedOn root (covered root x) (covered root x) kept kept true
passed_put root x kept = record { among = all_from (Contains (covered root x)) (covered root x) (λ p h. h); most = λ p. omega arith; same = λ all p. omega arith }

pub passed_kept : (root : Path) (x : Index) (kept new : List Index) → new ≡ kept ++ x ∷ [] → IsPassedOn root (covered root x) [] kept new true
passed_kept root x kept new is = record { among = All-nil (Contains (covered root x)); most = λ p. let e = longer p in omega arith; same = λ all p. let e = longer p in omega arith }
  where
    longer : (p : Path) → times p (flat_map (covered root) new) ≡ times p (flat_map (covered root) kept) + times p (covered root x)
    longer p =
        ap (λ l. times p (flat_map (covered root) l)) is ∙ (ap (times p) (flat_map-append (covered root) kept (x ∷ []))
        ∙ (times-append p (flat_map (covered root) kept) (covered root x ++ []) ∙ ap (λ l. times p (flat_map (covered root) kept) + times p l) (append-nil (covered root x))))

pub passed_lost : (root : Path) (x : Index) (kept new : List Index) → new ≡ kept → IsPassedOn root (covered root x) [] kept new false
passed_lost root x kept new is = record { among = All-nil (Contains (covered root x)); most = λ p. let e = ap (λ l. times p (flat_map (covered root) l)) is in omega arith; same = λ all p. absurd (cc) }

-- pieces are given on one after the other
pub may_piece : (root : Path) (x : Index) (rest : List Index) (s : Share) → MayPutPieces root (x ∷ rest) s → MayPut root 2 (Piece x) s
may_piece root x rest s may = record {
  kind = refl;
  from = all_from (Contains (paths_taken root 1 s)) (covered root x) (λ p h. all_at (Contains (paths_taken root 1 s)) (flat_map (covered root) (x ∷ rest)) p may.took (Contains-append_left (covered root x) (flat_map (covered root) rest) p h));
  once = distinct_left (covered root x) (flat_map (covered root) rest) may.once;
  new = λ p h k. may.new p (Contains-append_left (covered root x) (flat_map (covered root) rest) p h) k;
}

pub may_later : (root : Path) (x : Index) (rest old new : List Index) (put : List Path) (all : Bool) (s r : Share) → IsPassedOn root (covered root x) put old new all → Grows root (record nothing { pieces_put = put }) s r → MayPutPieces root (x ∷ rest) s → MayPutPieces root rest r
may_later root x rest old new put all s r passed grows may = record {
  took = all_from (Contains (paths_taken root 1 r)) (flat_map (covered root) rest) (λ p h.
      subst (λ l. Contains l p) (sym grows.files_taken) (all_at (Contains (paths_taken root 1 s)) (flat_map (covered root) (x ∷ rest)) p may.took (Contains-append_right (covered root x) (flat_map (covered root) rest) p h)));
  once = distinct_right (covered root x) (flat_map (covered root) rest) may.once;
  new = λ p h k. ⊎_elim
      (λ (here : Contains put p). distinct_across (covered root x) (flat_map (covered root) rest) p may.once (all_at (Contains (covered root x)) put p passed.among here) h)
      (λ (there : Contains (paths_put root 2 s) p). may.new p (Contains-append_right (covered root x) (flat_map (covered root) rest) p h) there)
      (Contains-append_cases put (paths_put root 2 s) p (subst (λ l. Contains l p) grows.pieces_put k));
}

-- some of the pieces were given on, and these are left
pub record IsUnderWay (root : Path) (all rest : List Index) (put : List Path) (old kept : List Index) : Type 0 where
  pub among : All (Contains (flat_map (covered root) all)) put
  pub left : All (Contains (flat_map (covered root) all)) (flat_map (covered root) rest)
  pub same : (p : Path) → times p (flat_map (covered root) kept) + (times p put + times p (flat_map (covered root) rest)) ≡ times p (flat_map (covered root) all) + times p (flat_map (covered root) old)

pub way_begins : (root : Path) (all old : List Index) → IsUnderWay root all all [] old old
way_begins root all old = record { among = All-nil (Contains (flat_map (covered root) all)); left = all_from (Contains (flat_map (covered root) all)) (flat_map (covered root) all) (λ p h. h); same = λ p. omega arith }

module _ (root : Path) (all rest : List Index) (x : Index) (put more : List Path) (old kept new : List Index) (was : IsUnderWay root all (x ∷ rest) put old kept) where
  both_among : (b : Bool) → IsPassedOn root (covered root x) more kept new b → All (Contains (flat_map (covered root) all)) (more ++ put)
  both_among b passed = All-append (Contains (flat_map (covered root) all)) more put
      (All-weaker (Contains (covered root x)) (Contains (flat_map (covered root) all)) (λ p h. all_at (Contains (flat_map (covered root) all)) (flat_map (covered root) (x ∷ rest)) p was.left (Contains-append_left (covered root x) (flat_map (covered root) rest) p h)) more passed.among) was.among

  pub way_on : IsPassedOn root (covered root x) more kept new true → IsUnderWay root all rest (more ++ put) old new
  way_on passed = record {
    among = both_among true passed;
    left = all_from (Contains (flat_map (covered root) all)) (flat_map (covered root) rest) (λ p h. all_at (Contains (flat_map (covered root) all)) (flat_map (covered root) (x ∷ rest)) p was.left (Contains-append_right (covered root x) (flat_map (covered root) rest) p h));
    same = λ p. let a = was.same p in let b = passed.same refl p in let d = times-append p (covered root x) (flat_map (covered root) rest) in let e = times-append p more put in omega arith;
  }

  pub way_lost : IsPassedOn root (covered root x) more kept new false → IsPassedOn root (flat_map (covered root) all) (more ++ put) old new false
  way_lost passed = record {
    among = both_among false passed;
    most = λ p. let a = was.same p in let b = passed.most p in let d = times-append p (covered root x) (flat_map (covered root) rest) in let e = times-append p more put in omega arith;
    same = λ all p. absurd (cc);
  }

pub way_ends : (root : Path) (all : List Index) (put : List Path) (old kept : List Index) → IsUnderWay root all [] put old kept → IsPassedOn root (flat_map (covered root) all) put old kept true
way_ends root all put old kept was = record { among = was.among; most = λ p. let a = was.same p in omega arith; same = λ all p. let a = was.same p in omega arith }

-- what a parser leaves
pub gathered_left : (root : Path) (f : Findings) (files : List Path) (s : Share) → f.visits.items ≡ [] → HasGathered root [] f.pieces.items files f.lost s → IsLeft root files f s
gathered_left root f files s none was =
    let once : AreDistinct (flat_map (covered root) f.pieces.items ++ paths_put root 2 s) = was.once in
    record {
      has = record {
        once = subst (λ (vs : List Visit). AreDistinct (map (λ v. v.dir) vs)) (sym none) distinct_nil;
        took = subst (λ (vs : List Visit). All (Contains s.took) (map (λ v. v.dir) vs)) (sym none) (All-nil (Contains s.took));
        dirs = subst (All (IsFoundDir f.visits.items)) (sym was.no_dirs) (All-nil (IsFoundDir f.visits.items));
        files = subst (All (IsFoundFile f.visits.items)) (sym was.no_files) (All-nil (IsFoundFile f.visits.items));
        apart = apart_of root f.pieces.items (distinct_left (flat_map (covered root) f.pieces.items) (paths_put root 2 s) once);
        held = λ p h.
            let k = file_covered root f.pieces.items p h in
            inr (
              all_at (Contains (paths_taken root 1 s)) (accounted root [] f.pieces.items s) p was.took (Contains-append_left (flat_map (covered root) f.pieces.items) (paths_put root 2 s) p k),
              distinct_across (flat_map (covered root) f.pieces.items) (paths_put root 2 s) p once k,
            );
      };
      read = λ kept. record {
        once = was.files_once;
        took = was.files_took;
        kept = λ p h.
            let e = was.same kept p in
            let one = contains_times p files h in
            ⊎_elim
            (λ (k : Contains (flat_map (covered root) f.pieces.items) p). inl (covered_file root f.pieces.items p k))
            (λ (k : Contains (paths_put root 2 s) p). inr k)
            (Contains-append_cases (flat_map (covered root) f.pieces.items) (paths_put root 2 s) p (times_contains p (accounted root [] f.pieces.items s) (omega arith)));
        put = λ p h.
            let e = was.same kept p in
            let one = contains_times p (accounted root [] f.pieces.items s) (Contains-append_right (flat_map (covered root) f.pieces.items) (paths_put root 2 s) p h) in
            times_contains p files (omega arith);
        made = λ p h.
            let e = was.same kept p in
            let one = contains_times p (accounted root [] f.pieces.items s) (Contains-append_left (flat_map (covered root) f.pieces.items) (paths_put root 2 s) p (file_covered root f.pieces.items p h)) in
            inl (times_contains p files (omega arith));
        merged = λ p h. absurd (contains_nil p (subst (λ l. Contains l p) was.no_merges h));
      };
    }

-- the same of a thread
pub gets_pieces : (p : Run) (ps qs : List Path) (a b c : Worker) → Gets p (record nothing { pieces_put = ps }) a b → Gets p (record nothing { pieces_put = qs }) b c → Gets p (record nothing { pieces_put = qs ++ ps }) a c
gets_pieces p ps qs a b c first second s at =
    let r = first s at in
    let u = second r.0 r.1 in (
      u.0,
      u.1,
      record {
        took = u.2.took ∙ r.2.took;
        put = u.2.put ∙ r.2.put;
        files_put = u.2.files_put ∙ r.2.files_put;
        files_taken = u.2.files_taken ∙ r.2.files_taken;
        pieces_put = u.2.pieces_put ∙ (ap (λ l. qs ++ l) r.2.pieces_put ∙ sym (append_assoc qs ps (paths_put p.world 2 s)));
        pieces_taken = u.2.pieces_taken ∙ r.2.pieces_taken;
      },
    )

pub may_left : (p : Run) (x : Index) (rest old new : List Index) (put : List Path) (all : Bool) (a b : Worker) → IsBetween p a → Gets p (record nothing { pieces_put = put }) a b → IsPassedOn p.world (covered p.world x) put old new all
    → OfShare a (MayPutPieces p.world (x ∷ rest)) → OfShare b (MayPutPieces p.world rest)
may_left p x rest old new put all a b between gets passed may =
    of_after p (record nothing { pieces_put = put }) a b (MayPutPieces p.world (x ∷ rest)) (MayPutPieces p.world rest) between gets may (λ s r grows h. may_later p.world x rest old new put all s r passed grows h)

module _ (p : Run) (loaded : List Path) (kept : List Index) (files : List Path) (lost : Bool) (a b : Worker) (between : IsBetween p a) where
  -- nothing was done with the read files
  pub share_still : OfShare a (HasGathered p.world loaded kept files lost) → OfShare a (HasGathered p.world loaded kept files (lost || not true))
  share_still was s at = gathered_still p.world loaded kept files lost s (was s at)

  pub share_took : (taken : List Path) → Gets p (record nothing { files_taken = taken }) a b → OfShare a (HasGathered p.world loaded kept files lost) → OfShare b (HasGathered p.world loaded kept files lost)
  share_took taken gets was = of_after p (record nothing { files_taken = taken }) a b (HasGathered p.world loaded kept files lost) (HasGathered p.world loaded kept files lost) between gets was (λ s r grows h. gathered_took p.world loaded kept files taken lost s r grows h)

  pub share_without : Gets p nothing a b → OfShare a (HasGathered p.world loaded kept files lost) → OfShare b (HasGathered p.world [] kept files (lost || not false))
  share_without gets was = of_after p nothing a b (HasGathered p.world loaded kept files lost) (HasGathered p.world [] kept files (lost || not false)) between gets was (λ s r grows h. gathered_without p.world loaded kept files lost s r h grows)

  pub share_passed : (new : List Index) (put : List Path) (all : Bool) (ps : List Index) → ((s : Share) → HasGathered p.world loaded kept files lost s → (q : Path) → times q (flat_map (covered p.world) ps) ≡ times q loaded) → Gets p (record nothing { pieces_put = put }) a b
      → IsPassedOn p.world (flat_map (covered p.world) ps) put kept new all → OfShare a (HasGathered p.world loaded kept files lost) → OfShare b (HasGathered p.world [] new files (lost || not all))
  share_passed new put all ps made gets passed was = of_after p (record nothing { pieces_put = put }) a b (HasGathered p.world loaded kept files lost) (HasGathered p.world [] new files (lost || not all)) between gets was
      (λ s r grows h. gathered_passed p.world loaded kept new files put lost all s r ps h (made s h) grows passed)

-- a file was taken, and read into the read files or not
pub share_read : (p : Run) (loaded then_lot : List Path) (kept : List Index) (files more taken : List Path) (path : Path) (lost : Bool) (a b : Worker) → IsBetween p a → taken ≡ path ∷ [] → Gets p (record nothing { files_taken = taken }) a b → OfShare a (IsNewFile p.world path)
    → ReadsInto path loaded then_lot more lost → OfShare a (HasGathered p.world loaded kept files false) → OfShare b (HasGathered p.world then_lot kept (files ++ more) lost)
share_read p loaded then_lot kept files more taken path lost a b between is gets new reads was =
    of_after p (record nothing { files_taken = path ∷ [] }) a b (λ (s : Share). HasGathered p.world loaded kept files false s × IsNewFile p.world path s) (HasGathered p.world then_lot kept (files ++ more) lost) between
    (subst (λ l. Gets p (record nothing { files_taken = l }) a b) is gets) (λ s at. (was s at, new s at)) (λ s r grows h. gathered_read p.world loaded kept files s r path h.0 h.1 grows then_lot more lost reads)

-- the pieces that were made of a list of read files
pub made_of : (w root : Path) (loaded made : List ReadFile) (ps : List Index) (kept : List Index) (files : List Path) (lost : Bool) (s : Share) → root ≡ w → made ≡ loaded → ((o : Option Contents) → AreRead o made → All (IsFilesPiece o root) ps)
    → ((q : Path) → IsCovered ps q ↔ IsReadAt root made q) → (AreDistinct (lot_paths made) → AreApart ps) → HasGathered w (lot_paths loaded) kept files lost s → (p : Path) → times p (flat_map (covered w) ps) ≡ times p (lot_paths loaded)
made_of w root loaded made ps kept files lost s is same pieces covers apart was p =
    let once = distinct_left (lot_paths loaded) (flat_map (covered w) kept ++ paths_put w 2 s) was.once in
    let read : AreRead None made = λ k d within. tt in
    lot_same w loaded ps once was.below (subst (λ r. All (IsFilesPiece None r) ps) is (pieces None read)) (apart (subst (λ l. AreDistinct (lot_paths l)) (sym same) once))
    (λ q. (λ h. subst (λ l. IsReadAt w l q) same (subst (λ r. IsReadAt r made q) is ((covers q).0 h)), λ h. (covers q).1 (subst (λ r. IsReadAt r made q) (sym is) (subst (λ l. IsReadAt w l q) (sym same) h)))) p

-- the last list that isn't due is empty
pub not_due : (loaded : ReadFiles) (last due : Bool) → due ≡ false → (IsTrue due ↔ IsDue loaded last) → IsTrue last → loaded.files.items ≡ []
not_due loaded last due off says end = nil_from_length loaded.files.items (⊎_elim
    (λ (none : vec_len loaded.files ≤ 0). let e = loaded.files.ok.0 in omega arith)
    (λ (some : 0 < vec_len loaded.files). let on : due ≡ true = says.1 (some, inl end) in absurd (cc))
    (some_or_none (vec_len loaded.files)))
  where
    some_or_none : (n : ℕ) → (n ≤ 0) ⊎ (0 < n)
    some_or_none zero = inl (omega arith)
    some_or_none (suc n) = inr (omega arith)

pub nothing_read : (tree : Option Contents) (calls : Calls) → IfSome tree (λ t. calls.files_read ≡ calls.files_read ++ [])
nothing_read None calls = tt
nothing_read (Some t) calls = sym (append-nil calls.files_read)

pub read_on : (o tree : Option Contents) (start mid last : Calls) (files more : List Path) → o ≡ tree → IfSome tree (λ t. mid.files_read ≡ start.files_read ++ files) → IfSome o (λ t. last.files_read ≡ mid.files_read ++ more) → IfSome tree (λ t. last.files_read ≡ start.files_read ++ (files ++ more))
read_on o None start mid last files more same a b = tt
read_on o (Some t) start mid last files more same a b =
    let c : last.files_read ≡ mid.files_read ++ more = subst (λ u. IfSome u (λ t. last.files_read ≡ mid.files_read ++ more)) same b in
    c ∙ (ap (λ l. l ++ more) a ∙ append_assoc start.files_read files more)
