-- What the share of a walker says, from turn to turn.
use Rattle.std.proofs.Common.{◌≡◌, List, [], ◌∷◌, ◌++◌, sym, ap, subst, ◌∙◌, refl, arith}
use Rattle.std.specs.Prelude.{Contains, All}
use Rattle.std.proofs.lemmas.List.{map-append}
use Rattle.std.proofs.lemmas.Option.{same_Some}
use Rattle.std.proofs.lemmas.List.Elements.{All-append, All-cons, All-nil, All-weaker, Contains-append_left, Contains-append_right}
use Rattle.firefly_outside.specs.Trees.{Path}
use Rattle.walker.proofs.ListLemmas.{Contains-map}
use Rattle.walker.specs.Listings.{IsListingOf}
use Rattle.walker.specs.Pile.{AreApart}
use Rattle.walker.specs.declared.listing.Listing.{Listing}
use Rattle.index_findings.specs.Visits.{IsFoundDir, IsFoundFile, dirs_listed}
use Rattle.index_findings.specs.declared.findings.Findings.{Findings}
use Rattle.index_findings.specs.declared.findings.Visit.{Visit}
use Rattle.index_rule.specs.Children.{IsChildOf, one_parent}
use Rattle.index_rule.specs.Counting.{all_at, all_from, contains_head, contains_nil, contains_one, distinct_append, distinct_cons, distinct_left, distinct_nil, distinct_right}
use Rattle.index_rule.specs.Distinct.{AreDistinct}
use Rattle.index_rule.specs.Shares.{Share, IsChildOfTook, blank, paths_put, paths_taken}
use Rattle.indexer.specs.Gets.{Gets, Grows, MayGive, OfShare, moved_more, nothing}
use Rattle.indexer.specs.Hands.{IsLeft}
use Rattle.indexer.specs.States.{HasWalked, KeepsListing}
use Rattle.indexer.specs.Turns.{Worker, Run, IsBetween}
use Rattle.indexer.proofs.Getting.{gets_before, of_after}

pub walked_none : (root : Path) → HasWalked root [] blank
walked_none root = record {
  lawful = All-nil (λ (v : Visit). IsListingOf v.dir v.listing);
  once = distinct_nil;
  took = All-nil (Contains blank.took);
  dirs = All-nil (IsFoundDir []);
  files = All-nil (IsFoundFile []);
  no_pieces = refl;
  no_merges = refl;
}

-- directories were taken, or nothing was done
pub walked_took : (root : Path) (vs : List Visit) (gone : List Path) (s r : Share) → Grows root (moved_more gone []) s r → HasWalked root vs s → HasWalked root vs r
walked_took root vs gone s r grows was = record {
  lawful = was.lawful;
  once = was.once;
  took = All-weaker (Contains s.took) (Contains r.took) (λ d h. subst (λ l. Contains l d) (sym grows.took) (Contains-append_right gone s.took d h)) (dirs_listed vs) was.took;
  dirs = subst (All (IsFoundDir vs)) (sym grows.put) was.dirs;
  files = subst (All (IsFoundFile vs)) (sym grows.files_put) was.files;
  no_pieces = grows.pieces_put ∙ was.no_pieces;
  no_merges = grows.pieces_taken ∙ was.no_merges;
}

-- the directories found in a listing that was kept are its directory's children
found_dir_child : (vs : List Visit) → All (λ v. IsListingOf v.dir v.listing) vs → (p : Path) → IsFoundDir vs p → (dir : Path) × Contains (dirs_listed vs) dir × IsChildOf p dir
found_dir_child vs lawful p f =
    let v = f.visit in
    let l = all_at (λ (w : Visit). IsListingOf w.dir w.listing) vs v lawful f.among in
    (v.dir, Contains-map (λ (w : Visit). w.dir) vs v f.among, l.children p (Contains-append_left v.listing.dirs.items v.listing.files.items p f.found))

found_file_child : (vs : List Visit) → All (λ v. IsListingOf v.dir v.listing) vs → (p : Path) → IsFoundFile vs p → (dir : Path) × Contains (dirs_listed vs) dir × IsChildOf p dir
found_file_child vs lawful p f =
    let v = f.visit in
    let l = all_at (λ (w : Visit). IsListingOf w.dir w.listing) vs v lawful f.among in
    (v.dir, Contains-map (λ (w : Visit). w.dir) vs v f.among, l.children p (Contains-append_right v.listing.dirs.items v.listing.files.items p f.found))

-- children of a directory that wasn't taken before may be put
module _ (root : Path) (vs : List Visit) (dir : Path) (s r : Share) (was : HasWalked root vs s) (new : ¬ Contains s.took dir) (grows : Grows root (moved_more (dir ∷ []) []) s r) where
  child_of : (ps : List Path) → ((p : Path) → Contains ps p → IsChildOf p dir) → All (IsChildOfTook r) ps
  child_of ps children = all_from (IsChildOfTook r) ps (λ p h. record { dir = dir; took = subst (λ l. Contains l dir) (sym grows.took) (contains_head dir s.took); is = children p h })

  not_of : (p d : Path) → Contains (dirs_listed vs) d → IsChildOf p d → ¬ IsChildOf p dir
  not_of p d listed is also = new (subst (Contains s.took) (one_parent p d dir is also) (all_at (Contains s.took) (dirs_listed vs) d was.took listed))

  pub may_give : (l : Listing) → IsListingOf dir l → MayGive root l.dirs.items l.files.items r
  may_give l lawful = record {
    dirs = record {
      from = child_of l.dirs.items (λ p h. lawful.children p (Contains-append_left l.dirs.items l.files.items p h));
      once = distinct_left l.dirs.items l.files.items lawful.distinct;
      new = λ p h k.
          let f = found_dir_child vs was.lawful p (all_at (IsFoundDir vs) s.put p was.dirs (subst (λ q. Contains q p) grows.put k)) in
          not_of p f.0 f.1 f.2 (lawful.children p (Contains-append_left l.dirs.items l.files.items p h));
    };
    files = record {
      from = child_of l.files.items (λ p h. lawful.children p (Contains-append_right l.dirs.items l.files.items p h));
      once = distinct_right l.dirs.items l.files.items lawful.distinct;
      new = λ p h k.
          let f = found_file_child vs was.lawful p (all_at (IsFoundFile vs) (paths_put root 1 s) p was.files (subst (λ q. Contains q p) grows.files_put k)) in
          not_of p f.0 f.1 f.2 (lawful.children p (Contains-append_right l.dirs.items l.files.items p h));
    };
  }

  -- its listing was kept, and some of what was found there was put
  pub walked_gave : (ws : List Visit) (ds fs put files : List Path) (u : Share) → KeepsListing dir vs ws ds fs → Grows root (record nothing { put = put; files_put = files }) r u → All (Contains ds) put → All (Contains fs) files → HasWalked root ws u
  walked_gave ws ds fs put files u kept more of_dirs of_files =
      let v : Visit = record { dir = dir; listing = kept.listing } in
      let lists : dirs_listed ws ≡ dirs_listed vs ++ dir ∷ [] = ap dirs_listed kept.kept ∙ map-append (λ (w : Visit). w.dir) vs (v ∷ []) in
      let last : Contains ws v = subst (λ q. Contains q v) (sym kept.kept) (Contains-append_right vs (v ∷ []) v (contains_head v [])) in
      let old : (w : Visit) → Contains vs w → Contains ws w = λ w h. subst (λ q. Contains q w) (sym kept.kept) (Contains-append_left vs (v ∷ []) w h) in
      let tooks : u.took ≡ dir ∷ s.took = more.took ∙ grows.took in
      record {
        lawful = subst (All (λ (w : Visit). IsListingOf w.dir w.listing)) (sym kept.kept)
            (All-append (λ (w : Visit). IsListingOf w.dir w.listing) vs (v ∷ []) was.lawful (All-cons (λ (w : Visit). IsListingOf w.dir w.listing) v [] kept.lawful (All-nil (λ (w : Visit). IsListingOf w.dir w.listing))));
        once = subst AreDistinct (sym lists) (distinct_append (dirs_listed vs) (dir ∷ []) was.once (distinct_cons dir [] (contains_nil dir) distinct_nil)
            (λ p h k. new (subst (Contains s.took) (sym (contains_one dir p k)) (all_at (Contains s.took) (dirs_listed vs) p was.took h))));
        took = subst (All (Contains u.took)) (sym lists) (All-append (Contains u.took) (dirs_listed vs) (dir ∷ [])
            (All-weaker (Contains s.took) (Contains u.took) (λ p h. subst (λ q. Contains q p) (sym tooks) (Contains-append_right (dir ∷ []) s.took p h)) (dirs_listed vs) was.took)
            (All-cons (Contains u.took) dir [] (subst (λ q. Contains q dir) (sym tooks) (contains_head dir s.took)) (All-nil (Contains u.took))));
        dirs = subst (All (IsFoundDir ws)) (sym (more.put ∙ ap (λ q. put ++ q) grows.put)) (All-append (IsFoundDir ws) put s.put
            (All-weaker (Contains ds) (IsFoundDir ws) (λ p h. record { visit = v; among = last; found = subst (λ q. Contains q p) kept.dirs h }) put of_dirs)
            (All-weaker (IsFoundDir vs) (IsFoundDir ws) (λ p f. record { visit = f.visit; among = old f.visit f.among; found = f.found }) s.put was.dirs));
        files = subst (All (IsFoundFile ws)) (sym (more.files_put ∙ ap (λ q. files ++ q) grows.files_put)) (All-append (IsFoundFile ws) files (paths_put root 1 s)
            (All-weaker (Contains fs) (IsFoundFile ws) (λ p h. record { visit = v; among = last; found = subst (λ q. Contains q p) kept.files h }) files of_files)
            (All-weaker (IsFoundFile vs) (IsFoundFile ws) (λ p f. record { visit = f.visit; among = old f.visit f.among; found = f.found }) (paths_put root 1 s) was.files));
        no_pieces = more.pieces_put ∙ (grows.pieces_put ∙ was.no_pieces);
        no_merges = more.pieces_taken ∙ (grows.pieces_taken ∙ was.no_merges);
      }

-- the same of a thread
pub may_give_of : (p : Run) (vs : List Visit) (dir : Path) (l : Listing) (a b : Worker) → IsBetween p a → Gets p (moved_more (dir ∷ []) []) a b → OfShare a (λ s. ¬ Contains s.took dir) → OfShare a (HasWalked p.world vs) → IsListingOf dir l
    → OfShare b (MayGive p.world l.dirs.items l.files.items)
may_give_of p vs dir l a b between gets new was lawful =
    of_after p (moved_more (dir ∷ []) []) a b (λ (s : Share). HasWalked p.world vs s × (¬ Contains s.took dir)) (MayGive p.world l.dirs.items l.files.items) between gets (λ s at. (was s at, new s at))
    (λ s r grows h. may_give p.world vs dir s r h.0 h.1 grows l lawful)

pub may_give_as : (p : Run) (vs : List Visit) (dir : Path) (ds fs es gs : List Path) (b : Worker) → ds ≡ es → fs ≡ gs → OfShare b (MayGive p.world ds fs) → OfShare b (MayGive p.world es gs)
may_give_as p vs dir ds fs es gs b e f may = subst (λ l. OfShare b (MayGive p.world l gs)) e (subst (λ l. OfShare b (MayGive p.world ds l)) f may)

pub walked_end : (p : Run) (vs : List Visit) (gone : List Path) (a b c : Worker) → IsBetween p a → Gets p (moved_more gone []) a b → Gets p nothing b c → OfShare a (HasWalked p.world vs) → OfShare c (HasWalked p.world vs)
walked_end p vs gone a b c between first second was =
    of_after p (moved_more gone []) a c (HasWalked p.world vs) (HasWalked p.world vs) between (gets_before p (moved_more gone []) a b c first second) was (λ s r grows h. walked_took p.world vs gone s r grows h)

pub walked_found : (p : Run) (vs ws : List Visit) (dir : Path) (ds fs put files : List Path) (a b c : Worker) → IsBetween p a → Gets p (moved_more (dir ∷ []) []) a b → OfShare a (λ s. ¬ Contains s.took dir) → OfShare a (HasWalked p.world vs)
    → KeepsListing dir vs ws ds fs → Gets p (record nothing { put = put; files_put = files }) b c → All (Contains ds) put → All (Contains fs) files → OfShare c (HasWalked p.world ws)
walked_found p vs ws dir ds fs put files a b c between first new was kept second of_dirs of_files u at =
    let s = between.1 in
    let own = between.2.share in
    let r = first s own in
    let v = second r.0 r.1 in
    subst (HasWalked p.world ws) (same_Some v.0 u (sym v.1 ∙ at)) (walked_gave p.world vs dir s r.0 (was s own) (new s own) r.2 ws ds fs put files v.0 kept v.2 of_dirs of_files)

-- what a walker leaves
pub walked_left : (root : Path) (f : Findings) (s : Share) → f.pieces.items ≡ [] → HasWalked root f.visits.items s → IsLeft root [] f s
walked_left root f s none was = record {
  has = record {
    once = was.once;
    took = was.took;
    dirs = was.dirs;
    files = was.files;
    apart = subst AreApart (sym none) (λ i j d below within. absurd (omega arith));
    held = λ p h. absurd (contains_nil h.covered.piece (subst (λ l. Contains l h.covered.piece) none h.covered.among));
  };
  read = λ kept. record {
    once = distinct_nil;
    took = All-nil (Contains (paths_taken root 1 s));
    kept = λ p h. absurd (contains_nil p h);
    put = λ p h. absurd (contains_nil p (subst (λ l. Contains l p) was.no_pieces h));
    made = λ p h. absurd (contains_nil h.covered.piece (subst (λ l. Contains l h.covered.piece) none h.covered.among));
    merged = λ p h. absurd (contains_nil p (subst (λ l. Contains l p) was.no_merges h));
  };
}
