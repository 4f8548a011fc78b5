-- What the share of a merger says, from turn to turn.
use Rattle.std.proofs.Common.{◌≡◌, Bool, true, false, List, [], ◌∷◌, ◌++◌, map, sym, subst, ◌∙◌, refl, ⊎_elim, arith, inl, inr}
use Rattle.std.specs.Prelude.{Contains, All}
use Rattle.std.specs.List.{flat_map}
use Rattle.std.proofs.lemmas.List.Elements.{All-nil, Contains-append_cases, Contains-append_left, Contains-append_right}
use Rattle.firefly_outside.specs.Trees.{Path, child}
use Rattle.walker.proofs.ListLemmas.{AllPairs-append, AllPairs-nil, Contains-map, Contains-unmap}
use Rattle.walker.specs.Pile.{AreApart}
use Rattle.word_index.specs.Index.{Index, Meet}
use Rattle.index_findings.specs.Pieces.{AreMergedFrom}
use Rattle.index_findings.specs.Visits.{IsFoundDir, IsFoundFile}
use Rattle.index_findings.specs.declared.findings.Findings.{Findings}
use Rattle.index_findings.specs.declared.findings.Visit.{Visit}
use Rattle.index_rule.specs.Counting.{contains_head, contains_nil, contains_one, distinct_nil}
use Rattle.index_rule.specs.Distinct.{AreDisjoint, AreDistinct}
use Rattle.index_rule.specs.Shares.{Share, blank, covered, paths_taken}
use Rattle.indexer.specs.Gets.{Gets, Grows, OfShare, nothing}
use Rattle.indexer.specs.Hands.{IsLeft}
use Rattle.indexer.specs.States.{HasMerged}
use Rattle.indexer.specs.Turns.{Worker, Run, IsBetween}
use Rattle.indexer.proofs.Getting.{gets_before, of_after}

pub merged_none : (root : Path) → HasMerged root [] false blank
merged_none root = record {
  apart = AllPairs-nil (λ a b. ¬ Meet a b);
  held = λ name h. absurd (contains_nil h.piece h.among);
  merged = λ lost p h. absurd (contains_nil p h);
  no_dirs = refl;
  no_files = refl;
  no_pieces = refl;
}

module _ (root : Path) (kept : List Index) (s r : Share) where
  -- nothing was taken
  pub merged_same : (lost : Bool) → Grows root nothing s r → HasMerged root kept lost s → HasMerged root kept lost r
  merged_same lost grows was = record {
    apart = was.apart;
    held = λ name h. subst (λ l. Contains l (child root name)) (sym grows.pieces_taken) (was.held name h);
    merged = λ none p h. was.merged none p (subst (λ l. Contains l p) grows.pieces_taken h);
    no_dirs = grows.put ∙ was.no_dirs;
    no_files = grows.files_put ∙ was.no_files;
    no_pieces = grows.pieces_put ∙ was.no_pieces;
  }

  module _ (x : Index) (grows : Grows root (record nothing { pieces_taken = flat_map (covered root) (x ∷ []) }) s r) (was : HasMerged root kept false s) where
    -- a piece was taken, and is lost
    pub merged_lost : HasMerged root kept true r
    merged_lost = record {
      apart = was.apart;
      held = λ name h. subst (λ l. Contains l (child root name)) (sym grows.pieces_taken) (Contains-append_right (flat_map (covered root) (x ∷ [])) (paths_taken root 2 s) (child root name) (was.held name h));
      merged = λ none p h. absurd (cc);
      no_dirs = grows.put ∙ was.no_dirs;
      no_files = grows.files_put ∙ was.no_files;
      no_pieces = grows.pieces_put ∙ was.no_pieces;
    }

    one_more : (p : Path) → Contains (covered root x) p → Contains (flat_map (covered root) (x ∷ [])) p
    one_more p h = Contains-append_left (covered root x) [] p h

    -- it covers no file of those that are kept
    pub apart_more : AreDisjoint (covered root x) (paths_taken root 2 s) → AreApart (kept ++ x ∷ [])
    apart_more new = AllPairs-append (λ a b. ¬ Meet a b) kept (x ∷ []) was.apart (λ i j d below within. absurd (omega (arith, within)))
        (λ a b h k meet.
        let is : x ≡ b = contains_one x b k in
        let here : Contains x.paths meet.0 = subst (λ (y : Index). Contains y.paths meet.0) (sym is) meet.2 in
        new (child root meet.0) (Contains-map (child root) x.paths meet.0 here) (was.held meet.0 (record { piece = a; among = h; covers = meet.1 })))

    -- it was merged with those that are kept
    pub merged_more : (new : List Index) → AreDisjoint (covered root x) (paths_taken root 2 s) → AreMergedFrom (kept ++ x ∷ []) new → HasMerged root new false r
    merged_more new fresh from = record {
      apart = from.apart (apart_more fresh);
      held = λ name h.
          let c = (from.covers name).0 h in
          subst (λ l. Contains l (child root name)) (sym grows.pieces_taken) (⊎_elim
          (λ (k : Contains kept c.piece). Contains-append_right (flat_map (covered root) (x ∷ [])) (paths_taken root 2 s) (child root name) (was.held name (record { piece = c.piece; among = k; covers = c.covers })))
          (λ (k : Contains (x ∷ []) c.piece).
          Contains-append_left (flat_map (covered root) (x ∷ [])) (paths_taken root 2 s) (child root name)
          (one_more (child root name) (Contains-map (child root) x.paths name (subst (λ (y : Index). Contains y.paths name) (sym (contains_one x c.piece k)) c.covers))))
          (Contains-append_cases kept (x ∷ []) c.piece c.among));
      merged = λ none p h. ⊎_elim
          (λ (k : Contains (flat_map (covered root) (x ∷ [])) p).
          let o = Contains-unmap (child root) x.paths p (only p k) in
          record {
            name = o.origin;
            is = sym o.is;
            covered = (from.covers o.origin).1 (record { piece = x; among = Contains-append_right kept (x ∷ []) x (contains_head x []); covers = o.among });
          })
          (λ (k : Contains (paths_taken root 2 s) p).
          let f = was.merged refl p k in
          record { name = f.name; is = f.is; covered = (from.covers f.name).1 (record { piece = f.covered.piece; among = Contains-append_left kept (x ∷ []) f.covered.piece f.covered.among; covers = f.covered.covers }) })
          (Contains-append_cases (flat_map (covered root) (x ∷ [])) (paths_taken root 2 s) p (subst (λ l. Contains l p) grows.pieces_taken h));
      no_dirs = grows.put ∙ was.no_dirs;
      no_files = grows.files_put ∙ was.no_files;
      no_pieces = grows.pieces_put ∙ was.no_pieces;
    }
      where
        only : (p : Path) → Contains (flat_map (covered root) (x ∷ [])) p → Contains (covered root x) p
        only p k = ⊎_elim (λ (h : Contains (covered root x) p). h) (λ (h : Contains [] p). absurd (contains_nil p h)) (Contains-append_cases (covered root x) [] p k)

-- the pieces kept were merged
pub merged_rest : (root : Path) (kept new : List Index) (lost : Bool) (s : Share) → AreMergedFrom kept new → HasMerged root kept lost s → HasMerged root new lost s
merged_rest root kept new lost s from was = record {
  apart = from.apart was.apart;
  held = λ name h. was.held name ((from.covers name).0 h);
  merged = λ none p h. let f = was.merged none p h in record { name = f.name; is = f.is; covered = (from.covers f.name).1 f.covered };
  no_dirs = was.no_dirs;
  no_files = was.no_files;
  no_pieces = was.no_pieces;
}

-- what a merger leaves
pub merged_left : (root : Path) (f : Findings) (s : Share) → f.visits.items ≡ [] → HasMerged root f.pieces.items f.lost s → IsLeft root [] f s
merged_left root f s none was = record {
  has = record {
    once = subst (λ (vs : List Visit). AreDistinct (map (λ v. v.dir) vs)) (sym none) distinct_nil;
    took = subst (λ (vs : List Visit). All (Contains s.took) (map (λ v. v.dir) vs)) (sym none) (All-nil (Contains s.took));
    dirs = subst (All (IsFoundDir f.visits.items)) (sym was.no_dirs) (All-nil (IsFoundDir f.visits.items));
    files = subst (All (IsFoundFile f.visits.items)) (sym was.no_files) (All-nil (IsFoundFile f.visits.items));
    apart = was.apart;
    held = λ p h. inl (subst (Contains (paths_taken root 2 s)) (sym h.is) (was.held h.name h.covered));
  };
  read = λ kept. record {
    once = distinct_nil;
    took = All-nil (Contains (paths_taken root 1 s));
    kept = λ p h. absurd (contains_nil p h);
    put = λ p h. absurd (contains_nil p (subst (λ l. Contains l p) was.no_pieces h));
    made = λ p h. inr (subst (Contains (paths_taken root 2 s)) (sym h.is) (was.held h.name h.covered));
    merged = was.merged kept;
  };
}

-- the same of a thread
pub ended_share : (p : Run) (kept : List Index) (a b : Worker) → IsBetween p a → Gets p nothing a b → OfShare a (HasMerged p.world kept false) → OfShare b (HasMerged p.world kept false)
ended_share p kept a b between gets was = of_after p nothing a b (HasMerged p.world kept false) (HasMerged p.world kept false) between gets was (λ s r grows h. merged_same p.world kept s r false grows h)

pub merged_share : (p : Run) (kept new : List Index) (x : Index) (a b : Worker) → IsBetween p a → Gets p (record nothing { pieces_taken = flat_map (covered p.world) (x ∷ []) }) a b → OfShare a (HasMerged p.world kept false)
    → OfShare a (λ s. AreDisjoint (covered p.world x) (paths_taken p.world 2 s)) → AreMergedFrom (kept ++ x ∷ []) new → OfShare b (HasMerged p.world new false)
merged_share p kept new x a b between gets was fresh from =
    of_after p (record nothing { pieces_taken = flat_map (covered p.world) (x ∷ []) }) a b (λ (s : Share). HasMerged p.world kept false s × AreDisjoint (covered p.world x) (paths_taken p.world 2 s)) (HasMerged p.world new false) between gets
    (λ s at. (was s at, fresh s at)) (λ s r grows h. merged_more p.world kept s r x grows h.0 new h.1 from)

pub lost_share : (p : Run) (kept : List Index) (x : Index) (a b c : Worker) → IsBetween p a → Gets p (record nothing { pieces_taken = flat_map (covered p.world) (x ∷ []) }) a b → Gets p nothing b c → OfShare a (HasMerged p.world kept false)
    → OfShare c (HasMerged p.world kept true)
lost_share p kept x a b c between gets more was =
    of_after p (record nothing { pieces_taken = flat_map (covered p.world) (x ∷ []) }) a c (HasMerged p.world kept false) (HasMerged p.world kept true) between
    (gets_before p (record nothing { pieces_taken = flat_map (covered p.world) (x ∷ []) }) a b c gets more) was (λ s r grows h. merged_lost p.world kept s r x grows h)
