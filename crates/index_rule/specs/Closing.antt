-- What the rule says of a run that has ended.
use Rattle.std.proofs.Common.{◌≡◌, ◌⊎◌, ℕ, ◌<◌, true, List, [], ◌∷◌, length, zero, suc, inl, inr, sym, ap, subst, ◌∙◌, ⊎_elim, refl, arith}
use Rattle.std.specs.Prelude.{Contains, All}
use Rattle.std.specs.List.{flat_map}
use Rattle.std.proofs.lemmas.List.Elements.{Contains-append_right}
use mathlib.Core.Option.{some, some-injective}
use lib.ListN.{get_elem?}
use Rattle.bounded_buffer.specs.Plain.{part_of}
use Rattle.firefly_outside.specs.Trees.{Path}
use Rattle.index_rule.specs.Counting.{all_at, contains_times, distinct_right, times, times_contains}
use Rattle.index_rule.specs.Distinct.{AreDistinct}
use Rattle.index_rule.specs.Once.{own_of, rule_at, took_once, took_or_root, files_taken_once, file_from, pieces_put_once, was_put, taken_once}
use Rattle.index_rule.specs.Shares.{Share, paths_of, paths_put, paths_taken, IsHeldBy}
use Rattle.index_rule.specs.Sharing.{IsAt, at_map, at_unmap, takes_fit, of_all, at_one, one_place, counted, distinct_part}
use Rattle.index_rule.specs.Work.{KeepsWork, ring_of, waiting_in, all_took, notes_of, paths_at}
use Rattle.index_rule.specs.declared.value.IndexItem.{IndexItem}
use Rattle.index_rule.specs.declared.value.IndexValue.{IndexValue}

some_at : {A : Type 0} (xs : List A) (k : ℕ) → k < length xs → (x : A) × (get_elem? xs k ≡ some x)
some_at [] k low = absurd (omega arith)
some_at (x ∷ xs) zero low = (x, refl)
some_at (x ∷ xs) (suc k) low = some_at xs k (omega arith)

-- the share of some thread has the path
abbrev pub IsInSome : (Share → List Path) → List Share → Path → Type 0
IsInSome = IsAt {X = Share} {Y = Path}

module _ (root : Path) (values : List IndexValue) (shares : List Share) (k : KeepsWork root values shares) where
  -- each thread took each directory once
  pub took_distinct : (i : ℕ) (s : Share) → get_elem? shares i ≡ some s → AreDistinct s.took
  took_distinct i s at = distinct_part (λ (u : Share). u.took) [] shares i s at (took_once root values shares k)

  -- and no two took the same
  pub took_by_one : (i j : ℕ) (s r : Share) (p : Path) → get_elem? shares i ≡ some s → get_elem? shares j ≡ some r → Contains s.took p
      → Contains r.took p → i ≡ j
  took_by_one i j s r p a b h g = one_place (λ (u : Share). u.took) shares i j s r p (took_once root values shares k) a b h g

  -- what was taken is the root, or some thread put it
  pub took_from : (i : ℕ) (s : Share) (p : Path) → get_elem? shares i ≡ some s → Contains s.took p → (p ≡ root)
      ⊎ IsInSome (λ u. u.put) shares p
  took_from i s p at h = ⊎_elim
      (λ (is : p ≡ root). inl is)
      (λ put. inr (at_one (λ (u : Share). u.put) shares p put))
      (took_or_root root values shares k p
      (Contains-append_right (waiting_in values) (all_took shares) p (of_all (λ (u : Share). u.took) shares i s p at h)))

  module _ (many : 2 < length values) where
    files_once : AreDistinct (flat_map (paths_taken root 1) shares)
    files_once = let v = some_at values 1 (omega arith) in files_taken_once root values shares k v.0 v.1

    -- the same holds of files
    pub files_distinct : (i : ℕ) (s : Share) → get_elem? shares i ≡ some s → AreDistinct (paths_taken root 1 s)
    files_distinct i s at = distinct_part (paths_taken root 1) [] shares i s at files_once

    pub files_by_one : (i j : ℕ) (s r : Share) (p : Path) → get_elem? shares i ≡ some s → get_elem? shares j ≡ some r
        → Contains (paths_taken root 1 s) p → Contains (paths_taken root 1 r) p → i ≡ j
    files_by_one i j s r p a b h g = one_place (paths_taken root 1) shares i j s r p files_once a b h g

    pub files_from : (i : ℕ) (s : Share) (p : Path) → get_elem? shares i ≡ some s → Contains (paths_taken root 1 s) p
        → IsInSome (paths_put root 1) shares p
    files_from i s p at h = let v = some_at values 1 (omega arith) in
        at_one (paths_put root 1) shares p (file_from root values shares k v.0 v.1 p (of_all (paths_taken root 1) shares i s p at h))

    -- a thread that put a piece took its files
    pub pieces_read : (i : ℕ) (s : Share) (p : Path) → get_elem? shares i ≡ some s → Contains (paths_put root 2 s) p
        → Contains (paths_taken root 1 s) p
    pieces_read i s p at h = all_at (Contains (paths_taken root 1 s)) (paths_put root 2 s) p (own_of root values shares k i s at).pieces h

    -- a piece that was taken was put by the thread that took its files
    pub pieces_from : (i : ℕ) (s : Share) (p : Path) → get_elem? shares i ≡ some s → Contains (paths_taken root 2 s) p
        → IsInSome (paths_put root 2) shares p
    pieces_from i s p at h =
        let v = some_at values 2 many in
        at_one (paths_put root 2) shares p
        (was_put root values shares k 2 v.0 p v.1
        (Contains-append_right (paths_at root (ring_of v.0)) (flat_map (paths_taken root 2) shares) p
        (of_all (paths_taken root 2) shares i s p at h)))

    pieces_once : AreDistinct (flat_map (paths_taken root 2) shares)
    pieces_once =
        let v = some_at values 1 (omega arith) in
        let w = some_at values 2 many in
        distinct_right (paths_at root (ring_of w.0)) (flat_map (paths_taken root 2) shares)
        (taken_once root values shares k 2 w.0 w.1 (pieces_put_once root values shares k v.0 v.1))

    taken_by_one : (i j : ℕ) (s r : Share) (p : Path) → get_elem? shares i ≡ some s → get_elem? shares j ≡ some r
        → Contains (paths_taken root 2 s) p → Contains (paths_taken root 2 r) p → i ≡ j
    taken_by_one i j s r p a b h g = one_place (paths_taken root 2) shares i j s r p pieces_once a b h g

    -- a file can't both be in a piece that one thread has and be with another thread that made no
    -- piece of it
    not_both : (i j : ℕ) (s r : Share) (p : Path) → get_elem? shares i ≡ some s → get_elem? shares j ≡ some r
        → Contains (paths_taken root 2 s) p → Contains (paths_taken root 1 r) p → ¬ Contains (paths_put root 2 r) p → ⊥
    not_both i j s r p a b h g none =
        let o = pieces_from i s p a h in
        let place = files_by_one o.place j o.one r p o.at b (pieces_read o.place o.one p o.at o.is) g in
        let one : o.one ≡ r = some-injective o.one r (sym o.at ∙ (ap (get_elem? shares) place ∙ b)) in
        none (subst (λ (u : Share). Contains (paths_put root 2 u) p) one o.is)

    -- each file is with one thread only
    pub held_by_one : (i j : ℕ) (s r : Share) (p : Path) → get_elem? shares i ≡ some s → get_elem? shares j ≡ some r → IsHeldBy root s p
        → IsHeldBy root r p → i ≡ j
    held_by_one i j s r p a b h g = ⊎_elim
        (λ (x : Contains (paths_taken root 2 s) p). ⊎_elim
        (λ (y : Contains (paths_taken root 2 r) p). taken_by_one i j s r p a b x y)
        (λ (y : Contains (paths_taken root 1 r) p × (¬ Contains (paths_put root 2 r) p)). absurd (not_both i j s r p a b x y.0 y.1))
        g)
        (λ (x : Contains (paths_taken root 1 s) p × (¬ Contains (paths_put root 2 s) p)). ⊎_elim
        (λ (y : Contains (paths_taken root 2 r) p). absurd (not_both j i r s p b a y x.0 x.1))
        (λ (y : Contains (paths_taken root 1 r) p × (¬ Contains (paths_put root 2 r) p)). files_by_one i j s r p a b x.0 y.0)
        g)
        h

    -- if some thread saw the buffer of pieces shut and empty, each piece that was put was taken
    pub all_pieces_taken : (i j : ℕ) (s r : Share) (p : Path) → get_elem? shares i ≡ some s → get_elem? shares j ≡ some r
        → (part_of s.notes 2).seen_end ≡ true → Contains (paths_put root 2 r) p
        → IsInSome (paths_taken root 2) shares p
    all_pieces_taken i j s r p a b seen h =
        let v = some_at values 2 many in
        let rule = rule_at root values shares k 2 v.0 v.1 in
        let ended = rule.seen_end i s.notes (at_map (λ (u : Share). u.notes) shares i s a) seen in
        let same = counted root 2 (ring_of v.0) shares rule p in
        let none = ap (λ l. times p (flat_map (paths_of root) l)) ended.1 in
        let one = contains_times p (flat_map (paths_put root 2) shares) (of_all (paths_put root 2) shares j r p b h) in
        at_one (paths_taken root 2) shares p (times_contains p (flat_map (paths_taken root 2) shares) (omega arith))

  -- if all items that threads put at a buffer are of a kind, so are all items that threads took
  -- there
  pub taken_fit : (fits : IndexItem → Type 0) (m : ℕ) → m < length values
      → ((t : ℕ) (s : Share) → get_elem? shares t ≡ some s → All (λ p. fits p.1) (part_of s.notes m).puts)
      → (t : ℕ) (s : Share) → get_elem? shares t ≡ some s → All (λ p. fits p.1) (part_of s.notes m).takes
  taken_fit fits m within puts t s there =
      let v = some_at values m within in
      takes_fit fits m (ring_of v.0) (notes_of shares) (rule_at root values shares k m v.0 v.1)
      (λ j n e. let u = at_unmap (λ (r : Share). r.notes) shares j n e in
      subst (λ l. All (λ p. fits p.1) (part_of l m).puts) u.2 (puts j u.0 u.1)) t s.notes
      (at_map (λ (r : Share). r.notes) shares t s there)
