-- What follows from the rule: each directory was taken by one thread, each file was put and taken
-- once, and so was each piece.
use Rattle.std.proofs.Common.{◌≡◌, ◌⊎◌, ℕ, ◌<◌, List, [], ◌∷◌, ◌++◌, length, zero, suc, inl, inr, sym, ◌∙◌, refl, arith}
use Rattle.std.specs.Prelude.{Contains}
use Rattle.std.specs.List.{flat_map}
use Rattle.std.proofs.lemmas.List.Elements.{All-weaker, Contains-append_right}
use Rattle.std.proofs.lemmas.List.Sorted.{Contains-permutation}
use mathlib.Core.Option.{some, some-ne-none}
use lib.ListN.{get_elem?}
use Rattle.bounded_buffer.specs.Plain.{BufferRule}
use Rattle.firefly_outside.specs.Trees.{Path}
use Rattle.index_rule.specs.Children.{IsChildOf, IsBelow, one_parent, child_longer, child_below}
use Rattle.index_rule.specs.Counting.{contains_times, times_contains, distinct_times, times_distinct, times-append, all_at, contains_cons_cases, distinct_right, BelongsTo, IsOwned, distinct_over}
use Rattle.index_rule.specs.Distinct.{AreDistinct}
use Rattle.index_rule.specs.Shares.{Share, paths_put, paths_taken, KeepsOwn, IsChildOfTook}
use Rattle.index_rule.specs.Sharing.{all_at_place, at_map, of_all, at_one, counted}
use Rattle.index_rule.specs.Work.{KeepsWork, ring_of, waiting_in, all_took, all_put, notes_of, paths_at}
use Rattle.index_rule.specs.declared.value.IndexValue.{IndexValue}

module _ (root : Path) (values : List IndexValue) (shares : List Share) (k : KeepsWork root values shares) where
  pub own_of : (t : ℕ) (s : Share) → get_elem? shares t ≡ some s → KeepsOwn root s
  own_of t s e = all_at_place (KeepsOwn root) shares t s k.own e

  pub rule_at : (m : ℕ) (v : IndexValue) → get_elem? values m ≡ some v → BufferRule m (ring_of v) (notes_of shares)
  rule_at m v e = k.rings m (ring_of v) (at_map ring_of values m v e)

  pub took_once : AreDistinct (all_took shares)
  took_once = distinct_right (waiting_in values) (all_took shares) k.once

  -- a directory that was taken is the root, or was put
  pub took_or_root : (d : Path) → Contains (waiting_in values ++ all_took shares) d → (d ≡ root) ⊎ Contains (all_put shares) d
  took_or_root d h = elim (contains_cons_cases root (all_put shares) d
      (Contains-permutation (waiting_in values ++ all_took shares) (root ∷ all_put shares) d k.dirs h)) [
        | inl is ↦ inl (sym is)
        | inr put ↦ inr put
      ]

  -- each of these is the root or below it
  within : (n : ℕ) (d : Path) → length d < n → (d ≡ root) ⊎ Contains (all_put shares) d → (d ≡ root) ⊎ IsBelow root d
  within zero d short at = absurd (omega arith)
  within (suc n) d short at = elim at [
    | inl is ↦ inl is
    | inr put ↦ (
        let o = at_one (λ (s : Share). s.put) shares d put in
        let c = all_at (IsChildOfTook o.one) o.one.put d (own_of o.place o.one o.at).dirs o.is in
        let longer = child_longer d c.dir c.is in
        let above = Contains-append_right (waiting_in values) (all_took shares) c.dir
        (of_all (λ (s : Share). s.took) shares o.place o.one c.dir o.at c.took) in
        inr (child_below root c.dir d c.is (within n c.dir (omega arith) (took_or_root c.dir above))))
  ]

  pub dir_within : (d : Path) → Contains (all_took shares) d → (d ≡ root) ⊎ IsBelow root d
  dir_within d h = within (suc (length d)) d (omega arith)
      (took_or_root d (Contains-append_right (waiting_in values) (all_took shares) d h))

  -- a child of a directory that a thread took is below the root
  pub child_within : (t : ℕ) (s : Share) (p : Path) → get_elem? shares t ≡ some s → IsChildOfTook s p → IsBelow root p
  child_within t s p e c = child_below root c.dir p c.is (dir_within c.dir (of_all (λ (r : Share). r.took) shares t s c.dir e c.took))

  pub files_put_once : AreDistinct (flat_map (paths_put root 1) shares)
  files_put_once = distinct_over IsChildOf one_parent (paths_put root 1) (λ s. s.took) shares
      (All-weaker (KeepsOwn root) (IsOwned IsChildOf (paths_put root 1) (λ s. s.took)) (λ s own. record {
        distinct = own.files_once;
        belong = All-weaker (IsChildOfTook s) (BelongsTo IsChildOf s.took) (λ p c. record { thing = c.dir; among = c.took; is = c.is })
            (paths_put root 1 s) own.files;
      }) shares k.own) took_once

  -- what is at a buffer or was taken there is there once if it was put once, and it was put
  pub taken_once : (m : ℕ) (v : IndexValue) → get_elem? values m ≡ some v → AreDistinct (flat_map (paths_put root m) shares)
      → AreDistinct (paths_at root (ring_of v) ++ flat_map (paths_taken root m) shares)
  taken_once m v e apart = times_distinct (paths_at root (ring_of v) ++ flat_map (paths_taken root m) shares) (λ p.
      let most = distinct_times p (flat_map (paths_put root m) shares) apart in
      let same = counted root m (ring_of v) shares (rule_at m v e) p in
      let both = times-append p (paths_at root (ring_of v)) (flat_map (paths_taken root m) shares) in
      omega arith)

  pub was_put : (m : ℕ) (v : IndexValue) (p : Path) → get_elem? values m ≡ some v
      → Contains (paths_at root (ring_of v) ++ flat_map (paths_taken root m) shares) p → Contains (flat_map (paths_put root m) shares) p
  was_put m v p e h =
      let one = contains_times p (paths_at root (ring_of v) ++ flat_map (paths_taken root m) shares) h in
      let same = counted root m (ring_of v) shares (rule_at m v e) p in
      let both = times-append p (paths_at root (ring_of v)) (flat_map (paths_taken root m) shares) in
      times_contains p (flat_map (paths_put root m) shares) (omega arith)

  -- a file that was put is below the root
  pub file_within : (p : Path) → Contains (flat_map (paths_put root 1) shares) p → IsBelow root p
  file_within p h =
      let o = at_one (paths_put root 1) shares p h in
      child_within o.place o.one p o.at (all_at (IsChildOfTook o.one) (paths_put root 1 o.one) p (own_of o.place o.one o.at).files o.is)

  -- mutex 1 has a value
  module _ (v : IndexValue) (at : get_elem? values 1 ≡ some v) where
    pub files_taken_once : AreDistinct (flat_map (paths_taken root 1) shares)
    files_taken_once = distinct_right (paths_at root (ring_of v)) (flat_map (paths_taken root 1) shares) (taken_once 1 v at files_put_once)

    pub file_from : (p : Path) → Contains (flat_map (paths_taken root 1) shares) p → Contains (flat_map (paths_put root 1) shares) p
    file_from p h = was_put 1 v p at (Contains-append_right (paths_at root (ring_of v)) (flat_map (paths_taken root 1) shares) p h)

    pub pieces_put_once : AreDistinct (flat_map (paths_put root 2) shares)
    pieces_put_once = distinct_over (λ p q. p ≡ q) (λ p a b h j. sym h ∙ j) (paths_put root 2) (paths_taken root 1) shares
        (All-weaker (KeepsOwn root) (IsOwned (λ p q. p ≡ q) (paths_put root 2) (paths_taken root 1)) (λ s own. record {
          distinct = own.pieces_once;
          belong = All-weaker (Contains (paths_taken root 1 s)) (BelongsTo (λ p q. p ≡ q) (paths_taken root 1 s))
              (λ p c. record { thing = p; among = c; is = refl }) (paths_put root 2 s) own.pieces;
        }) shares k.own) files_taken_once

    -- each file of a piece that was put was taken, and is below the root
    pub piece_within : (p : Path) → Contains (flat_map (paths_put root 2) shares) p → IsBelow root p
    piece_within p h =
        let o = at_one (paths_put root 2) shares p h in
        let taken = all_at (Contains (paths_taken root 1 o.one)) (paths_put root 2 o.one) p (own_of o.place o.one o.at).pieces o.is in
        file_within p (file_from p (of_all (paths_taken root 1) shares o.place o.one p o.at taken))

-- there is something at each earlier place
pub some_before : {A : Type 0} (xs : List A) (x : A) → get_elem? xs 2 ≡ some x → (y : A) × (get_elem? xs 1 ≡ some y)
some_before [] x e = absurd (some-ne-none x (sym e))
some_before (a ∷ []) x e = absurd (some-ne-none x (sym e))
some_before (a ∷ b ∷ xs) x e = (b, refl)
