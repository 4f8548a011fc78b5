-- The two laws of the use: what a holder knows follows from the rule, and each allowed change keeps
-- it.
use Rattle.std.proofs.Common.{◌≡◌, ◌≢◌, ◌⊎◌, ℕ, ◌+◌, List, [], ◌∷◌, ◌++◌, map, length, slice_set, zero, suc, inl, inr, sym, ap, subst, ◌∙◌, ⊎_elim, refl, arith, append_assoc, length-append}
use Rattle.std.specs.Prelude.{Contains, All}
use Rattle.std.specs.List.{flat_map}
use Rattle.std.specs.List.Sorted.{IsPermutation}
use Rattle.std.proofs.lemmas.List.Elements.{All-cons, All-nil, Contains-append_left, Contains-append_right}
use Rattle.std.proofs.lemmas.List.Sorted.{IsPermutation-sym, IsPermutation-trans, IsPermutation-append_left, IsPermutation-append_right, IsPermutation-append_comm, IsPermutation-cons, IsPermutation-middle}
use Rattle.std.proofs.lemmas.List.Sums.{sum_by-cons}
use Rattle.std.proofs.lemmas.Bool.{cases_eq}
use mathlib.Core.Option.{some, some-injective, some-ne-none}
use lib.ListN.{get_elem?}
use Rattle.atomic_table.proofs.Lists.{at_set}
use Rattle.bounded_buffer.specs.declared.did.Did.{Did}
use Rattle.bounded_buffer.specs.declared.did.Did.TheVariants.{Put, Took, Shut, SawShut, SawEnd, WaitedFull, WaitedEmpty}
use Rattle.bounded_buffer.specs.Parts.{Used, did}
use Rattle.bounded_buffer.specs.Plain.{Keeps, Allowed, note, part_of}
use Rattle.bounded_buffer.specs.PlainLaws.{fits_plain, keeps_after, part_here, part_there}
use Rattle.bounded_buffer.specs.Rings.{Held, Does}
use Rattle.firefly_outside.specs.Trees.{Path}
use Rattle.index_rule.specs.Children.{IsBelow, one_parent, below_longer}
use Rattle.index_rule.specs.Counting.{times, times-append, times-permutation, distinct_times, times_distinct, all_at, all_from, distinct_append, contains_one}
use Rattle.index_rule.specs.Distinct.{AreDisjoint, AreDistinct}
use Rattle.index_rule.specs.Notes.{own_more}
use Rattle.index_rule.specs.Once.{own_of, rule_at, took_once, took_or_root, child_within, files_put_once, taken_once, was_put, file_within, pieces_put_once, piece_within, some_before}
use Rattle.index_rule.specs.Shares.{Share, paths_of, paths_in, paths_put, paths_taken, KeepsOwn, IsChildOfTook, IsItemAt, MayPut, noted}
use Rattle.index_rule.specs.Sharing.{all_set, at_map, at_unmap, items_fit, map_set, at_one, set_same, set_more, distinct_part, one_place}
use Rattle.index_rule.specs.Work.{KeepsWork, FitsWork, MayChange, Moves, MovesCounts, MovesDirs, MovesItems, MayDo, IsNewTo, IsAfter, ring_of, waiting_of, waiting_in, dirs_of, files_of, first_count, all_took, all_put, all_files, notes_of, paths_at}
use Rattle.index_rule.specs.declared.value.IndexItem.{IndexItem}
use Rattle.index_rule.specs.declared.value.IndexItem.TheVariants.{File, Piece}
use Rattle.index_rule.specs.declared.value.IndexValue.{IndexValue}
use Rattle.index_rule.specs.declared.value.IndexValue.TheVariants.{Dirs, Ring}

-- the list of directories is the first value
first_waits : (values : List IndexValue) (x : IndexValue) → get_elem? values 0 ≡ some x → waiting_in values ≡ waiting_of x
first_waits [] x e = absurd (some-ne-none x (sym e))
first_waits (v ∷ values) x e = ap waiting_of (some-injective v x e)

waits_set : (values : List IndexValue) (m : ℕ) (y : IndexValue) → m ≢ 0 → waiting_in (slice_set values m y) ≡ waiting_in values
waits_set [] m y n = refl
waits_set (v ∷ values) zero y n = absurd (n refl)
waits_set (v ∷ values) (suc m) y n = refl

waits_first : (values : List IndexValue) (x y : IndexValue) → get_elem? values 0 ≡ some x → waiting_in (slice_set values 0 y) ≡ waiting_of y
waits_first [] x y e = absurd (some-ne-none x (sym e))
waits_first (v ∷ values) x y e = refl

count_first : (f : IndexValue → ℕ) (values : List IndexValue) (x : IndexValue) → get_elem? values 0 ≡ some x → first_count f values ≡ f x
count_first f [] x e = absurd (some-ne-none x (sym e))
count_first f (v ∷ values) x e = ap f (some-injective v x e)

count_set : (f : IndexValue → ℕ) (values : List IndexValue) (m : ℕ) (y : IndexValue) → m ≢ 0
    → first_count f (slice_set values m y) ≡ first_count f values
count_set f [] m y n = refl
count_set f (v ∷ values) zero y n = absurd (n refl)
count_set f (v ∷ values) (suc m) y n = refl

count_last : (f : IndexValue → ℕ) (values : List IndexValue) (x y : IndexValue) → get_elem? values 0 ≡ some x
    → first_count f (slice_set values 0 y) ≡ f y
count_last f [] x y e = absurd (some-ne-none x (sym e))
count_last f (v ∷ values) x y e = refl

-- what all shares count together, after a change of one
put_set : (shares : List Share) (t : ℕ) (s r : Share) → get_elem? shares t ≡ some s
    → length (all_put (slice_set shares t r)) + length s.put ≡ length (all_put shares) + length r.put
put_set [] t s r e = absurd (some-ne-none s (sym e))
put_set (u ∷ shares) zero s r e =
    let same = ap (λ (v : Share). length v.put) (some-injective u s e) in
    let one = length-append r.put (all_put shares) in
    let two = length-append u.put (all_put shares) in
    omega arith
put_set (u ∷ shares) (suc t) s r e =
    let rest = put_set shares t s r e in
    let one = length-append u.put (all_put (slice_set shares t r)) in
    let two = length-append u.put (all_put shares) in
    omega arith

files_set : (shares : List Share) (t : ℕ) (s r : Share) → get_elem? shares t ≡ some s
    → all_files (slice_set shares t r) + s.files ≡ all_files shares + r.files
files_set [] t s r e = absurd (some-ne-none s (sym e))
files_set (u ∷ shares) zero s r e =
    let same = ap (λ (v : Share). v.files) (some-injective u s e) in
    let one = sum_by-cons (λ (v : Share). v.files) r shares in
    let two = sum_by-cons (λ (v : Share). v.files) u shares in
    omega arith
files_set (u ∷ shares) (suc t) s r e =
    let rest = files_set shares t s r e in
    let one = sum_by-cons (λ (v : Share). v.files) u (slice_set shares t r) in
    let two = sum_by-cons (λ (v : Share). v.files) u shares in
    omega arith

-- what a holder knows of what is there
new_dirs : (root : Path) (values : List IndexValue) (shares : List Share) → KeepsWork root values shares → (x : IndexValue)
    → get_elem? values 0 ≡ some x → (t : ℕ) (s : Share) → get_elem? shares t ≡ some s
    → AreDistinct (waiting_of x ++ s.took)
new_dirs root values shares h x at t s there =
    subst (λ l. AreDistinct (l ++ s.took)) (first_waits values x at)
    (distinct_part (λ (r : Share). r.took) (waiting_in values) shares t s there h.once)

new_items : (root : Path) (values : List IndexValue) (shares : List Share) → KeepsWork root values shares → (m : ℕ) (x : IndexValue)
    → get_elem? values m ≡ some x → (t : ℕ) (s : Share) → get_elem? shares t ≡ some s
    → (m ≡ 1) ⊎ (m ≡ 2) → AreDistinct (paths_at root (ring_of x) ++ paths_taken root m s) × All (IsBelow root) (paths_at root (ring_of x))
new_items root values shares h m x at t s there = λ is. ⊎_elim
    (λ (one : m ≡ 1).
    let here = subst (λ k. get_elem? values k ≡ some x) one at in
    subst (λ k. AreDistinct (paths_at root (ring_of x) ++ paths_taken root k s)
    × All (IsBelow root) (paths_at root (ring_of x))) (sym one) (
      distinct_part (paths_taken root 1) (paths_at root (ring_of x)) shares t s there
          (taken_once root values shares h 1 x here (files_put_once root values shares h)),
      all_from (IsBelow root) (paths_at root (ring_of x)) (λ p k. file_within root values shares h p
          (was_put root values shares h 1 x p here
          (Contains-append_left (paths_at root (ring_of x)) (flat_map (paths_taken root 1) shares) p k))),
    ))
    (λ (two : m ≡ 2).
    let here = subst (λ k. get_elem? values k ≡ some x) two at in
    let before = some_before values x here in
    subst (λ k. AreDistinct (paths_at root (ring_of x) ++ paths_taken root k s)
    × All (IsBelow root) (paths_at root (ring_of x))) (sym two) (
      distinct_part (paths_taken root 2) (paths_at root (ring_of x)) shares t s there
          (taken_once root values shares h 2 x here (pieces_put_once root values shares h before.0 before.1)),
      all_from (IsBelow root) (paths_at root (ring_of x)) (λ p k. piece_within root values shares h before.0 before.1 p
          (was_put root values shares h 2 x p here
          (Contains-append_left (paths_at root (ring_of x)) (flat_map (paths_taken root 2) shares) p k))),
    ))
    is

items_belong : (root : Path) (values : List IndexValue) (shares : List Share) → KeepsWork root values shares → (m : ℕ) (x : IndexValue)
    → get_elem? values m ≡ some x → All (IsItemAt m) (ring_of x).items
items_belong root values shares h m x at = items_fit (IsItemAt m) m (ring_of x) (notes_of shares) (rule_at root values shares h m x at)
    (λ t n e. let s = at_unmap (λ (u : Share). u.notes) shares t n e in
    subst (λ l. All (λ p. IsItemAt m p.1) (part_of l m).puts) s.2 ((own_of root values shares h t s.0 s.1).kinds m))

new_there : (root : Path) (values : List IndexValue) (shares : List Share) → KeepsWork root values shares → (m : ℕ) (x : IndexValue)
    → get_elem? values m ≡ some x → IsAfter m x → (t : ℕ) (s : Share)
    → get_elem? shares t ≡ some s → IsNewTo root m s x
new_there root values shares h m (Dirs d) at kind t s there =
    new_dirs root values shares h (Dirs d) (subst (λ k. get_elem? values k ≡ some (Dirs d)) kind at) t s there
new_there root values shares h m (Ring q) at kind t s there =
    (items_belong root values shares h m (Ring q) at, new_items root values shares h m (Ring q) at t s there)

pub fits_work : (root : Path) (values : List IndexValue) (shares : List Share) → KeepsWork root values shares → (m : ℕ) (x : IndexValue)
    → get_elem? values m ≡ some x
    → (t : ℕ) (s : Share) → get_elem? shares t ≡ some s → FitsWork root m x s
fits_work root values shares h m x at t s there = record {
  kind = h.kinds m x at;
  within = fits_plain tt (map ring_of values) (notes_of shares) h.rings m (ring_of x) (at_map ring_of values m x at) t s.notes
      (at_map (λ (r : Share). r.notes) shares t s there);
  new = new_there root values shares h m x at (h.kinds m x at) t s there;
}

-- the part of the share at a mutex, after a note
puts_noted : (root : Path) (k m : ℕ) (d : Did IndexItem) (s : Share) → ((u : Used IndexItem) → (did d u).puts ≡ u.puts)
    → paths_put root k (noted m d s) ≡ paths_put root k s
puts_noted root k m d s stays = ⊎_elim
    (λ (e : k ≡ m). ap (λ (u : Used IndexItem). paths_in root u.puts)
    (subst (λ j. part_of (note m d ∷ s.notes) j ≡ did d (part_of s.notes j)) (sym e) (part_here m d s.notes))
    ∙ ap (paths_in root) (stays (part_of s.notes k)))
    (λ (n : k ≢ m). ap (λ (u : Used IndexItem). paths_in root u.puts) (part_there m k d s.notes n))
    (cases_eq k m)

takes_noted : (root : Path) (k m : ℕ) (d : Did IndexItem) (s : Share) → ((u : Used IndexItem) → (did d u).takes ≡ u.takes)
    → paths_taken root k (noted m d s) ≡ paths_taken root k s
takes_noted root k m d s stays = ⊎_elim
    (λ (e : k ≡ m). ap (λ (u : Used IndexItem). paths_in root u.takes)
    (subst (λ j. part_of (note m d ∷ s.notes) j ≡ did d (part_of s.notes j)) (sym e) (part_here m d s.notes))
    ∙ ap (paths_in root) (stays (part_of s.notes k)))
    (λ (n : k ≢ m). ap (λ (u : Used IndexItem). paths_in root u.takes) (part_there m k d s.notes n))
    (cases_eq k m)

-- a take adds to what was taken
took_noted : (root : Path) (m n : ℕ) (i : IndexItem) (s : Share) (p : Path) → Contains (paths_taken root 1 s) p
    → Contains (paths_taken root 1 (noted m (Took n i) s)) p
took_noted root m n i s p h = ⊎_elim
    (λ (e : 1 ≡ m).
    subst (λ l. Contains l p)
    (sym (ap (λ (u : Used IndexItem). paths_in root u.takes)
    (subst (λ j. part_of (note m (Took n i) ∷ s.notes) j ≡ did (Took n i) (part_of s.notes j)) (sym e)
    (part_here m (Took n i) s.notes))))
    (Contains-append_right (paths_of root i) (paths_taken root 1 s) p h))
    (λ (far : 1 ≢ m). subst (λ l. Contains l p)
    (sym (ap (λ (u : Used IndexItem). paths_in root u.takes) (part_there m 1 (Took n i) s.notes far))) h)
    (cases_eq 1 m)

-- what was put belongs where it was put
kinds_stay : (m : ℕ) (d : Did IndexItem) (s : Share) → ((u : Used IndexItem) → (did d u).puts ≡ u.puts)
    → ((k : ℕ) → All (λ p. IsItemAt k p.1) (part_of s.notes k).puts)
    → (k : ℕ) → All (λ p. IsItemAt k p.1) (part_of (noted m d s).notes k).puts
kinds_stay m d s stays kinds k = ⊎_elim
    (λ (e : k ≡ m). subst (λ (u : Used IndexItem). All (λ p. IsItemAt k p.1) u.puts)
    (sym (subst (λ j. part_of (note m d ∷ s.notes) j ≡ did d (part_of s.notes j)) (sym e) (part_here m d s.notes)))
    (subst (λ l. All (λ p. IsItemAt k p.1) l) (sym (stays (part_of s.notes k))) (kinds k)))
    (λ (n : k ≢ m). subst (λ (u : Used IndexItem). All (λ p. IsItemAt k p.1) u.puts) (sym (part_there m k d s.notes n)) (kinds k))
    (cases_eq k m)

kinds_put : (m n : ℕ) (i : IndexItem) (s : Share) → IsItemAt m i → ((k : ℕ) → All (λ p. IsItemAt k p.1) (part_of s.notes k).puts) → (k : ℕ)
    → All (λ p. IsItemAt k p.1) (part_of (noted m (Put n i) s).notes k).puts
kinds_put m n i s kind kinds k = ⊎_elim
    (λ (e : k ≡ m). subst (λ (u : Used IndexItem). All (λ p. IsItemAt k p.1) u.puts)
    (sym (subst (λ j. part_of (note m (Put n i) ∷ s.notes) j ≡ did (Put n i) (part_of s.notes j)) (sym e)
    (part_here m (Put n i) s.notes)))
    (All-cons (λ (p : ℕ × IndexItem). IsItemAt k p.1) (n, i) (part_of s.notes k).puts (subst (λ j. IsItemAt j i) (sym e) kind) (kinds k)))
    (λ (far : k ≢ m). subst (λ (u : Used IndexItem). All (λ p. IsItemAt k p.1) u.puts) (sym (part_there m k (Put n i) s.notes far))
    (kinds k))
    (cases_eq k m)

own_stays : (root : Path) (m : ℕ) (d : Did IndexItem) (s : Share) → ((u : Used IndexItem) → (did d u).puts ≡ u.puts)
    → ((p : Path) → Contains (paths_taken root 1 s) p → Contains (paths_taken root 1 (noted m d s)) p)
    → KeepsOwn root s → KeepsOwn root (noted m d s)
own_stays root m d s puts takes own =
    own_more root s (noted m d s) [] [] [] own (kinds_stay m d s puts own.kinds) (λ e h. h) takes refl (puts_noted root 1 m d s puts)
    (puts_noted root 2 m d s puts)
    (All-nil (IsChildOfTook s)) (All-nil (IsChildOfTook s)) own.files_once (All-nil (Contains (paths_taken root 1 s))) own.pieces_once

same_takes : (root : Path) (m : ℕ) (d : Did IndexItem) (s : Share) → ((u : Used IndexItem) → (did d u).takes ≡ u.takes) → (p : Path)
    → Contains (paths_taken root 1 s) p → Contains (paths_taken root 1 (noted m d s)) p
same_takes root m d s takes p h = subst (λ l. Contains l p) (sym (takes_noted root 1 m d s takes)) h

-- a put of what may be put
put_here : (root : Path) (m n : ℕ) (i : IndexItem) (s : Share)
    → paths_put root m (noted m (Put n i) s) ≡ paths_of root i ++ paths_put root m s
put_here root m n i s = ap (λ (u : Used IndexItem). paths_in root u.puts) (part_here m (Put n i) s.notes)

put_there : (root : Path) (m k n : ℕ) (i : IndexItem) (s : Share) → k ≢ m → paths_put root k (noted m (Put n i) s) ≡ paths_put root k s
put_there root m k n i s far = ap (λ (u : Used IndexItem). paths_in root u.puts) (part_there m k (Put n i) s.notes far)

own_put : (root : Path) (m n : ℕ) (i : IndexItem) (s : Share) → MayPut root m i s → KeepsOwn root s → KeepsOwn root (noted m (Put n i) s)
own_put root m n (File path) s may own = subst (λ k. KeepsOwn root (noted k (Put n (File path)) s)) (sym may.kind)
    (own_more root s (noted 1 (Put n (File path)) s) [] (path ∷ []) [] own (kinds_put 1 n (File path) s refl own.kinds) (λ e h. h)
    (same_takes root 1 (Put n (File path)) s (λ u. refl)) refl
    (put_here root 1 n (File path) s) (put_there root 1 2 n (File path) s (λ e. omega arith)) (All-nil (IsChildOfTook s))
    (all_from (IsChildOfTook s) (path ∷ []) (λ p h. subst (IsChildOfTook s) (contains_one path p h) may.from))
    (distinct_append (path ∷ []) (paths_put root 1 s) may.once own.files_once
    (subst (λ k. AreDisjoint (path ∷ []) (paths_put root k s)) may.kind may.new)) (All-nil (Contains (paths_taken root 1 s)))
    own.pieces_once)
own_put root m n (Piece piece) s may own = subst (λ k. KeepsOwn root (noted k (Put n (Piece piece)) s)) (sym may.kind)
    (own_more root s (noted 2 (Put n (Piece piece)) s) [] [] (paths_of root (Piece piece)) own
    (kinds_put 2 n (Piece piece) s refl own.kinds) (λ e h. h) (same_takes root 2 (Put n (Piece piece)) s (λ u. refl)) refl
    (put_there root 2 1 n (Piece piece) s (λ e. omega arith)) (put_here root 2 n (Piece piece) s) (All-nil (IsChildOfTook s))
    (All-nil (IsChildOfTook s)) own.files_once
    may.from (distinct_append (paths_of root (Piece piece)) (paths_put root 2 s) may.once own.pieces_once
    (subst (λ k. AreDisjoint (paths_of root (Piece piece)) (paths_put root k s)) may.kind may.new)))

own_did : (root : Path) (m : ℕ) (d : Did IndexItem) (s : Share) → MayDo root m d s → KeepsOwn root s → KeepsOwn root (noted m d s)
own_did root m (Put n i) s may own = own_put root m n i s may own
own_did root m (Took n i) s may own = own_stays root m (Took n i) s (λ u. refl) (took_noted root m n i s) own
own_did root m Shut s may own = own_stays root m Shut s (λ u. refl) (same_takes root m Shut s (λ u. refl)) own
own_did root m SawShut s may own = own_stays root m SawShut s (λ u. refl) (same_takes root m SawShut s (λ u. refl)) own
own_did root m SawEnd s may own = own_stays root m SawEnd s (λ u. refl) (same_takes root m SawEnd s (λ u. refl)) own
own_did root m WaitedFull s may own = own_stays root m WaitedFull s (λ u. refl) (same_takes root m WaitedFull s (λ u. refl)) own
own_did root m WaitedEmpty s may own = own_stays root m WaitedEmpty s (λ u. refl) (same_takes root m WaitedEmpty s (λ u. refl)) own

-- what changes at the rings
pub allowed : (root : Path) (m : ℕ) (x y : IndexValue) (s r : Share) → Moves root m x y s r
    → Allowed m (ring_of x) (ring_of y) s.notes r.notes
allowed root m (Dirs d) (Dirs e) s r h = inl (refl, ap (λ (u : Share). u.notes) h.0.share)
allowed root m (Ring q) (Ring p) s r h = ⊎_elim
    (λ (o : (p ≡ q) × (r ≡ s)). inl (o.0, ap (λ (u : Share). u.notes) o.1))
    (λ (o : (d : Did IndexItem) × Does d q p × MayDo root m d s × (r ≡ noted m d s)). inr (o.0, o.1, ap (λ (u : Share). u.notes) o.3))
    h
allowed root m (Dirs d) (Ring p) s r h = absurd h
allowed root m (Ring q) (Dirs e) s r h = absurd h

-- directories that are put into the list are new
module _ (root : Path) (values : List IndexValue) (shares : List Share) (h : KeepsWork root values shares) (t : ℕ) (s : Share)
    (there : get_elem? shares t ≡ some s) where
  not_there : (come : List Path) → All (IsChildOfTook s) come → AreDisjoint come s.put → (p : Path) → Contains come p
      → ¬ Contains (waiting_in values ++ all_took shares) p
  not_there come from new p k was =
      let c = all_at (IsChildOfTook s) come p from k in
      ⊎_elim
      (λ (is : p ≡ root). let longer = below_longer root p (child_within root values shares h t s p there c) in let same = ap length is in
      absurd (omega arith))
      (λ (put : Contains (all_put shares) p).
      let o = at_one (λ (r : Share). r.put) shares p put in
      let d = all_at (IsChildOfTook o.one) o.one.put p (own_of root values shares h o.place o.one o.at).dirs o.is in
      let same : d.dir ≡ c.dir = one_parent p d.dir c.dir d.is c.is in
      let place : o.place ≡ t = one_place (λ (r : Share). r.took) shares o.place t o.one s c.dir (took_once root values shares h) o.at there
      (subst (Contains o.one.took) same d.took) c.took in
      let one : o.one ≡ s = some-injective o.one s (sym o.at ∙ (ap (get_elem? shares) place ∙ there)) in
      new p k (subst (λ (r : Share). Contains r.put p) one o.is))
      (took_or_root root values shares h p was)

  apart : (come : List Path) → All (IsChildOfTook s) come → AreDistinct come → AreDisjoint come s.put
      → AreDistinct (come ++ (waiting_in values ++ all_took shares))
  apart come from once new = distinct_append come (waiting_in values ++ all_took shares) once h.once (not_there come from new)

  own_moved : (xs ys : List Path) (r : Share) → MovesDirs xs ys s r → KeepsOwn root r
  own_moved xs ys r go = subst (KeepsOwn root) (sym go.share)
      (own_more root s (record s { took = go.gone ++ s.took; put = go.come ++ s.put; files = r.files }) go.come [] []
      (own_of root values shares h t s there) (own_of root values shares h t s there).kinds
      (λ d k. Contains-append_right go.gone s.took d k) (λ p k. k) refl refl refl go.from (All-nil (IsChildOfTook s))
      (own_of root values shares h t s there).files_once
      (All-nil (Contains (paths_taken root 1 s))) (own_of root values shares h t s there).pieces_once)

  took_moved : (xs ys : List Path) (r : Share) (go : MovesDirs xs ys s r)
      → IsPermutation (all_took (slice_set shares t r)) (go.gone ++ all_took shares)
  took_moved xs ys r go = set_more (λ (u : Share). u.took) shares t s r go.gone there (ap (λ (u : Share). u.took) go.share)

  put_moved : (xs ys : List Path) (r : Share) (go : MovesDirs xs ys s r)
      → IsPermutation (all_put (slice_set shares t r)) (go.come ++ all_put shares)
  put_moved xs ys r go = set_more (λ (u : Share). u.put) shares t s r go.come there (ap (λ (u : Share). u.put) go.share)

  -- the list of directories changed
  dirs_moved : (ys : List Path) (r : Share) (go : MovesDirs (waiting_in values) ys s r)
      → IsPermutation (ys ++ all_took (slice_set shares t r)) (root ∷ all_put (slice_set shares t r))
  dirs_moved ys r go =
      let took = all_took shares in
      let put = all_put shares in
      let took' = all_took (slice_set shares t r) in
      let put' = all_put (slice_set shares t r) in
      let one : IsPermutation (ys ++ took') ((go.rest ++ go.come) ++ (go.gone ++ took)) =
      subst (λ l. IsPermutation (ys ++ took') (l ++ (go.gone ++ took))) go.is
      (IsPermutation-append_right ys took' (go.gone ++ took) (took_moved (waiting_in values) ys r go)) in
      let two : IsPermutation ((go.rest ++ go.come) ++ (go.gone ++ took)) ((go.come ++ go.rest) ++ (go.gone ++ took)) =
      IsPermutation-append_left (go.gone ++ took) (go.rest ++ go.come) (go.come ++ go.rest) (IsPermutation-append_comm go.rest go.come) in
      let regroup : (go.come ++ go.rest) ++ (go.gone ++ took) ≡ go.come ++ (waiting_in values ++ took) =
      append_assoc go.come go.rest (go.gone ++ took)
      ∙ (ap (λ l. go.come ++ l) (sym (append_assoc go.rest go.gone took)) ∙ ap (λ l. go.come ++ (l ++ took)) (sym go.was)) in
      let three : IsPermutation (go.come ++ (waiting_in values ++ took)) (go.come ++ (root ∷ put)) =
      IsPermutation-append_right go.come (waiting_in values ++ took) (root ∷ put) h.dirs in
      let four : IsPermutation (go.come ++ (root ∷ put)) (root ∷ (go.come ++ put)) = IsPermutation-middle go.come root put in
      let five : IsPermutation (root ∷ (go.come ++ put)) (root ∷ put') =
      IsPermutation-cons root (go.come ++ put) put' (IsPermutation-sym put' (go.come ++ put) (put_moved (waiting_in values) ys r go)) in
      IsPermutation-trans (ys ++ took') ((go.rest ++ go.come) ++ (go.gone ++ took)) (root ∷ put') one
      (IsPermutation-trans ((go.rest ++ go.come) ++ (go.gone ++ took)) ((go.come ++ go.rest) ++ (go.gone ++ took)) (root ∷ put') two
      (subst (λ l. IsPermutation l (root ∷ put')) (sym regroup)
      (IsPermutation-trans (go.come ++ (waiting_in values ++ took)) (go.come ++ (root ∷ put)) (root ∷ put') three
      (IsPermutation-trans (go.come ++ (root ∷ put)) (root ∷ (go.come ++ put)) (root ∷ put') four five))))

  once_moved : (ys : List Path) (r : Share) (go : MovesDirs (waiting_in values) ys s r)
      → AreDistinct (ys ++ all_took (slice_set shares t r))
  once_moved ys r go = times_distinct (ys ++ all_took (slice_set shares t r)) (λ p.
      let took = all_took shares in
      let took' = all_took (slice_set shares t r) in
      let most = distinct_times p (go.come ++ (waiting_in values ++ took)) (apart go.come go.from go.once go.new) in
      let a = times-append p go.come (waiting_in values ++ took) in
      let b = times-append p (waiting_in values) took in
      let c = ap (times p) go.was in
      let d = times-append p go.rest go.gone in
      let e = ap (times p) go.is in
      let f = times-append p go.rest go.come in
      let g = times-append p ys took' in
      let i = times-permutation p took' (go.gone ++ took) (took_moved (waiting_in values) ys r go) in
      let j = times-append p go.gone took in
      omega arith)

-- the rest of the rule after a step
kinds_set : (values : List IndexValue) (m : ℕ) (y : IndexValue) → ((k : ℕ) (v : IndexValue) → get_elem? values k ≡ some v → IsAfter k v)
    → IsAfter m y
    → (k : ℕ) (z : IndexValue) → get_elem? (slice_set values m y) k ≡ some z → IsAfter k z
kinds_set values m y kinds kind k z e = ⊎_elim
    (λ (p : (k ≡ m) × (y ≡ z)). subst (λ v. IsAfter k v) p.1 (subst (λ j. IsAfter j y) (sym p.0) kind))
    (λ (p : (k ≢ m) × (get_elem? values k ≡ some z)). kinds k z p.1)
    (at_set values m k y z e)

rings_set : (root : Path) (values : List IndexValue) (shares : List Share) → KeepsWork root values shares → (m : ℕ) (x y : IndexValue)
    → get_elem? values m ≡ some x
    → (t : ℕ) (s r : Share) → get_elem? shares t ≡ some s → Moves root m x y s r
    → Keeps (map ring_of (slice_set values m y)) (notes_of (slice_set shares t r))
rings_set root values shares h m x y at t s r there ok =
    subst (λ l. Keeps (map ring_of (slice_set values m y)) l) (map_set (λ (u : Share). u.notes) shares t r)
    (subst (λ l. Keeps l (slice_set (notes_of shares) t r.notes)) (map_set ring_of values m y)
    (keeps_after tt (map ring_of values) (notes_of shares) h.rings m (ring_of x) (ring_of y) (at_map ring_of values m x at) t s.notes
    r.notes (at_map (λ (u : Share). u.notes) shares t s there) (allowed root m x y s r ok)))

-- a ring changed: no directory moved
same_dirs : (root : Path) (values : List IndexValue) (shares : List Share) → KeepsWork root values shares → (m : ℕ) (y : IndexValue) → m ≢ 0
    → (t : ℕ) (s r : Share) → get_elem? shares t ≡ some s
    → r.took ≡ s.took → r.put ≡ s.put
    → IsPermutation (waiting_in (slice_set values m y) ++ all_took (slice_set shares t r)) (root ∷ all_put (slice_set shares t r))
    × AreDistinct (waiting_in (slice_set values m y) ++ all_took (slice_set shares t r))
same_dirs root values shares h m y n t s r there took put =
    let waits = waits_set values m y n in
    let tooks = set_same (λ (u : Share). u.took) shares t s r there took in
    let puts = set_same (λ (u : Share). u.put) shares t s r there put in
    let both : waiting_in values ++ all_took shares ≡ waiting_in (slice_set values m y) ++ all_took (slice_set shares t r) =
    sym (ap (λ l. l ++ all_took (slice_set shares t r)) waits ∙ ap (λ l. waiting_in values ++ l) tooks) in (
      subst (λ l. IsPermutation l (root ∷ all_put (slice_set shares t r))) both
          (subst (λ l. IsPermutation (waiting_in values ++ all_took shares) (root ∷ l)) (sym puts) h.dirs),
      subst AreDistinct both h.once,
    )

keeps_ring : (root : Path) (values : List IndexValue) (shares : List Share) → KeepsWork root values shares → (m : ℕ) (q p : Held IndexItem)
    → get_elem? values m ≡ some (Ring q)
    → (t : ℕ) (s r : Share) → get_elem? shares t ≡ some s → IsAfter m (Ring p) → MovesItems root m q p s r
    → KeepsWork root (slice_set values m (Ring p)) (slice_set shares t r)
keeps_ring root values shares h m q p at t s r there kind ok =
    let own = own_of root values shares h t s there in
    let stays : (r.took ≡ s.took) × (r.put ≡ s.put) × (r.files ≡ s.files) × KeepsOwn root r = ⊎_elim
    (λ (o : (p ≡ q) × (r ≡ s)). (
      ap (λ (u : Share). u.took) o.1,
      ap (λ (u : Share). u.put) o.1,
      ap (λ (u : Share). u.files) o.1,
      subst (KeepsOwn root) (sym o.1) own,
    ))
    (λ (o : (d : Did IndexItem) × Does d q p × MayDo root m d s × (r ≡ noted m d s)). (
      ap (λ (u : Share). u.took) o.3,
      ap (λ (u : Share). u.put) o.3,
      ap (λ (u : Share). u.files) o.3,
      subst (KeepsOwn root) (sym o.3) (own_did root m o.0 s o.2 own),
    ))
    ok in
    let dirs = same_dirs root values shares h m (Ring p) kind t s r there stays.0 stays.1 in
    record {
      kinds = kinds_set values m (Ring p) h.kinds kind;
      rings = rings_set root values shares h m (Ring q) (Ring p) at t s r there ok;
      dirs = dirs.0;
      once = dirs.1;
      dirs_counted = (let was = h.dirs_counted in let same = count_set dirs_of values m (Ring p) kind in
          let now = put_set shares t s r there in let put = ap (λ (l : List Path). length l) stays.1 in omega arith);
      files_counted = (let was = h.files_counted in let same = count_set files_of values m (Ring p) kind in
          let now = files_set shares t s r there in let files = stays.2 in omega arith);
      own = all_set (KeepsOwn root) shares t r stays.3 h.own;
    }

keeps_dirs : (root : Path) (values : List IndexValue) (shares : List Share) → KeepsWork root values shares → (x y : IndexValue)
    → get_elem? values 0 ≡ some x
    → (t : ℕ) (s r : Share) → get_elem? shares t ≡ some s → IsAfter 0 y → Moves root 0 x y s r
    → MovesDirs (waiting_of x) (waiting_of y) s r → MovesCounts x y s r → KeepsWork root (slice_set values 0 y) (slice_set shares t r)
keeps_dirs root values shares h x y at t s r there kind ok go counts =
    let first = first_waits values x at in
    let last = waits_first values x y at in
    let went : MovesDirs (waiting_in values) (waiting_of y) s r = subst (λ l. MovesDirs l (waiting_of y) s r) (sym first) go in
    record {
      kinds = kinds_set values 0 y h.kinds kind;
      rings = rings_set root values shares h 0 x y at t s r there ok;
      dirs = subst (λ l. IsPermutation (l ++ all_took (slice_set shares t r)) (root ∷ all_put (slice_set shares t r))) (sym last)
          (dirs_moved root values shares h t s there (waiting_of y) r went);
      once = subst (λ l. AreDistinct (l ++ all_took (slice_set shares t r))) (sym last)
          (once_moved root values shares h t s there (waiting_of y) r went);
      dirs_counted = (let was = h.dirs_counted in let a = count_first dirs_of values x at in let b = count_last dirs_of values x y at in
          let now = put_set shares t s r there in let more = counts.dirs in omega arith);
      files_counted = (let was = h.files_counted in let a = count_first files_of values x at in let b = count_last files_of values x y at in
          let now = files_set shares t s r there in let more = counts.files in omega arith);
      own = all_set (KeepsOwn root) shares t r (own_moved root values shares h t s there (waiting_in values) (waiting_of y) r went) h.own;
    }

keeps_moved : (root : Path) (values : List IndexValue) (shares : List Share) → KeepsWork root values shares → (m : ℕ) (x y : IndexValue)
    → get_elem? values m ≡ some x
    → (t : ℕ) (s r : Share) → get_elem? shares t ≡ some s → IsAfter m x → IsAfter m y → Moves root m x y s r
    → KeepsWork root (slice_set values m y) (slice_set shares t r)
keeps_moved root values shares h m (Dirs d) (Dirs e) at t s r there was kind ok =
    subst (λ k. KeepsWork root (slice_set values k (Dirs e)) (slice_set shares t r)) (sym kind)
    (keeps_dirs root values shares h (Dirs d) (Dirs e) (subst (λ k. get_elem? values k ≡ some (Dirs d)) kind at) t s r there refl ok ok.0
    ok.1)
keeps_moved root values shares h m (Ring q) (Ring p) at t s r there was kind ok =
    keeps_ring root values shares h m q p at t s r there kind ok
keeps_moved root values shares h m (Dirs d) (Ring p) at t s r there was kind ok = absurd ok
keeps_moved root values shares h m (Ring q) (Dirs e) at t s r there was kind ok = absurd ok

pub keeps_work : (root : Path) (values : List IndexValue) (shares : List Share) → KeepsWork root values shares → (m : ℕ) (x y : IndexValue)
    → get_elem? values m ≡ some x
    → (t : ℕ) (s r : Share) → get_elem? shares t ≡ some s → MayChange root m x y s r
    → KeepsWork root (slice_set values m y) (slice_set shares t r)
keeps_work root values shares h m x y at t s r there ok =
    keeps_moved root values shares h m x y at t s r there (h.kinds m x at) ok.kind ok.moves
