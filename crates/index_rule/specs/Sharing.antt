-- All shares together.
use Rattle.std.proofs.Common.{◌≡◌, ℕ, ◌+◌, ◌≤◌, List, [], ◌∷◌, ◌++◌, map, take, drop, slice_set, zero, suc, inl, inr, sym, ap, subst, ◌∙◌, refl, arith, append_assoc}
use Rattle.std.specs.Prelude.{Contains, All}
use Rattle.std.specs.List.{flat_map, enumerate_from}
use Rattle.std.specs.List.Sorted.{IsPermutation}
use Rattle.std.proofs.lemmas.List.{take-append-drop}
use Rattle.std.proofs.lemmas.List.Concat.{flat_map-append}
use Rattle.std.proofs.lemmas.List.Elements.{All-append, All-drop, All-head, All-nil, All-tail, All-take, All-cons, Contains-append_cases, Contains-append_left, Contains-append_right}
use Rattle.std.proofs.lemmas.List.Sorted.{All-permutation, IsPermutation-refl, IsPermutation-sym, IsPermutation-trans, IsPermutation-append_left, IsPermutation-append_right, IsPermutation-append_comm}
use mathlib.Core.Option.{some, some-injective, some-ne-none}
use lib.ListN.{get_elem?}
use Rattle.bounded_buffer.specs.declared.note.Note.{Note}
use Rattle.bounded_buffer.specs.Parts.{Used}
use Rattle.bounded_buffer.specs.Plain.{BufferRule, part_of, pairs_of, all_puts, all_takes}
use Rattle.bounded_buffer.specs.Rings.{Held}
use Rattle.firefly_outside.specs.Trees.{Path}
use Rattle.index_rule.specs.Counting.{times, times-append, times-flat_map-permutation, distinct_times, times_distinct, all_at, all_from, contains_nil, contains_head, contains_tail, distinct_right, distinct_across}
use Rattle.index_rule.specs.Distinct.{AreDistinct}
use Rattle.index_rule.specs.Shares.{Share, paths_of, paths_in, paths_put, paths_taken}
use Rattle.index_rule.specs.Work.{notes_of, paths_at}
use Rattle.index_rule.specs.declared.value.IndexItem.{IndexItem}

-- some element of the list has this
pub record IsAt {X Y : Type 0} (f : X → List Y) (xs : List X) (y : Y) : Type 0 where
  pub place : ℕ
  pub one : X
  pub at : get_elem? xs place ≡ some one
  pub is : Contains (f one) y

module _ {X : Type 0} where
  pub all_at_place : (P : X → Type 0) (xs : List X) (t : ℕ) (x : X) → All P xs → get_elem? xs t ≡ some x → P x
  all_at_place P [] t x all e = absurd (some-ne-none x (sym e))
  all_at_place P (y ∷ xs) zero x all e = subst P (some-injective y x e) (All-head P y xs all)
  all_at_place P (y ∷ xs) (suc t) x all e = all_at_place P xs t x (All-tail P y xs all) e

  pub all_set : (P : X → Type 0) (xs : List X) (t : ℕ) (x : X) → P x → All P xs → All P (slice_set xs t x)
  all_set P [] t x p all = all
  all_set P (y ∷ xs) zero x p all = All-cons P x xs p (All-tail P y xs all)
  all_set P (y ∷ xs) (suc t) x p all = All-cons P y (slice_set xs t x) (All-head P y xs all) (all_set P xs t x p (All-tail P y xs all))

  pub at_map : {Y : Type 0} (f : X → Y) (xs : List X) (t : ℕ) (x : X) → get_elem? xs t ≡ some x → get_elem? (map f xs) t ≡ some (f x)
  at_map f [] t x e = absurd (some-ne-none x (sym e))
  at_map f (y ∷ xs) zero x e = ap (λ z. some (f z)) (some-injective y x e)
  at_map f (y ∷ xs) (suc t) x e = at_map f xs t x e

  pub at_unmap : {Y : Type 0} (f : X → Y) (xs : List X) (t : ℕ) (y : Y) → get_elem? (map f xs) t ≡ some y → (x : X)
      × (get_elem? xs t ≡ some x) × (f x ≡ y)
  at_unmap f [] t y e = absurd (some-ne-none y (sym e))
  at_unmap f (x ∷ xs) zero y e = (x, refl, some-injective (f x) y e)
  at_unmap f (x ∷ xs) (suc t) y e = at_unmap f xs t y e

  pub map_set : {Y : Type 0} (f : X → Y) (xs : List X) (t : ℕ) (x : X) → slice_set (map f xs) t (f x) ≡ map f (slice_set xs t x)
  map_set f [] t x = refl
  map_set f (y ∷ xs) zero x = refl
  map_set f (y ∷ xs) (suc t) x = ap (λ l. f y ∷ l) (map_set f xs t x)

  pub at_contains : (xs : List X) (t : ℕ) (x : X) → get_elem? xs t ≡ some x → Contains xs x
  at_contains [] t x e = absurd (some-ne-none x (sym e))
  at_contains (y ∷ xs) zero x e = subst (Contains (y ∷ xs)) (some-injective y x e) (contains_head y xs)
  at_contains (y ∷ xs) (suc t) x e = contains_tail y xs x (at_contains xs t x e)

module _ {X Y : Type 0} (f : X → List Y) where
  -- what one list has, all lists have together
  pub of_all : (xs : List X) (t : ℕ) (x : X) (y : Y) → get_elem? xs t ≡ some x → Contains (f x) y → Contains (flat_map f xs) y
  of_all [] t x y e h = absurd (some-ne-none x (sym e))
  of_all (z ∷ xs) zero x y e h = Contains-append_left (f z) (flat_map f xs) y (subst (λ w. Contains (f w) y) (sym (some-injective z x e)) h)
  of_all (z ∷ xs) (suc t) x y e h = Contains-append_right (f z) (flat_map f xs) y (of_all xs t x y e h)

  pub at_one : (xs : List X) (y : Y) → Contains (flat_map f xs) y → IsAt f xs y
  at_one [] y h = absurd (contains_nil y h)
  at_one (x ∷ xs) y h = elim (Contains-append_cases (f x) (flat_map f xs) y h) [
    | inl here ↦ record { place = 0; one = x; at = refl; is = here }
    | inr there ↦ (let o = at_one xs y there in record { place = suc o.place; one = o.one; at = o.at; is = o.is })
  ]

  pub set_same : (xs : List X) (t : ℕ) (x r : X) → get_elem? xs t ≡ some x → f r ≡ f x → flat_map f (slice_set xs t r) ≡ flat_map f xs
  set_same [] t x r e same = refl
  set_same (z ∷ xs) zero x r e same = ap (λ l. l ++ flat_map f xs) (same ∙ ap f (sym (some-injective z x e)))
  set_same (z ∷ xs) (suc t) x r e same = ap (λ l. f z ++ l) (set_same xs t x r e same)

  pub set_more : (xs : List X) (t : ℕ) (x r : X) (more : List Y) → get_elem? xs t ≡ some x → f r ≡ more ++ f x
      → IsPermutation (flat_map f (slice_set xs t r)) (more ++ flat_map f xs)
  set_more [] t x r more e grows = absurd (some-ne-none x (sym e))
  set_more (z ∷ xs) zero x r more e grows =
      subst (λ l. IsPermutation l (more ++ flat_map f (z ∷ xs)))
      (sym (ap (λ l. l ++ flat_map f xs) (grows ∙ ap (λ y. more ++ f y) (sym (some-injective z x e)))
      ∙ append_assoc more (f z) (flat_map f xs)))
      (IsPermutation-refl (more ++ flat_map f (z ∷ xs)))
  set_more (z ∷ xs) (suc t) x r more e grows =
      let rest = flat_map f xs in
      IsPermutation-trans (f z ++ flat_map f (slice_set xs t r)) (f z ++ (more ++ rest)) (more ++ (f z ++ rest))
      (IsPermutation-append_right (f z) (flat_map f (slice_set xs t r)) (more ++ rest) (set_more xs t x r more e grows))
      (subst (λ l. IsPermutation l (more ++ (f z ++ rest))) (append_assoc (f z) more rest)
      (subst (λ l. IsPermutation ((f z ++ more) ++ rest) l) (append_assoc more (f z) rest)
      (IsPermutation-append_left rest (f z ++ more) (more ++ f z) (IsPermutation-append_comm (f z) more))))

module _ {X : Type 0} (f : X → List Path) where
  -- one list has it no more often than all together
  pub times_part : (p : Path) (xs : List X) (t : ℕ) (x : X) → get_elem? xs t ≡ some x → times p (f x) ≤ times p (flat_map f xs)
  times_part p [] t x e = absurd (some-ne-none x (sym e))
  times_part p (z ∷ xs) zero x e = let both = times-append p (f z) (flat_map f xs) in
      let same = ap (λ y. times p (f y)) (some-injective z x e) in omega arith
  times_part p (z ∷ xs) (suc t) x e = let both = times-append p (f z) (flat_map f xs) in let rest = times_part p xs t x e in omega arith

  pub distinct_part : (ys : List Path) (xs : List X) (t : ℕ) (x : X) → get_elem? xs t ≡ some x → AreDistinct (ys ++ flat_map f xs)
      → AreDistinct (ys ++ f x)
  distinct_part ys xs t x e apart = times_distinct (ys ++ f x) (λ p.
      let one = times-append p ys (f x) in
      let all = times-append p ys (flat_map f xs) in
      let most = distinct_times p (ys ++ flat_map f xs) apart in
      let part = times_part p xs t x e in
      omega arith)

  -- only one of the lists has the path
  pub one_place : (xs : List X) (i j : ℕ) (x y : X) (p : Path) → AreDistinct (flat_map f xs) → get_elem? xs i ≡ some x
      → get_elem? xs j ≡ some y → Contains (f x) p → Contains (f y) p → i ≡ j
  one_place [] i j x y p apart a b h k = absurd (some-ne-none x (sym a))
  one_place (z ∷ xs) zero zero x y p apart a b h k = refl
  one_place (z ∷ xs) zero (suc j) x y p apart a b h k =
      absurd (distinct_across (f z) (flat_map f xs) p apart (subst (λ w. Contains (f w) p) (sym (some-injective z x a)) h)
      (of_all f xs j y p b k))
  one_place (z ∷ xs) (suc i) zero x y p apart a b h k =
      absurd (distinct_across (f z) (flat_map f xs) p apart (subst (λ w. Contains (f w) p) (sym (some-injective z y b)) k)
      (of_all f xs i x p a h))
  one_place (z ∷ xs) (suc i) (suc j) x y p apart a b h k =
      ap suc (one_place xs i j x y p (distinct_right (f z) (flat_map f xs) apart) a b h k)

-- the files of all items at a buffer
paths_over : (root : Path) (f : Used IndexItem → List (ℕ × IndexItem)) (m : ℕ) (shares : List Share)
    → paths_in root (pairs_of f m (notes_of shares)) ≡ flat_map (λ s. paths_in root (f (part_of s.notes m))) shares
paths_over root f m [] = refl
paths_over root f m (s ∷ shares) =
    flat_map-append (λ p. paths_of root p.1) (f (part_of s.notes m)) (pairs_of f m (notes_of shares))
    ∙ ap (λ l. paths_in root (f (part_of s.notes m)) ++ l) (paths_over root f m shares)

numbered : (root : Path) (n : ℕ) (items : List IndexItem) → paths_in root (enumerate_from n items) ≡ flat_map (paths_of root) items
numbered root n [] = refl
numbered root n (i ∷ items) = ap (λ l. paths_of root i ++ l) (numbered root (n + 1) items)

-- each file was put as often as it was taken or is in the ring
pub counted : (root : Path) (m : ℕ) (q : Held IndexItem) (shares : List Share) → BufferRule m q (notes_of shares)
    → (p : Path) → times p (flat_map (paths_put root m) shares) ≡ times p (flat_map (paths_taken root m) shares) + times p (paths_at root q)
counted root m q shares rule p =
    let pair : ℕ × IndexItem → List Path = λ x. paths_of root x.1 in
    let notes = notes_of shares in
    let prefix = take q.taken rule.log in
    let back = drop q.taken rule.log in
    let puts : times p (flat_map (paths_put root m) shares) ≡ times p (flat_map (paths_of root) rule.log) =
    ap (times p) (sym (paths_over root (λ u. u.puts) m shares))
    ∙ (sym (times-flat_map-permutation p pair (all_puts m notes) (enumerate_from 0 rule.log) rule.puts)
    ∙ ap (times p) (numbered root 0 rule.log)) in
    let takes : times p (flat_map (paths_taken root m) shares) ≡ times p (flat_map (paths_of root) prefix) =
    ap (times p) (sym (paths_over root (λ u. u.takes) m shares))
    ∙ (sym (times-flat_map-permutation p pair (all_takes m notes) (enumerate_from 0 prefix) rule.takes)
    ∙ ap (times p) (numbered root 0 prefix)) in
    let split : times p (flat_map (paths_of root) rule.log) ≡ times p (flat_map (paths_of root) prefix)
    + times p (flat_map (paths_of root) back) =
    ap (λ l. times p (flat_map (paths_of root) l)) (sym (take-append-drop q.taken rule.log))
    ∙ (ap (times p) (flat_map-append (paths_of root) prefix back)
    ∙ times-append p (flat_map (paths_of root) prefix) (flat_map (paths_of root) back)) in
    let left : times p (paths_at root q) ≡ times p (flat_map (paths_of root) back) =
    ap (λ l. times p (flat_map (paths_of root) l)) rule.left in
    omega arith

-- if all items that threads put at a buffer are of a kind, so are all that are there, and all that
-- threads took there
module _ (fits : IndexItem → Type 0) where
  abbrev Fits : ℕ × IndexItem → Type 0
  Fits p = fits p.1

  of_pairs : (f : Used IndexItem → List (ℕ × IndexItem)) (m : ℕ) (notes : List (List (Note IndexItem)))
      → ((t : ℕ) (s : List (Note IndexItem)) → get_elem? notes t ≡ some s → All Fits (f (part_of s m))) → All Fits (pairs_of f m notes)
  of_pairs f m [] each = All-nil Fits
  of_pairs f m (s ∷ notes) each =
      All-append Fits (f (part_of s m)) (pairs_of f m notes) (each 0 s refl) (of_pairs f m notes (λ t u e. each (suc t) u e))

  each_pair : (f : Used IndexItem → List (ℕ × IndexItem)) (m : ℕ) (notes : List (List (Note IndexItem))) → All Fits (pairs_of f m notes)
      → (t : ℕ) (s : List (Note IndexItem)) → get_elem? notes t ≡ some s → All Fits (f (part_of s m))
  each_pair f m [] all t s e = absurd (some-ne-none s (sym e))
  each_pair f m (u ∷ notes) all zero s e =
      subst (λ v. All Fits (f (part_of v m))) (some-injective u s e)
      (all_from Fits (f (part_of u m))
      (λ p h. all_at Fits (pairs_of f m (u ∷ notes)) p all (Contains-append_left (f (part_of u m)) (pairs_of f m notes) p h)))
  each_pair f m (u ∷ notes) all (suc t) s e =
      each_pair f m notes (all_from Fits (pairs_of f m notes)
      (λ p h. all_at Fits (pairs_of f m (u ∷ notes)) p all (Contains-append_right (f (part_of u m)) (pairs_of f m notes) p h))) t s e

  without_numbers : (n : ℕ) (items : List IndexItem) → All Fits (enumerate_from n items) → All fits items
  without_numbers n [] all = All-nil fits
  without_numbers n (i ∷ items) all =
      All-cons fits i items (All-head Fits (n, i) (enumerate_from (n + 1) items) all)
      (without_numbers (n + 1) items (All-tail Fits (n, i) (enumerate_from (n + 1) items) all))

  with_numbers : (n : ℕ) (items : List IndexItem) → All fits items → All Fits (enumerate_from n items)
  with_numbers n [] all = All-nil Fits
  with_numbers n (i ∷ items) all =
      All-cons Fits (n, i) (enumerate_from (n + 1) items) (All-head fits i items all)
      (with_numbers (n + 1) items (All-tail fits i items all))

  logged : (m : ℕ) (q : Held IndexItem) (notes : List (List (Note IndexItem))) (rule : BufferRule m q notes)
      → ((t : ℕ) (s : List (Note IndexItem)) → get_elem? notes t ≡ some s → All Fits (part_of s m).puts) → All fits rule.log
  logged m q notes rule puts = without_numbers 0 rule.log
      (All-permutation Fits (all_puts m notes) (enumerate_from 0 rule.log) rule.puts (of_pairs (λ u. u.puts) m notes puts))

  pub items_fit : (m : ℕ) (q : Held IndexItem) (notes : List (List (Note IndexItem))) → BufferRule m q notes
      → ((t : ℕ) (s : List (Note IndexItem)) → get_elem? notes t ≡ some s → All Fits (part_of s m).puts) → All fits q.items
  items_fit m q notes rule puts = subst (All fits) (sym rule.left) (All-drop fits q.taken rule.log (logged m q notes rule puts))

  pub takes_fit : (m : ℕ) (q : Held IndexItem) (notes : List (List (Note IndexItem))) → BufferRule m q notes
      → ((t : ℕ) (s : List (Note IndexItem)) → get_elem? notes t ≡ some s → All Fits (part_of s m).puts)
      → (t : ℕ) (s : List (Note IndexItem)) → get_elem? notes t ≡ some s → All Fits (part_of s m).takes
  takes_fit m q notes rule puts t s there =
      let first = take q.taken rule.log in
      each_pair (λ u. u.takes) m notes
      (All-permutation Fits (enumerate_from 0 first) (all_takes m notes)
      (IsPermutation-sym (all_takes m notes) (enumerate_from 0 first) rule.takes)
      (with_numbers 0 first (All-take fits q.taken rule.log (logged m q notes rule puts)))) t s there
