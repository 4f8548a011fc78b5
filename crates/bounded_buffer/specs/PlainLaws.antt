-- Each allowed change keeps the rule of plain buffers.
use Rattle.std.specs.Prelude.{◌≡◌, ◌≢◌, ◌⊎◌, ℕ, ◌+◌, ◌<◌, ◌≤◌, Bool, true, false, ◌||◌, cond, eqb, List, [], ◌∷◌, ◌++◌, length, take, drop, slice_set, Some}
use Rattle.std.proofs.Common.{zero, suc, arith, sym, ap, subst, ◌∙◌, ⊎_elim, refl, length-append, add-one, inl, inr}
use Rattle.std.specs.List.{All, enumerate_from}
use Rattle.std.specs.List.Sorted.{IsPermutation}
use Rattle.std.proofs.lemmas.List.Sorted.{IsPermutation-refl, IsPermutation-sym, IsPermutation-trans, IsPermutation-cons, IsPermutation-append_right, IsPermutation-middle, IsPermutation-to_front, All-permutation}
use Rattle.std.proofs.lemmas.List.{drop-append-le, take-append-le, length-drop, length-take-le}
use Rattle.std.proofs.lemmas.List.Elements.{All-nil, All-cons, All-head, All-tail}
use Rattle.std.proofs.lemmas.Bool.{eq-eqb, cases_eq}
use Rattle.std.proofs.lemmas.Option.{same_Some}
use Rattle.std.proofs.Math.Seq.{drop-append_seam, drop-length}
use Rattle.std.proofs.lemmas.Bool.Decides.{nat_tests}
use mathlib.Core.Option.{some, some-injective, some-ne-none}
use lib.ListN.{get_elem?}
use Rattle.atomic_table.proofs.Lists.{at_set}
use Rattle.bounded_buffer.specs.declared.at.BufferAt.{BufferAt}
use Rattle.bounded_buffer.specs.declared.did.Did.{Did}
use Rattle.bounded_buffer.specs.declared.did.Did.TheVariants.{Put, Took, Shut, SawShut, SawEnd, WaitedFull, WaitedEmpty}
use Rattle.bounded_buffer.specs.declared.note.Note.{Note}
use Rattle.bounded_buffer.specs.Parts.{Used, did, IsWithin, IsOfPut, IsOfTake, IsWait, Waits, HasDone}
use Rattle.bounded_buffer.specs.Rings.{Held, Does, put_count, with_last, without_first, shut_now}
use Rattle.bounded_buffer.specs.Plain.{note, part_of, pairs_of, all_puts, all_takes, any_shut, BufferRule, Keeps, Allowed, IsPlain, kept, is_wait, put_by, take_by, put_did, take_did}

or-true : (a : Bool) → (a || true) ≡ true
or-true true = refl
or-true false = refl

All-prefix : {X : Type 0} (P : X → Type 0) (xs ys : List X) → All P (xs ++ ys) → All P xs
All-prefix P [] ys all = All-nil P
All-prefix P (x ∷ xs) ys all = All-cons P x xs (All-head P x (xs ++ ys) all) (All-prefix P xs ys (All-tail P x (xs ++ ys) all))

All-back : {X : Type 0} (P : X → Type 0) (xs ys : List X) → All P (xs ++ ys) → All P ys
All-back P [] ys all = all
All-back P (x ∷ xs) ys all = All-back P xs ys (All-tail P x (xs ++ ys) all)

clash : {b : Bool} → b ≡ false → b ≡ true → ⊥
clash a b = cc

module _ {T : Type 0} where
  pub part_here : (m : ℕ) (d : Did T) (s : List (Note T)) → part_of (note m d ∷ s) m ≡ did d (part_of s m)
  part_here m d s = rw (eq-eqb m m refl) refl

  pub part_there : (m k : ℕ) (d : Did T) (s : List (Note T)) → k ≢ m → part_of (note m d ∷ s) k ≡ part_of s k
  part_there m k d s n = grind (arith, nat_tests)

  -- the pairs of all shares stay if a share is replaced by one with the same pairs
  pairs_same : (f : Used T → List (ℕ × T)) (m : ℕ) (shares : List (List (Note T))) (t : ℕ) (s r : List (Note T))
      → get_elem? shares t ≡ some s
      → f (part_of r m) ≡ f (part_of s m) → pairs_of f m (slice_set shares t r) ≡ pairs_of f m shares
  pairs_same f m [] t s r e same = refl
  pairs_same f m (x ∷ shares) zero s r e same =
      ap (λ l. l ++ pairs_of f m shares) (same ∙ ap (λ y. f (part_of y m)) (sym (some-injective x s e)))
  pairs_same f m (x ∷ shares) (suc t) s r e same = ap (λ l. f (part_of x m) ++ l) (pairs_same f m shares t s r e same)

  -- they grow by one if it is replaced by one with a pair more
  pairs_more : (f : Used T → List (ℕ × T)) (m : ℕ) (shares : List (List (Note T))) (t : ℕ) (s r : List (Note T)) (p : ℕ × T)
      → get_elem? shares t ≡ some s
      → f (part_of r m) ≡ p ∷ f (part_of s m) → IsPermutation (pairs_of f m (slice_set shares t r)) (p ∷ pairs_of f m shares)
  pairs_more f m [] t s r p e more = absurd (some-ne-none s (sym e))
  pairs_more f m (x ∷ shares) zero s r p e more =
      let same : f (part_of r m) ≡ p ∷ f (part_of x m) = more ∙ ap (λ y. p ∷ f (part_of y m)) (sym (some-injective x s e)) in
      subst (λ l. IsPermutation (l ++ pairs_of f m shares) (p ∷ pairs_of f m (x ∷ shares))) (sym same)
      (IsPermutation-refl (p ∷ pairs_of f m (x ∷ shares)))
  pairs_more f m (x ∷ shares) (suc t) s r p e more =
      let own = f (part_of x m) in
      let rest = pairs_of f m shares in
      IsPermutation-trans (own ++ pairs_of f m (slice_set shares t r)) (own ++ p ∷ rest) (p ∷ (own ++ rest))
      (IsPermutation-append_right own (pairs_of f m (slice_set shares t r)) (p ∷ rest) (pairs_more f m shares t s r p e more))
      (IsPermutation-middle own p rest)

  any_same : (m : ℕ) (shares : List (List (Note T))) (t : ℕ) (s r : List (Note T)) → get_elem? shares t ≡ some s
      → (part_of r m).shut ≡ (part_of s m).shut → any_shut m (slice_set shares t r) ≡ any_shut m shares
  any_same m [] t s r e same = refl
  any_same m (x ∷ shares) zero s r e same =
      ap (λ b. b || any_shut m shares) (same ∙ ap (λ y. (part_of y m).shut) (sym (some-injective x s e)))
  any_same m (x ∷ shares) (suc t) s r e same = ap (λ b. (part_of x m).shut || b) (any_same m shares t s r e same)

  any_more : (m : ℕ) (shares : List (List (Note T))) (t : ℕ) (s r : List (Note T)) → get_elem? shares t ≡ some s
      → (part_of r m).shut ≡ true → any_shut m (slice_set shares t r) ≡ true
  any_more m [] t s r e shut = absurd (some-ne-none s (sym e))
  any_more m (x ∷ shares) zero s r e shut = ap (λ b. b || any_shut m shares) shut
  any_more m (x ∷ shares) (suc t) s r e shut = ap (λ b. (part_of x m).shut || b) (any_more m shares t s r e shut)
      ∙ or-true (part_of x m).shut

  -- what follows from a mark in any share still follows after a share was replaced
  marks_set : {P : Type 0} (f : Used T → Bool) (m : ℕ) (shares : List (List (Note T))) (t : ℕ) (r : List (Note T))
      → ((j : ℕ) (u : List (Note T)) → get_elem? shares j ≡ some u → f (part_of u m) ≡ true → P) → (f (part_of r m) ≡ true → P)
      → (j : ℕ) (u : List (Note T)) → get_elem? (slice_set shares t r) j ≡ some u → f (part_of u m) ≡ true → P
  marks_set f m shares t r old new j u e is = ⊎_elim
      (λ (p : (j ≡ t) × (r ≡ u)). new (ap (λ y. f (part_of y m)) p.1 ∙ is))
      (λ (p : (j ≢ t) × (get_elem? shares j ≡ some u)). old j u p.1 is)
      (at_set shares t j r u e)

  all_taken : (q : Held T) (log : List T) → q.items ≡ drop q.taken log → q.taken ≤ length log → q.items ≡ [] → q.taken ≡ length log
  all_taken q log left taken none =
      let a = ap length left in
      let b = ap length none in
      let c = length-drop q.taken log in
      omega arith

  -- the rule is kept if the replaced share has the same puts, takes and shutting
  rule_same : (m : ℕ) (q : Held T) (shares : List (List (Note T))) (t : ℕ) (s r : List (Note T)) → get_elem? shares t ≡ some s
      → (part_of r m).puts ≡ (part_of s m).puts → (part_of r m).takes ≡ (part_of s m).takes → (part_of r m).shut ≡ (part_of s m).shut
      → ((part_of r m).seen_shut ≡ true → q.shut ≡ true) → ((part_of r m).seen_end ≡ true → (q.shut ≡ true) × (q.items ≡ []))
      → BufferRule m q shares → BufferRule m q (slice_set shares t r)
  rule_same m q shares t s r at puts takes shut seen end h = record {
    log = h.log;
    puts = subst (λ l. IsPermutation l (enumerate_from 0 h.log)) (sym (pairs_same (λ u. u.puts) m shares t s r at puts)) h.puts;
    takes = subst (λ l. IsPermutation l (enumerate_from 0 (take q.taken h.log))) (sym (pairs_same (λ u. u.takes) m shares t s r at takes))
        h.takes;
    taken = h.taken;
    left = h.left;
    room = h.room;
    shut = h.shut ∙ sym (any_same m shares t s r at shut);
    seen_shut = marks_set (λ u. u.seen_shut) m shares t r h.seen_shut seen;
    seen_end = marks_set (λ u. u.seen_end) m shares t r h.seen_end (λ is. let now = end is in
        (now.0, now.1, all_taken q h.log h.left h.taken now.1));
  }

  -- the rule is kept if all stays that the replaced share says of this buffer
  rule_else : (m : ℕ) (q : Held T) (shares : List (List (Note T))) (t : ℕ) (s r : List (Note T)) → get_elem? shares t ≡ some s
      → part_of r m ≡ part_of s m → BufferRule m q shares → BufferRule m q (slice_set shares t r)
  rule_else m q shares t s r at same h =
      rule_same m q shares t s r at (ap (λ u. u.puts) same) (ap (λ u. u.takes) same) (ap (λ u. u.shut) same)
      (λ is. h.seen_shut t s at (ap (λ u. u.seen_shut) (sym same) ∙ is))
      (λ is. let old = h.seen_end t s at (ap (λ u. u.seen_end) (sym same) ∙ is) in (old.0, old.1))
      h

  enumerate-last : (n : ℕ) (xs : List T) (i : T) → enumerate_from n (xs ++ i ∷ []) ≡ enumerate_from n xs ++ (n + length xs, i) ∷ []
  enumerate-last n [] i = let e : n ≡ n + 0 = omega arith in ap (λ k. (k, i) ∷ []) e
  enumerate-last n (x ∷ xs) i =
      let e : (n + 1) + length xs ≡ n + length (x ∷ xs) = omega arith in
      ap (λ l. (n, x) ∷ l) (enumerate-last (n + 1) xs i ∙ ap (λ k. enumerate_from (n + 1) xs ++ (k, i) ∷ []) e)

  -- one more pair, and one more of the log
  one-more : (xa bs : List (ℕ × T)) (xs : List T) (n : ℕ) (i : T) → IsPermutation bs ((n, i) ∷ xa) → IsPermutation xa (enumerate_from 0 xs)
      → n ≡ length xs
      → IsPermutation bs (enumerate_from 0 (xs ++ i ∷ []))
  one-more xa bs xs n i more same is =
      let es = enumerate_from 0 xs in
      let two = IsPermutation-cons (n, i) xa es same in
      let three = IsPermutation-sym (es ++ (n, i) ∷ []) ((n, i) ∷ es) (IsPermutation-to_front es (n, i)) in
      let place : n ≡ 0 + length xs = omega arith in
      let last : es ++ (n, i) ∷ [] ≡ enumerate_from 0 (xs ++ i ∷ []) = ap (λ k. es ++ (k, i) ∷ []) place ∙ sym (enumerate-last 0 xs i) in
      subst (λ l. IsPermutation bs l) last
      (IsPermutation-trans bs ((n, i) ∷ xa) (es ++ (n, i) ∷ []) more
      (IsPermutation-trans ((n, i) ∷ xa) ((n, i) ∷ es) (es ++ (n, i) ∷ []) two three))

  -- an item is put last into an open ring that isn't full
  rule_put : (m : ℕ) (q : Held T) (shares : List (List (Note T))) (t : ℕ) (s r : List (Note T)) (i : T) → get_elem? shares t ≡ some s
      → part_of r m ≡ did (Put (put_count q) i) (part_of s m) → q.shut ≡ false → length q.items < q.capacity
      → BufferRule m q shares → BufferRule m (with_last q i) (slice_set shares t r)
  rule_put m q shares t s r i at here opened room h =
      let lens = length-drop q.taken h.log in
      let same_len = ap length h.left in
      let taken = h.taken in
      let count : put_count q ≡ length h.log = omega arith in
      let longer = length-append h.log (i ∷ []) in
      let none : q.shut ≡ true → ⊥ = λ is. clash opened is in
      record {
        log = h.log ++ i ∷ [];
        puts = one-more (all_puts m shares) (all_puts m (slice_set shares t r)) h.log (put_count q) i
            (pairs_more (λ u. u.puts) m shares t s r (put_count q, i) at (ap (λ u. u.puts) here)) h.puts count;
        takes =
            let same : all_takes m (slice_set shares t r) ≡ all_takes m shares =
            pairs_same (λ u. u.takes) m shares t s r at (ap (λ u. u.takes) here) in
            let prefix : take q.taken (h.log ++ i ∷ []) ≡ take q.taken h.log = take-append-le q.taken h.log (i ∷ []) taken in
            subst (λ l. IsPermutation (all_takes m (slice_set shares t r)) (enumerate_from 0 l)) (sym prefix)
            (subst (λ l. IsPermutation l (enumerate_from 0 (take q.taken h.log))) (sym same) h.takes);
        taken = omega arith;
        left = ap (λ l. l ++ i ∷ []) h.left ∙ sym (drop-append-le q.taken h.log (i ∷ []) taken);
        room = let long = length-append q.items (i ∷ []) in omega arith;
        shut = h.shut ∙ sym (any_same m shares t s r at (ap (λ u. u.shut) here));
        seen_shut = marks_set (λ u. u.seen_shut) m shares t r h.seen_shut
            (λ is. h.seen_shut t s at (ap (λ u. u.seen_shut) (sym here) ∙ is));
        seen_end = marks_set (λ u. u.seen_end) m shares t r (λ j u e is. absurd (none (h.seen_end j u e is).0))
            (λ is. absurd (none (h.seen_end t s at (ap (λ u. u.seen_end) (sym here) ∙ is)).0));
      }

  some_item : (xs : List T) (i : T) (rest : List T) → xs ≡ i ∷ rest → xs ≡ [] → ⊥
  some_item xs i rest a b = cc

  -- the item at the place k of the log, and the items after it
  record IsNext (k : ℕ) (log : List T) (i : T) (rest : List T) : Type 0 where
    within : k < length log
    following : drop (suc k) log ≡ rest
    before : take (suc k) log ≡ take k log ++ i ∷ []
    long : length (take k log) ≡ k

  is-next : (k : ℕ) (log : List T) (i : T) (rest : List T) → drop k log ≡ i ∷ rest → IsNext k log i rest
  is-next zero [] i rest e = absurd (cc)
  is-next (suc k) [] i rest e = absurd (cc)
  is-next zero (x ∷ log) i rest e =
      let head : x ≡ i = cc in
      let tail : log ≡ rest = cc in
      record { within = omega arith; following = tail; before = ap (λ y. y ∷ []) head; long = refl }
  is-next (suc k) (x ∷ log) i rest e =
      let n = is-next k log i rest e in
      let low = n.within in
      let long = n.long in
      record { within = omega arith; following = n.following; before = ap (λ l. x ∷ l) n.before; long = omega arith }

  -- the first item is taken
  rule_take : (m : ℕ) (q : Held T) (shares : List (List (Note T))) (t : ℕ) (s r : List (Note T)) (i : T) (rest : List T)
      → get_elem? shares t ≡ some s
      → part_of r m ≡ did (Took q.taken i) (part_of s m) → q.items ≡ i ∷ rest
      → BufferRule m q shares → BufferRule m (without_first q rest) (slice_set shares t r)
  rule_take m q shares t s r i rest at here first h =
      let next = is-next q.taken h.log i rest (sym h.left ∙ first) in
      let low = next.within in
      let none : q.items ≡ [] → ⊥ = λ is. some_item q.items i rest first is in
      record {
        log = h.log;
        puts = subst (λ l. IsPermutation l (enumerate_from 0 h.log))
            (sym (pairs_same (λ u. u.puts) m shares t s r at (ap (λ u. u.puts) here))) h.puts;
        takes =
            let more = one-more (all_takes m shares) (all_takes m (slice_set shares t r)) (take q.taken h.log) q.taken i
            (pairs_more (λ u. u.takes) m shares t s r (q.taken, i) at (ap (λ u. u.takes) here)) h.takes (sym next.long) in
            subst (λ l. IsPermutation (all_takes m (slice_set shares t r)) (enumerate_from 0 l))
            (sym (ap (λ j. take j h.log) (add-one q.taken) ∙ next.before)) more;
        taken = omega arith;
        left = sym (ap (λ j. drop j h.log) (add-one q.taken) ∙ next.following);
        room = let a = ap length first in let b = h.room in omega arith;
        shut = h.shut ∙ sym (any_same m shares t s r at (ap (λ u. u.shut) here));
        seen_shut = marks_set (λ u. u.seen_shut) m shares t r h.seen_shut
            (λ is. h.seen_shut t s at (ap (λ u. u.seen_shut) (sym here) ∙ is));
        seen_end = marks_set (λ u. u.seen_end) m shares t r (λ j u e is. absurd (none (h.seen_end j u e is).1))
            (λ is. absurd (none (h.seen_end t s at (ap (λ u. u.seen_end) (sym here) ∙ is)).1));
      }

  rule_shut : (m : ℕ) (q : Held T) (shares : List (List (Note T))) (t : ℕ) (s r : List (Note T)) → get_elem? shares t ≡ some s
      → part_of r m ≡ did Shut (part_of s m) → BufferRule m q shares → BufferRule m (shut_now q) (slice_set shares t r)
  rule_shut m q shares t s r at here h = record {
    log = h.log;
    puts = subst (λ l. IsPermutation l (enumerate_from 0 h.log)) (sym (pairs_same (λ u. u.puts) m shares t s r at (ap (λ u. u.puts) here)))
        h.puts;
    takes = subst (λ l. IsPermutation l (enumerate_from 0 (take q.taken h.log)))
        (sym (pairs_same (λ u. u.takes) m shares t s r at (ap (λ u. u.takes) here))) h.takes;
    taken = h.taken;
    left = h.left;
    room = h.room;
    shut = sym (any_more m shares t s r at (ap (λ u. u.shut) here));
    seen_shut = λ j u e is. refl;
    seen_end = marks_set (λ u. u.seen_end) m shares t r (λ j u e is. let old = h.seen_end j u e is in (refl, old.1, old.2))
        (λ is. let old = h.seen_end t s at (ap (λ u. u.seen_end) (sym here) ∙ is) in (refl, old.1, old.2));
  }

  -- whatever a thread does, the rule is kept
  rule_did : (m : ℕ) (d : Did T) (q p : Held T) (shares : List (List (Note T))) (t : ℕ) (s r : List (Note T)) → get_elem? shares t ≡ some s
      → part_of r m ≡ did d (part_of s m) → Does d q p → BufferRule m q shares → BufferRule m p (slice_set shares t r)
  rule_did m (Put n i) q p shares t s r at here does h =
      subst (λ x. BufferRule m x (slice_set shares t r)) (sym does.3)
      (rule_put m q shares t s r i at (here ∙ ap (λ k. did (Put k i) (part_of s m)) does.2) does.0 does.1 h)
  rule_did m (Took n i) q p shares t s r at here does h =
      subst (λ x. BufferRule m x (slice_set shares t r)) (sym does.2)
      (rule_take m q shares t s r i p.items at (here ∙ ap (λ k. did (Took k i) (part_of s m)) does.0) does.1 h)
  rule_did m Shut q p shares t s r at here does h =
      subst (λ x. BufferRule m x (slice_set shares t r)) (sym does) (rule_shut m q shares t s r at here h)
  rule_did m SawShut q p shares t s r at here does h = subst (λ x. BufferRule m x (slice_set shares t r)) (sym does.1)
      (rule_same m q shares t s r at (ap (λ u. u.puts) here) (ap (λ u. u.takes) here) (ap (λ u. u.shut) here) (λ is. does.0)
      (λ is. let old = h.seen_end t s at (ap (λ u. u.seen_end) (sym here) ∙ is) in (old.0, old.1)) h)
  rule_did m SawEnd q p shares t s r at here does h = subst (λ x. BufferRule m x (slice_set shares t r)) (sym does.2)
      (rule_same m q shares t s r at (ap (λ u. u.puts) here) (ap (λ u. u.takes) here) (ap (λ u. u.shut) here)
      (λ is. h.seen_shut t s at (ap (λ u. u.seen_shut) (sym here) ∙ is)) (λ is. (does.0, does.1)) h)
  rule_did m WaitedFull q p shares t s r at here does h = subst (λ x. BufferRule m x (slice_set shares t r)) (sym does.2)
      (rule_same m q shares t s r at (ap (λ u. u.puts) here) (ap (λ u. u.takes) here) (ap (λ u. u.shut) here)
      (λ is. h.seen_shut t s at (ap (λ u. u.seen_shut) (sym here) ∙ is)) (λ is. let old =
      h.seen_end t s at (ap (λ u. u.seen_end) (sym here) ∙ is) in (old.0, old.1)) h)
  rule_did m WaitedEmpty q p shares t s r at here does h = subst (λ x. BufferRule m x (slice_set shares t r)) (sym does.2)
      (rule_same m q shares t s r at (ap (λ u. u.puts) here) (ap (λ u. u.takes) here) (ap (λ u. u.shut) here)
      (λ is. h.seen_shut t s at (ap (λ u. u.seen_shut) (sym here) ∙ is)) (λ is. let old =
      h.seen_end t s at (ap (λ u. u.seen_end) (sym here) ∙ is) in (old.0, old.1)) h)

  pub keeps_after : (w : Prim.Unit {0}) (values : List (Held T)) (shares : List (List (Note T))) → Keeps values shares
      → (m : ℕ) (x y : Held T) → get_elem? values m ≡ some x
      → (t : ℕ) (s r : List (Note T)) → get_elem? shares t ≡ some s → Allowed m x y s r
      → Keeps (slice_set values m y) (slice_set shares t r)
  keeps_after w values shares h m x y at t s r there ok = λ k z e. ⊎_elim
      (λ (p : (k ≡ m) × (y ≡ z)). subst (λ j. BufferRule j z (slice_set shares t r)) (sym p.0)
      (subst (λ v. BufferRule m v (slice_set shares t r)) p.1 (⊎_elim
      (λ (o : (y ≡ x) × (r ≡ s)). subst (λ v. BufferRule m v (slice_set shares t r)) (sym o.0)
      (rule_else m x shares t s r there (ap (λ l. part_of l m) o.1) (h m x at)))
      (λ (o : (d : Did T) × Does d x y × (r ≡ note m d ∷ s)). rule_did m o.0 x y shares t s r there (ap (λ l. part_of l m) o.2
      ∙ part_here m o.0 s) o.1 (h m x at))
      ok)))
      (λ (p : (k ≢ m) × (get_elem? values k ≡ some z)). rule_else k z shares t s r there (⊎_elim
      (λ (o : (y ≡ x) × (r ≡ s)). ap (λ l. part_of l k) o.1)
      (λ (o : (d : Did T) × Does d x y × (r ≡ note m d ∷ s)). ap (λ l. part_of l k) o.2 ∙ part_there m k o.0 s p.0)
      ok) (h k z p.1))
      (at_set values m k y z e)

  all-part : (P : ℕ × T → Type 0) (f : Used T → List (ℕ × T)) (m : ℕ) (shares : List (List (Note T))) (t : ℕ) (s : List (Note T))
      → get_elem? shares t ≡ some s
      → All P (pairs_of f m shares) → All P (f (part_of s m))
  all-part P f m [] t s e all = absurd (some-ne-none s (sym e))
  all-part P f m (x ∷ shares) zero s e all =
      subst (λ y. All P (f (part_of y m))) (some-injective x s e) (All-prefix P (f (part_of x m)) (pairs_of f m shares) all)
  all-part P f m (x ∷ shares) (suc t) s e all = all-part P f m shares t s e (All-back P (f (part_of x m)) (pairs_of f m shares) all)

  all-below : (n k : ℕ) (xs : List T) → n + length xs ≤ k → All (λ p. p.0 < k) (enumerate_from n xs)
  all-below n k [] low = All-nil (λ p. p.0 < k)
  all-below n k (x ∷ xs) low = All-cons (λ p. p.0 < k) (n, x) (enumerate_from (n + 1) xs) (omega arith)
      (all-below (n + 1) k xs (omega arith))

  any_at : (m : ℕ) (shares : List (List (Note T))) (t : ℕ) (s : List (Note T)) → get_elem? shares t ≡ some s → (part_of s m).shut ≡ true
      → any_shut m shares ≡ true
  any_at m [] t s e is = absurd (some-ne-none s (sym e))
  any_at m (x ∷ shares) zero s e is = ap (λ b. b || any_shut m shares) (ap (λ y. (part_of y m).shut) (some-injective x s e) ∙ is)
  any_at m (x ∷ shares) (suc t) s e is = ap (λ b. (part_of x m).shut || b) (any_at m shares t s e is) ∙ or-true (part_of x m).shut

  pub fits_plain : (w : Prim.Unit {0}) (values : List (Held T)) (shares : List (List (Note T))) → Keeps values shares → (m : ℕ) (x : Held T)
      → get_elem? values m ≡ some x
      → (t : ℕ) (s : List (Note T)) → get_elem? shares t ≡ some s → IsWithin (part_of s m) x
  fits_plain w values shares h m x at t s there =
      let rule = h m x at in
      let lens = length-drop x.taken rule.log in
      let same_len = ap length rule.left in
      let taken = rule.taken in
      let prefix = length-take-le x.taken rule.log taken in
      record {
        puts = all-part (λ p. p.0 < put_count x) (λ u. u.puts) m shares t s there
            (All-permutation (λ p. p.0 < put_count x) (enumerate_from 0 rule.log) (all_puts m shares)
            (IsPermutation-sym (all_puts m shares) (enumerate_from 0 rule.log) rule.puts)
            (all-below 0 (put_count x) rule.log (omega arith)));
        takes = all-part (λ p. p.0 < x.taken) (λ u. u.takes) m shares t s there
            (All-permutation (λ p. p.0 < x.taken) (enumerate_from 0 (take x.taken rule.log)) (all_takes m shares)
            (IsPermutation-sym (all_takes m shares) (enumerate_from 0 (take x.taken rule.log)) rule.takes)
            (all-below 0 x.taken (take x.taken rule.log) (omega arith)));
        shut = λ knows. ⊎_elim
            (λ (is : (part_of s m).shut ≡ true). rule.shut ∙ any_at m shares t s there is)
            (λ (seen : ((part_of s m).seen_shut ≡ true) ⊎ ((part_of s m).seen_end ≡ true)).
            ⊎_elim (rule.seen_shut t s there) (λ (is : (part_of s m).seen_end ≡ true). (rule.seen_end t s there is).0) seen)
            knows;
        end = λ is. (rule.seen_end t s there is).1;
      }

  pub ring_fits : (w : Prim.Unit {0}) (at : BufferAt) → IsPlain at → (t : ℕ) (x : Held T) (s : List (Note T))
      → IsWithin (part_of s at.mutex.0) x
      → (q : Held T) × (Some x ≡ Some q) × IsWithin (part_of s at.mutex.0) q
  ring_fits w at is t x s fits = (x, refl, fits)

  -- what a put or a take did, by the ring before and after
  pub put_did_is : (P : T → Type 0) (d : Did T) (x y : Held T) → Does d x y → IsOfPut P d → put_did x y ≡ d
  put_did_is P (Put n i) x y does of =
      let last : y.items ≡ x.items ++ i ∷ [] = ap (λ (v : Held T). v.items) does.3 in
      let following : drop (length x.items) y.items ≡ i ∷ [] = ap (drop (length x.items)) last ∙ drop-append_seam x.items (i ∷ []) in
      ap (put_by x) following ∙ ap (λ k. Put k i) (sym does.2)
  put_did_is P (Took n i) x y does of = absurd of
  put_did_is P Shut x y does of = absurd of
  put_did_is P SawShut x y does of = ap (put_by x) (ap (λ (v : Held T). drop (length x.items) v.items) does.1 ∙ drop-length x.items)
      ∙ ap (λ b. cond b SawShut WaitedFull) does.0
  put_did_is P SawEnd x y does of = absurd of
  put_did_is P WaitedFull x y does of = ap (put_by x) (ap (λ (v : Held T). drop (length x.items) v.items) does.2 ∙ drop-length x.items)
      ∙ ap (λ b. cond b SawShut WaitedFull) does.0
  put_did_is P WaitedEmpty x y does of = absurd of

  pub take_did_is : (d : Did T) (x y : Held T) → Does d x y → IsOfTake d → take_did x ≡ d
  take_did_is (Put n i) x y does of = absurd of
  take_did_is (Took n i) x y does of = ap (take_by x) does.1 ∙ ap (λ k. Took k i) (sym does.0)
  take_did_is Shut x y does of = absurd of
  take_did_is SawShut x y does of = absurd of
  take_did_is SawEnd x y does of = ap (take_by x) does.1 ∙ ap (λ b. cond b SawEnd WaitedEmpty) does.0
  take_did_is WaitedFull x y does of = absurd of
  take_did_is WaitedEmpty x y does of = ap (take_by x) does.1 ∙ ap (λ b. cond b SawEnd WaitedEmpty) does.0

  waits-are : (d : Did T) → IsWait d → is_wait d ≡ true
  waits-are (Put n i) w = absurd w
  waits-are (Took n i) w = absurd w
  waits-are Shut w = absurd w
  waits-are SawShut w = absurd w
  waits-are SawEnd w = absurd w
  waits-are WaitedFull w = refl
  waits-are WaitedEmpty w = refl

  does_same : (d : Did T) (x y q p : Held T) → Some x ≡ Some q → Some y ≡ Some p → Does d q p → Does d x y
  does_same d x y q p a b does = subst (λ v. Does d v y) (sym (same_Some x q a)) (subst (λ v. Does d q v) (sym (same_Some y p b)) does)

  -- the share gets a note of what was done
  noted : (m : ℕ) (x y : Held T) (s : List (Note T)) (d e : Did T) → e ≡ d → Does d x y
      → Allowed m x y s (note m e ∷ s) × HasDone part_of m d s (note m e ∷ s) × (IsWait d → kept s ≡ kept (note m e ∷ s))
  noted m x y s d e same does = (
    inr (d, does, ap (λ k. note m k ∷ s) same),
    record { here = part_here m e s ∙ ap (λ k. did k (part_of s m)) same; elsewhere = λ k n. part_there m k e s n },
    λ waits. ap (λ b. cond b (kept s) (note m e ∷ kept s)) (sym (ap is_wait same ∙ waits-are d waits)),
  )

  pub plain_put : (w : Prim.Unit {0}) (at : BufferAt) → IsPlain at → (t : ℕ) (x y : Held T) (s : List (Note T)) (q p : Held T) (d : Did T)
      → Some x ≡ Some q → Some y ≡ Some p → Does d q p → IsOfPut (λ i. Unit {0}) d
      → Allowed at.mutex.0 x y s (note at.mutex.0 (put_did x y) ∷ s) × HasDone part_of at.mutex.0 d s (note at.mutex.0 (put_did x y) ∷ s)
      × (IsWait d → kept s ≡ kept (note at.mutex.0 (put_did x y) ∷ s))
  plain_put w at is t x y s q p d a b does of =
      let same = does_same d x y q p a b does in
      noted at.mutex.0 x y s d (put_did x y) (put_did_is (λ i. Unit {0}) d x y same of) same

  pub plain_take : (w : Prim.Unit {0}) (at : BufferAt) → IsPlain at → (t : ℕ) (x y : Held T) (s : List (Note T)) (q p : Held T) (d : Did T)
      → Some x ≡ Some q → Some y ≡ Some p → Does d q p → IsOfTake d
      → Allowed at.mutex.0 x y s (note at.mutex.0 (take_did x) ∷ s) × HasDone part_of at.mutex.0 d s (note at.mutex.0 (take_did x) ∷ s)
      × (IsWait d → kept s ≡ kept (note at.mutex.0 (take_did x) ∷ s))
  plain_take w at is t x y s q p d a b does of =
      let same = does_same d x y q p a b does in
      noted at.mutex.0 x y s d (take_did x) (take_did_is d x y same of) same

  pub plain_shut : (w : Prim.Unit {0}) (at : BufferAt) → IsPlain at → (t : ℕ) (x y : Held T) (s : List (Note T)) (q p : Held T)
      → Some x ≡ Some q → Some y ≡ Some p → Does Shut q p
      → Allowed at.mutex.0 x y s (note at.mutex.0 Shut ∷ s) × HasDone part_of at.mutex.0 Shut s (note at.mutex.0 Shut ∷ s)
  plain_shut w at is t x y s q p a b does = let n = noted at.mutex.0 x y s Shut Shut refl (does_same Shut x y q p a b does) in (n.0, n.1)

  pub plain_stay : (w : Prim.Unit {0}) (at : BufferAt) → IsPlain at → (t : ℕ) (x y : Held T) (s : List (Note T)) (q : Held T)
      → Some x ≡ Some q → Some y ≡ Some q → Allowed at.mutex.0 x y s s
  plain_stay w at is t x y s q a b = inl (same_Some y q b ∙ sym (same_Some x q a), refl)

  did_waits : (d : Did T) (q p : Held T) (u : Used T) → Does d q p
      → Waits WaitedFull q p true u.full_waits (did d u).full_waits × Waits WaitedEmpty q p true u.empty_waits (did d u).empty_waits
  did_waits (Put n i) q p u does = (inl refl, inl refl)
  did_waits (Took n i) q p u does = (inl refl, inl refl)
  did_waits Shut q p u does = (inl refl, inl refl)
  did_waits SawShut q p u does = (inl refl, inl refl)
  did_waits SawEnd q p u does = (inl refl, inl refl)
  did_waits WaitedFull q p u does = (inr (refl, does, refl), inl refl)
  did_waits WaitedEmpty q p u does = (inl refl, inr (refl, does, refl))

  pub plain_waits : (w : Prim.Unit {0}) (at : BufferAt) → IsPlain at → (t : ℕ) (x y : Held T) (s r : List (Note T)) (q p : Held T)
      → Some x ≡ Some q → Some y ≡ Some p → Allowed at.mutex.0 x y s r
      → (k : ℕ) → Waits WaitedFull q p (eqb k at.mutex.0) (part_of s k).full_waits (part_of r k).full_waits
      × Waits WaitedEmpty q p (eqb k at.mutex.0) (part_of s k).empty_waits (part_of r k).empty_waits
  plain_waits w at is t x y s r q p a b ok k =
      let m = at.mutex.0 in
      let stays : part_of r k ≡ part_of s k → Waits WaitedFull q p (eqb k m) (part_of s k).full_waits (part_of r k).full_waits
      × Waits WaitedEmpty q p (eqb k m) (part_of s k).empty_waits (part_of r k).empty_waits
      = λ same. (inl (ap (λ u. u.full_waits) same), inl (ap (λ u. u.empty_waits) same)) in
      ⊎_elim
      (λ (o : (y ≡ x) × (r ≡ s)). stays (ap (λ l. part_of l k) o.1))
      (λ (o : (d : Did T) × Does d x y × (r ≡ note m d ∷ s)). ⊎_elim
      (λ (here : k ≡ m).
      let d = o.0 in
      let does = does_same d q p x y (sym a) (sym b) o.1 in
      let said : part_of r k ≡ did d (part_of s k) = ap (λ l. part_of l k) o.2
      ∙ subst (λ j. part_of (note m d ∷ s) j ≡ did d (part_of s j)) (sym here) (part_here m d s) in
      let W : Bool → Used T → Type 0 = λ c u. Waits WaitedFull q p c (part_of s k).full_waits u.full_waits
      × Waits WaitedEmpty q p c (part_of s k).empty_waits u.empty_waits in
      subst (λ c. W c (part_of r k)) (sym (eq-eqb k m here)) (subst (λ u. W true u) (sym said) (did_waits d q p (part_of s k) does)))
      (λ (n : k ≢ m). stays (ap (λ l. part_of l k) o.2 ∙ part_there m k o.0 s n))
      (cases_eq k m))
      ok
