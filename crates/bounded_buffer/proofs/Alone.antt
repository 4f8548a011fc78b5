-- What one thread alone put into a buffer, and one alone took from it.
use Rattle.std.proofs.Common.{◌≡◌, ℕ, ◌+◌, ◌<◌, ◌≤◌, zero, suc, true, false, ◌||◌, List, [], ◌∷◌, ◌++◌, length, take, add-zero, arith, sym, ap, subst, ◌∙◌, refl}
use Rattle.std.specs.List.{All, enumerate_from}
use Rattle.std.specs.List.Sorted.{IsPermutation}
use Rattle.std.proofs.lemmas.List.{append-nil, take_all}
use Rattle.std.proofs.lemmas.List.Elements.{All-nil, All-cons, All-head, All-tail, All-weaker}
use Rattle.std.proofs.lemmas.List.FromFn.{length-enumerate_from}
use Rattle.std.proofs.lemmas.List.Sorted.{All-permutation, IsPermutation-sym, length_permutation}
use mathlib.Core.Option.{some, some-injective, some-ne-none}
use lib.ListN.{get_elem?}
use Rattle.nub.proofs.Users.{from_at}
use Rattle.bounded_buffer.specs.declared.note.Note.{Note}
use Rattle.bounded_buffer.specs.Parts.{Used}
use Rattle.bounded_buffer.specs.Plain.{BufferRule, part_of, pairs_of, any_shut}
use Rattle.bounded_buffer.specs.Rings.{Held}
use Rattle.bounded_buffer.specs.Using.{Falls, NoneBut, Through, items_of}

module _ {T : Type 0} where
  falls_few : (ps : List (ℕ × T)) (k : ℕ) → Falls ps → All (λ q. q.0 < k) ps → length ps ≤ k
  falls_few [] k f low = omega arith
  falls_few (p ∷ ps) k f low =
      let here = All-head (λ (q : ℕ × T). q.0 < k) p ps low in
      let rest = falls_few ps p.0 f.1 f.0 in
      omega arith

  take_one : (log : List T) (k : ℕ) (i : T) → get_elem? log k ≡ some i → take (suc k) log ≡ take k log ++ i ∷ []
  take_one [] k i e = absurd (some-ne-none i (sym e))
  take_one (x ∷ log) zero i e = ap (λ y. y ∷ []) (some-injective x i e)
  take_one (x ∷ log) (suc k) i e = ap (λ l. x ∷ l) (take_one log k i e)

  -- the pair stands in the log, under its number
  abbrev IsOf : List T → ℕ × T → Type 0
  IsOf log q = get_elem? log q.0 ≡ some q.1

  logged : (n : ℕ) (log all : List T) → ((k : ℕ) (i : T) → get_elem? log k ≡ some i → get_elem? all (n + k) ≡ some i) → All (IsOf all) (enumerate_from n log)
  logged n [] all there = All-nil (IsOf all)
  logged n (x ∷ log) all there = All-cons (IsOf all) (n, x) (enumerate_from (n + 1) log) (ap (get_elem? all) (sym (add-zero n)) ∙ there 0 x refl)
      (logged (n + 1) log all (λ k i e. ap (get_elem? all) (omega arith) ∙ there (suc k) i e))

  -- as many pairs of the log under falling numbers as it is long are the log
  all_of : (ps : List (ℕ × T)) (n : ℕ) (log : List T) → Falls ps → All (λ q. q.0 < n) ps → All (IsOf log) ps → length ps ≡ n → items_of ps ≡ take n log
  all_of [] n log f low of long = ap (λ k. take k log) long
  all_of (p ∷ ps) n log f low of long =
      let here = All-head (λ (q : ℕ × T). q.0 < n) p ps low in
      let few = falls_few ps p.0 f.1 f.0 in
      let last : suc p.0 ≡ n = omega arith in
      ap (λ l. l ++ p.1 ∷ []) (all_of ps p.0 log f.1 f.0 (All-tail (IsOf log) p ps of) (omega arith)) ∙ (sym (take_one log p.0 p.1 (All-head (IsOf log) p ps of)) ∙ ap (λ k. take k log) last)

  -- pairs under falling numbers that are those of a log are the log
  is_log : (ps : List (ℕ × T)) (log : List T) → Falls ps → IsPermutation ps (enumerate_from 0 log) → items_of ps ≡ log
  is_log ps log f all =
      let n = length log in
      let of = All-permutation (IsOf log) (enumerate_from 0 log) ps (IsPermutation-sym ps (enumerate_from 0 log) all) (logged 0 log log (λ k i e. ap (get_elem? log) (omega arith) ∙ e)) in
      all_of ps n log f (All-weaker (IsOf log) (λ q. q.0 < n) (λ q at. (from_at log q.0 q.1 at).0) ps of) of (sym (length_permutation ps (enumerate_from 0 log) all) ∙ length-enumerate_from 0 log) ∙ take_all n log (omega arith)

  pub nobody : (f : Used T → List (ℕ × T)) (m : ℕ) (shares : List (List (Note T))) → ((k : ℕ) (u : List (Note T)) → get_elem? shares k ≡ some u → f (part_of u m) ≡ []) → pairs_of f m shares ≡ []
  nobody f m [] none = refl
  nobody f m (x ∷ shares) none = ap (λ l. l ++ pairs_of f m shares) (none 0 x refl) ∙ nobody f m shares (λ k. none (suc k))

  alone : (f : Used T → List (ℕ × T)) (m : ℕ) (shares : List (List (Note T))) (n : ℕ) (s : List (Note T)) → get_elem? shares n ≡ some s → NoneBut n f [] m shares
      → pairs_of f m shares ≡ f (part_of s m)
  alone f m [] n s at none = absurd (some-ne-none s (sym at))
  alone f m (x ∷ shares) zero s at none =
      let rest : pairs_of f m shares ≡ [] = nobody f m shares (λ k u e. none (suc k) u e (λ z. let is = z in omega arith)) in
      ap (λ l. f (part_of x m) ++ l) rest ∙ append-nil (f (part_of x m)) ∙ ap (λ (y : List (Note T)). f (part_of y m)) (some-injective x s at)
  alone f m (x ∷ shares) (suc n) s at none =
      ap (λ l. l ++ pairs_of f m shares) (none 0 x refl (λ z. let is = z in omega arith))
      ∙ alone f m shares n s at (λ k u e other. none (suc k) u e (λ z. other (let is = z in omega arith)))

  pub nobody_shut : (m : ℕ) (shares : List (List (Note T))) → ((k : ℕ) (u : List (Note T)) → get_elem? shares k ≡ some u → (part_of u m).shut ≡ false) → any_shut m shares ≡ false
  nobody_shut m [] none = refl
  nobody_shut m (x ∷ shares) none = ap (λ b. b || any_shut m shares) (none 0 x refl) ∙ nobody_shut m shares (λ k. none (suc k))

  -- where nobody shuts a ring, nobody sees it shut
  pub never_shut : (m : ℕ) (q : Held T) (shares : List (List (Note T))) → ((k : ℕ) (u : List (Note T)) → get_elem? shares k ≡ some u → (part_of u m).shut ≡ false)
      → BufferRule m q shares → (n : ℕ) (s : List (Note T)) → get_elem? shares n ≡ some s → (part_of s m).seen_shut ≡ true → ⊥
  never_shut m q shares none rule n s at seen = let shut = rule.seen_shut n s at seen in let opened = rule.shut ∙ nobody_shut m shares none in cc

  module _ (m : ℕ) (q : Held T) (shares : List (List (Note T))) (i j : ℕ) (s r : List (Note T)) (at_s : get_elem? shares i ≡ some s) (at_r : get_elem? shares j ≡ some r)
      (puts : Falls (part_of s m).puts) (takes : Falls (part_of r m).takes) (one : NoneBut i (λ u. u.puts) [] m shares) (other : NoneBut j (λ u. u.takes) [] m shares) where
    all_put : (rule : BufferRule m q shares) → items_of (part_of s m).puts ≡ rule.log
    all_put rule = is_log (part_of s m).puts rule.log puts (subst (λ l. IsPermutation l (enumerate_from 0 rule.log)) (alone (λ u. u.puts) m shares i s at_s one) rule.puts)

    -- what one thread alone took is the prefix of what one alone put, in order
    pub took_prefix : BufferRule m q shares → items_of (part_of r m).takes ≡ take q.taken (items_of (part_of s m).puts)
    took_prefix rule =
        let prefix = take q.taken rule.log in
        is_log (part_of r m).takes prefix takes (subst (λ l. IsPermutation l (enumerate_from 0 prefix)) (alone (λ u. u.takes) m shares j r at_r other) rule.takes) ∙ ap (take q.taken) (sym (all_put rule))

    -- it is all of that where the end was seen
    pub went_through : (part_of r m).seen_end ≡ true → BufferRule m q shares → Through q (items_of (part_of s m).puts) (items_of (part_of r m).takes)
    went_through ended rule =
        let end = rule.seen_end j r at_r ended in
        let long : q.taken ≡ length (items_of (part_of s m).puts) = end.2 ∙ ap length (sym (all_put rule)) in
        record { same = took_prefix rule ∙ take_all q.taken (items_of (part_of s m).puts) (omega arith); taken = long; empty = end.1; shut = end.0 }
