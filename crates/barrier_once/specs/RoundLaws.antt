-- Each allowed change keeps the rule.
use Rattle.std.specs.Prelude.{◌≡◌, ◌≢◌, ◌⊎◌, ℕ, ◌+◌, ◌*◌, ◌/◌, ◌<◌, ◌≤◌, cond, eqb, true, false, List, [], ◌∷◌, length, slice_set, Option as Opt, Some, None}
use Rattle.std.proofs.Common.{zero, suc, arith, sym, ap, subst, ◌∙◌, ⊎_elim, inl, inr, refl, eq-eqb, ne_eqb}
use Rattle.std.proofs.Math.Nat.{mul-add, add-mul}
use Rattle.std.proofs.lemmas.Nat.{mul-le}
use Rattle.std.proofs.lemmas.List.{length-set}
use Rattle.std.proofs.lemmas.Option.{same_Some}
use Rattle.std.proofs.lemmas.Bool.Decides.{eqb_tells, nat_tests}
use mathlib.Core.Option.{some, some-injective, some-ne-none}
use lib.ListN.{get_elem?}
use Rattle.atomic_table.proofs.Lists.{at_set, set_here, set_else, set_again}
use Rattle.nub.proofs.Users.{from_at}
use Rattle.nub_rule.specs.Items.{Each}
use Rattle.barrier_once.specs.declared.cell.Cell.{Cell}
use Rattle.barrier_once.specs.declared.cell.Cell.TheVariants.{Bar, Sum, Once}
use Rattle.barrier_once.specs.declared.share.RoundShare.{RoundShare}
use Rattle.barrier_once.specs.declared.share.RoundWorld.{RoundWorld}
use Rattle.barrier_once.specs.Cells.{arrived_of, once_of, round_of, sum_of}
use Rattle.barrier_once.specs.Rounds.{added_by, added_share, agreed_share, Allowed, AreAgreed, AreRounds, arrived_share, IsAddition, IsAgreement, IsArrival, IsKnown, IsLast, IsLeave, IsOffered, IsParty, KnowsBar, KnowsOnce, KnowsSum, MayAdd, MayArrive, offered_after, passed_share, triangle, with_arrivals}

-- numbers

parity : (n : ℕ) → ((j : ℕ) × (n ≡ 2 * j)) ⊎ ((j : ℕ) × (n ≡ 2 * j + 1))
parity zero = inl (0, refl)
parity (suc n) = ⊎_elim
    (λ (p : (j : ℕ) × (n ≡ 2 * j)). inr (p.0, let e = p.1 in omega arith))
    (λ (p : (j : ℕ) × (n ≡ 2 * j + 1)). inl (p.0 + 1, let e = p.1 in omega arith))
    (parity n)

halved : (x y n : ℕ) → y ≡ x + 2 * n → y / 2 ≡ x / 2 + n
halved x y n e = omega arith

next_product : (n : ℕ) → (n + 1) * (n + 1 + 1) ≡ n * (n + 1) + 2 * (n + 1)
next_product n =
    let a : (n + 1) * (n + 1 + 1) ≡ (n + 1) * (n + 1) + (n + 1) * 1 = mul-add (n + 1) (n + 1) 1 in
    let b : (n + 1) * (n + 1) ≡ n * (n + 1) + 1 * (n + 1) = add-mul n 1 (n + 1) in
    omega arith

triangle_next : (n : ℕ) → triangle (n + 1) ≡ triangle n + (n + 1)
triangle_next n = halved (n * (n + 1)) ((n + 1) * (n + 1 + 1)) (n + 1) (next_product n)

-- shares

abbrev has : ℕ → RoundShare → ℕ
has n s = cond (eqb s.arrivals n) 1 0

has_few : (n : ℕ) (s : RoundShare) → has n s ≤ 1
has_few n s = grind (arith, nat_tests)

counted : (n : ℕ) (s : RoundShare) → has n s ≡ 1 → s.arrivals ≡ n
counted n s e = grind (arith, nat_tests)

turned : (t i : ℕ) → suc t + i + 1 ≡ t + (i + 1) + 1
turned t i = omega arith

zero_first : (i : ℕ) → 0 + i + 1 ≡ i + 1
zero_first i = omega arith

zero_after : (t : ℕ) → t + 1 ≡ t + 0 + 1
zero_after t = omega arith

zero_last : (n : ℕ) → n + 0 ≡ n
zero_last n = omega arith

zero_plus : (n : ℕ) → 0 + n ≡ n
zero_plus n = omega arith

next_is : (i : ℕ) → i + 1 ≡ suc i
next_is i = omega arith

one_over : (n i : ℕ) → n + (i + 1) ≡ suc n + i
one_over n i = omega arith

has_it : (n : ℕ) (s : RoundShare) → s.arrivals ≡ n → has n s ≡ 1
has_it n s e = ap (λ b. cond b 1 0) (eq-eqb s.arrivals n e)

has_not : (n : ℕ) (s : RoundShare) → s.arrivals ≢ n → has n s ≡ 0
has_not n s e = ap (λ b. cond b 1 0) (ne_eqb s.arrivals n e)

-- how a change of one share changes what is counted
arrivals_set : (n : ℕ) (shares : List RoundShare) (t : ℕ) (s r : RoundShare) → get_elem? shares t ≡ some s
    → with_arrivals n (slice_set shares t r) + has n s ≡ with_arrivals n shares + has n r
arrivals_set n [] t s r e = absurd (some-ne-none s (sym e))
arrivals_set n (x ∷ xs) zero s r e = let h : has n x ≡ has n s = ap (has n) (some-injective x s e) in omega arith
arrivals_set n (x ∷ xs) (suc t) s r e = let h = arrivals_set n xs t s r e in omega arith

arrivals_few : (n : ℕ) (shares : List RoundShare) → with_arrivals n shares ≤ length shares
arrivals_few n [] = omega arith
arrivals_few n (x ∷ xs) = let h = arrivals_few n xs in let o = has_few n x in omega arith

-- if as many are counted as there are, each is counted
all_counted : (n : ℕ) (shares : List RoundShare) → with_arrivals n shares ≡ length shares → Each (λ t s. s.arrivals ≡ n) shares
all_counted n [] e t s at = absurd (some-ne-none s (sym at))
all_counted n (x ∷ xs) e zero s at =
    let few = arrivals_few n xs in
    counted n s (let h : has n x ≡ has n s = ap (has n) (some-injective x s at) in let o = has_few n x in omega arith)
all_counted n (x ∷ xs) e (suc t) s at = let few = arrivals_few n xs in let o = has_few n x in all_counted n xs (omega arith) t s at

pub none_counted : (n : ℕ) (shares : List RoundShare) → Each (λ t s. s.arrivals ≢ n) shares → with_arrivals n shares ≡ 0
none_counted n [] each = refl
none_counted n (x ∷ xs) each = let a = has_not n x (each 0 x refl) in let h = none_counted n xs (λ t. each (suc t)) in omega arith

added_set : (shares : List RoundShare) (t : ℕ) (s r : RoundShare) → get_elem? shares t ≡ some s
    → added_by (slice_set shares t r) + s.added ≡ added_by shares + r.added
added_set [] t s r e = absurd (some-ne-none s (sym e))
added_set (x ∷ xs) zero s r e = let h : x.added ≡ s.added = ap (λ (u : RoundShare). u.added) (some-injective x s e) in omega arith
added_set (x ∷ xs) (suc t) s r e = let h = added_set xs t s r e in omega arith

added_few : (most : ℕ) (shares : List RoundShare) → Each (λ t s. s.added ≤ most) shares → added_by shares ≤ length shares * most
added_few most [] each = omega arith
added_few most (x ∷ xs) each =
    let a = each 0 x refl in
    let h = added_few most xs (λ t. each (suc t)) in
    let m : (1 + length xs) * most ≡ 1 * most + length xs * most = add-mul 1 (length xs) most in omega arith

-- the sum over shares from the number i on that have each added their number and 1, c times
pub all_added : (c i : ℕ) (shares : List RoundShare) → Each (λ t s. s.added ≡ c * (t + i + 1)) shares
    → added_by shares + c * triangle i ≡ c * triangle (length shares + i)
all_added c i [] each = zero_plus (c * triangle i) ∙ ap (λ n. c * triangle n) (sym (zero_plus i))
all_added c i (x ∷ xs) each =
    let a : x.added ≡ c * (0 + i + 1) = each 0 x refl in
    let h = all_added c (i + 1) xs (λ t s at. let e = each (suc t) s at in e ∙ ap (λ n. c * n) (turned t i)) in
    let next : c * triangle (i + 1) ≡ c * triangle i + c * (i + 1) = ap (λ n. c * n) (triangle_next i) ∙ mul-add c (triangle i) (i + 1) in
    let same : c * (0 + i + 1) ≡ c * (i + 1) = ap (λ n. c * n) (zero_first i) in
    let last : c * triangle (length xs + (i + 1)) ≡ c * triangle (suc (length xs) + i) =
    ap (λ n. c * triangle n) (one_over (length xs) i) in
    omega arith

each_set : (P : ℕ → RoundShare → Type 0) (shares : List RoundShare) (t : ℕ) (r : RoundShare) → Each P shares → P t r
    → Each P (slice_set shares t r)
each_set P shares t r each own k u e = ⊎_elim
    (λ (p : (k ≡ t) × (r ≡ u)). subst (λ v. P k v) p.1 (subst (λ j. P j r) (sym p.0) own))
    (λ (p : (k ≢ t) × (get_elem? shares k ≡ some u)). each k u p.1)
    (at_set shares t k r u e)

-- lists of cells

same_at : (values : List Cell) (m k : ℕ) (x y : Cell) → get_elem? values m ≡ some x → m ≡ k → get_elem? values k ≡ some y → x ≡ y
same_at values m k x y at e there = some-injective x y (sym at ∙ (ap (get_elem? values) e ∙ there))

apart : (values : List Cell) (m k : ℕ) (x y : Cell) → get_elem? values m ≡ some x → get_elem? values k ≡ some y → (x ≡ y → ⊥) → m ≢ k
apart values m k x y at there n e = n (same_at values m k x y at e there)

here : (values : List Cell) (m k : ℕ) (x y z : Cell) → get_elem? values m ≡ some x → m ≡ k → y ≡ z
    → get_elem? (slice_set values m y) k ≡ some z
here values m k x y z at e is =
    subst (λ j. get_elem? (slice_set values m y) j ≡ some z) e (set_here values m y (from_at values m x at).0 ∙ ap some is)

there_of : (values : List Cell) (m k j : ℕ) (y : Cell) → m ≡ k → k ≢ j → (z : Cell) → get_elem? values j ≡ some z
    → get_elem? (slice_set values m y) j ≡ some z
there_of values m k j y e n z at = set_else values m j y (λ h. n (sym e ∙ sym h)) ∙ at

bar_sum : (r a n : ℕ) → Bar r a ≡ Sum n → ⊥
bar_sum r a n e = cc

bar_once : (r a : ℕ) (o : Opt ℕ) → Bar r a ≡ Once o → ⊥
bar_once r a o e = cc

sum_once : (n : ℕ) (o : Opt ℕ) → Sum n ≡ Once o → ⊥
sum_once n o e = cc

-- what was offered

none_some : (v : ℕ) → None ≡ Some v → ⊥
none_some v e = cc

-- what a thread has offered is in the cell
offered_here : (most : ℕ) (value : Opt ℕ) (shares : List RoundShare) (t : ℕ) (s : RoundShare) (v : ℕ) → get_elem? shares t ≡ some s
    → s.offered ≡ Some v → AreAgreed most value shares → value ≡ Some v
offered_here most None shares t s v at e h = absurd (none_some v (sym (h.none refl t s at) ∙ e))
offered_here most (Some u) shares t s v at e h =
    let o = h.origin u refl in
    let same : s ≡ o.share = some-injective s o.share (sym at ∙ (ap (get_elem? shares) (o.alone t s at v e) ∙ o.is_share)) in
    sym o.offered ∙ (ap (λ (r : RoundShare). r.offered) (sym same) ∙ e)

-- a step that offers nothing leaves who has offered
offered_still : (shares : List RoundShare) (t : ℕ) (s r : RoundShare) (v : ℕ) → get_elem? shares t ≡ some s → r.offered ≡ s.offered
    → IsOffered shares v → IsOffered (slice_set shares t r) v
offered_still shares t s r v at e o =
    let alone = each_set (λ k u. (x : ℕ) → u.offered ≡ Some x → k ≡ o.thread) shares t r o.alone
    (λ x is. o.alone t s at x (sym e ∙ is)) in ⊎_elim
    (λ (p : (eqb o.thread t ≡ true) × (o.thread ≡ t)).
    let same : s ≡ o.share = some-injective s o.share (sym at ∙ (ap (get_elem? shares) (sym p.1) ∙ o.is_share)) in record {
      thread = o.thread;
      share = r;
      is_share = ap (get_elem? (slice_set shares t r)) p.1 ∙ set_here shares t r (from_at shares t s at).0;
      offered = e ∙ (ap (λ (u : RoundShare). u.offered) same ∙ o.offered);
      alone = alone;
    })
    (λ (p : (eqb o.thread t ≡ false) × (o.thread ≢ t)). record {
      thread = o.thread;
      share = o.share;
      is_share = set_else shares t o.thread r p.1 ∙ o.is_share;
      offered = o.offered;
      alone = alone;
    })
    (eqb_tells o.thread t)

-- what a holder knows

-- in a round with an odd number, each has added once for each round that was begun
in_odd : (j r : ℕ) (shares : List RoundShare) → r ≡ 2 * j + 1 → Each (IsParty r) shares
    → Each (λ t s. s.added ≡ (j + 1) * (t + 0 + 1)) shares
in_odd j r shares odd each t s at =
    let h = each t s at in
    let left = h.left in
    let same : (j + 1) * (t + 1) ≡ (j + 1) * (t + 0 + 1) = ap (λ n. (j + 1) * n) (zero_after t) in
    ⊎_elim
    (λ (e : s.arrivals ≡ r). h.odd j (e ∙ odd) ∙ same)
    (λ (e : s.arrivals ≡ r + 1). ⊎_elim
    (λ (a : s.added ≡ (j + 1) * (t + 1)). a ∙ same)
    (λ (b : (s.left ≡ 2 * (j + 1)) × (s.added ≡ (j + 1 + 1) * (t + 1))). let l = b.0 in absurd (omega arith))
    (h.even (j + 1) (omega arith)))
    h.arrivals

total_of : (w : RoundWorld) (j r : ℕ) (shares : List RoundShare) → r ≡ 2 * j + 1 → length shares ≡ w.parties → Each (IsParty r) shares
    → added_by shares ≡ (j + 1) * triangle w.parties
total_of w j r shares odd parties each =
    let h : added_by shares + (j + 1) * 0 ≡ (j + 1) * triangle (length shares + 0) =
    all_added (j + 1) 0 shares (in_odd j r shares odd each) in
    let n : (j + 1) * triangle (length shares + 0) ≡ (j + 1) * triangle w.parties =
    ap (λ k. (j + 1) * triangle k) (zero_last (length shares) ∙ parties) in
    omega arith

-- what a thread adds is small
adds_few : (r t : ℕ) (s : RoundShare) → IsParty r t s → t < 64 → s.added ≤ 64064
adds_few r t s h low = let few = h.few in ⊎_elim
    (λ (p : (j : ℕ) × (s.arrivals ≡ 2 * j)). let e = p.1 in ⊎_elim
    (λ (a : s.added ≡ p.0 * (t + 1)). let b = mul-le p.0 (t + 1) 1001 64 (omega arith) (omega arith) in omega arith)
    (λ (q : (s.left ≡ 2 * p.0) × (s.added ≡ (p.0 + 1) * (t + 1))). let a = q.1 in
    let b = mul-le (p.0 + 1) (t + 1) 1001 64 (omega arith) (omega arith) in omega arith)
    (h.even p.0 e))
    (λ (p : (j : ℕ) × (s.arrivals ≡ 2 * j + 1)). let e = p.1 in let a = h.odd p.0 e in
    let b = mul-le (p.0 + 1) (t + 1) 1001 64 (omega arith) (omega arith) in omega arith)
    (parity s.arrivals)

knows_bar : (w : RoundWorld) (values : List Cell) (shares : List RoundShare) (h : AreRounds w values shares) (t : ℕ) (s : RoundShare)
    → IsParty h.round t s → KnowsBar w (Bar h.round h.arrived) s
knows_bar w values shares h t s own =
    record { is = refl; arrivals = own.arrivals; few = own.few; left = own.left; below = h.below; parties = h.few }

knows_sum : (w : RoundWorld) (values : List Cell) (shares : List RoundShare) (h : AreRounds w values shares) (t : ℕ) (s : RoundShare)
    → IsParty h.round t s → KnowsSum w (Sum (added_by shares)) s
knows_sum w values shares h t s own =
    let parties = h.parties in
    let few = h.few in
    let all =
    added_few 64064 shares (λ k u at. adds_few h.round k u (h.each k u at) (let low = (from_at shares k u at).0 in omega arith)) in
    let product = mul-le (length shares) 64064 64 64064 (omega arith) (omega arith) in
    record {
      is = refl;
      small = omega arith;
      total =
          λ j odd left. total_of w j h.round shares (let l = own.left in
          ⊎_elim (λ (e : s.arrivals ≡ h.round). omega arith) (λ (e : s.arrivals ≡ h.round + 1). absurd
          (omega arith)) own.arrivals) h.parties h.each;
    }

knows_once : (w : RoundWorld) (values : List Cell) (shares : List RoundShare) (h : AreRounds w values shares) (t : ℕ) (s : RoundShare)
    → get_elem? shares t ≡ some s → KnowsOnce w (Once h.value) s
knows_once w values shares h t s at =
    record {
      is = refl;
      same = h.agreed.same t s at;
      offered = λ v e. offered_here w.most h.value shares t s v at e h.agreed;
      within = h.agreed.within;
    }

pub fits_known : (w : RoundWorld) (values : List Cell) (shares : List RoundShare) → AreRounds w values shares → (m : ℕ) (x : Cell)
    → get_elem? values m ≡ some x
    → (t : ℕ) (s : RoundShare) → get_elem? shares t ≡ some s → IsKnown w m x t s
fits_known w values shares h m x at t s there =
    let own = h.each t s there in
    record {
      bar =
          λ e. subst (λ c. KnowsBar w c s) (sym (same_at values m w.at.bar.0 x (Bar h.round h.arrived) at e h.bar))
          (knows_bar w values shares h t s own);
      sum =
          λ e. subst (λ c. KnowsSum w c s) (sym (same_at values m w.at.sum.0 x (Sum (added_by shares)) at e h.sum))
          (knows_sum w values shares h t s own);
      once =
          λ e. subst (λ c. KnowsOnce w c s) (sym (same_at values m w.at.once.0 x (Once h.value) at e h.once))
          (knows_once w values shares h t s there);
    }

-- the steps at the bar

agreed_after : (most : ℕ) (value : Opt ℕ) (shares : List RoundShare) (t : ℕ) (s r : RoundShare) → get_elem? shares t ≡ some s
    → r.agreed ≡ s.agreed → r.offered ≡ s.offered → AreAgreed most value shares → AreAgreed most value (slice_set shares t r)
agreed_after most value shares t s r at e f h = record {
  same = each_set (λ k u. (v : ℕ) → u.agreed ≡ Some v → value ≡ Some v) shares t r h.same (λ v is. h.same t s at v (sym e ∙ is));
  within = h.within;
  none = λ n. each_set (λ k u. u.offered ≡ None) shares t r (h.none n) (f ∙ h.none n t s at);
  origin = λ v is. offered_still shares t s r v at f (h.origin v is);
}

-- the thread t agrees on the value, which it offers where the cell was empty
agreed_on : (most : ℕ) (found : Opt ℕ) (value : ℕ) (shares : List RoundShare) (t : ℕ) (s r : RoundShare) → get_elem? shares t ≡ some s
    → (found ≡ None) ⊎ (found ≡ Some value) → (1 ≤ value) × (value ≤ most) → r.agreed ≡ Some value
    → r.offered ≡ offered_after found (Some value) s.offered → AreAgreed most found shares
    → AreAgreed most (Some value) (slice_set shares t r)
agreed_on most None value shares t s r at stays within agreed offered h = record {
  same = each_set (λ k u. (v : ℕ) → u.agreed ≡ Some v → Some value ≡ Some v) shares t r
      (λ k u at' v e. absurd (none_some v (h.same k u at' v e))) (λ v e. sym agreed ∙ e);
  within = λ v e. subst (λ k. (1 ≤ k) × (k ≤ most)) (same_Some value v e) within;
  none = λ e. absurd (none_some value (sym e));
  origin = λ v e. record {
    thread = t;
    share = r;
    is_share = set_here shares t r (from_at shares t s at).0;
    offered = offered ∙ e;
    alone = each_set (λ k u. (x : ℕ) → u.offered ≡ Some x → k ≡ t) shares t r
        (λ k u at' x e'. absurd (none_some x (sym (h.none refl k u at') ∙ e'))) (λ x e'. refl);
  };
}
agreed_on most (Some f) value shares t s r at stays within agreed offered h =
    let is : Some f ≡ Some value =
    ⊎_elim (λ (n : Some f ≡ None). absurd (none_some f (sym n))) (λ (k : Some f ≡ Some value). k) stays in
    record {
      same = each_set (λ k u. (v : ℕ) → u.agreed ≡ Some v → Some value ≡ Some v) shares t r
          (λ k u at' v e. sym is ∙ h.same k u at' v e) (λ v e. sym agreed ∙ e);
      within = λ v e. subst (λ k. (1 ≤ k) × (k ≤ most)) (same_Some value v e) within;
      none = λ e. absurd (none_some value (sym e));
      origin = λ v e. offered_still shares t s r v at offered (h.origin v (is ∙ e));
    }

bar_after : (w : RoundWorld) (values : List Cell) (shares : List RoundShare) → (h : AreRounds w values shares) → (m : ℕ) (x y : Cell)
    → get_elem? values m ≡ some x → m ≡ w.at.bar.0
    → (t : ℕ) (s r : RoundShare) → get_elem? shares t ≡ some s → r.added ≡ s.added → r.agreed ≡ s.agreed
    → r.offered ≡ s.offered → (round arrived : ℕ) → y ≡ Bar round arrived → Each (IsParty round) (slice_set shares t r)
    → arrived ≡ with_arrivals (round + 1) (slice_set shares t r) → arrived < w.parties
    → AreRounds w (slice_set values m y) (slice_set shares t r)
bar_after w values shares h m x y at mutex t s r there added agreed offered round arrived now each count below =
    let sum = added_set shares t s r there in
    let same : added_by (slice_set shares t r) ≡ added_by shares = omega arith in
    record {
      round = round;
      arrived = arrived;
      value = h.value;
      parties = length-set shares t r ∙ h.parties;
      few = h.few;
      bar = here values m w.at.bar.0 x y (Bar round arrived) at mutex now;
      sum =
          there_of values m w.at.bar.0 w.at.sum.0 y mutex (apart values w.at.bar.0 w.at.sum.0 _ _ h.bar h.sum
          (bar_sum h.round h.arrived (added_by shares))) (Sum (added_by (slice_set shares t r)))
          (h.sum ∙ ap (λ n. some (Sum n)) (sym same));
      once =
          there_of values m w.at.bar.0 w.at.once.0 y mutex (apart values w.at.bar.0 w.at.once.0 _ _ h.bar h.once
          (bar_once h.round h.arrived h.value)) (Once h.value) h.once;
      each = each;
      count = count;
      below = below;
      agreed = agreed_after w.most h.value shares t s r there agreed offered h.agreed;
    }

-- twice j less 1
arrived_odd : (n t a : ℕ) → ((j : ℕ) → n ≡ 2 * j + 1 → a ≡ (j + 1) * (t + 1)) → (j : ℕ) → n + 1 ≡ 2 * j → a ≡ j * (t + 1)
arrived_odd n t a odd zero e = absurd (omega arith)
arrived_odd n t a odd (suc i) e = odd i (omega arith) ∙ ap (λ k. k * (t + 1)) (next_is i)

party_arrives : (round t : ℕ) (s : RoundShare) → IsParty round t s → MayArrive t s → s.arrivals ≡ round → IsParty round t (arrived_share s)
party_arrives round t s h may is = let few = may.few in let left = may.left in record {
  arrivals = inr (omega arith);
  few = omega arith;
  left = h.left;
  leaves = inr (omega arith);
  odd = λ j e. may.even j (omega arith);
  even = λ j e. inl (arrived_odd s.arrivals t s.added h.odd j e);
}

party_passes : (round t : ℕ) (s : RoundShare) → IsParty round t s → MayArrive t s → s.arrivals ≡ round
    → IsParty (round + 1) t (passed_share s)
party_passes round t s h may is = let few = may.few in let left = may.left in record {
  arrivals = inl (omega arith);
  few = omega arith;
  left = omega arith;
  leaves = inl (omega arith);
  odd = λ j e. may.even j (omega arith);
  even = λ j e. inl (arrived_odd s.arrivals t s.added h.odd j e);
}

party_next : (round t : ℕ) (s : RoundShare) → IsParty round t s → s.arrivals ≡ round + 1 → IsParty (round + 1) t s
party_next round t s h is =
    let left = h.left in record { arrivals = inl is; few = h.few; left = omega arith; leaves = h.leaves; odd = h.odd; even = h.even }

party_leaves : (round t : ℕ) (s : RoundShare) → IsParty round t s → s.left + 1 ≡ s.arrivals → s.arrivals ≤ round
    → IsParty round t (record s { left = s.left + 1 })
party_leaves round t s h following over = record {
  arrivals = h.arrivals;
  few = h.few;
  left = omega arith;
  leaves = inl following;
  odd = h.odd;
  even = λ j e. ⊎_elim
      (λ (a : s.added ≡ j * (t + 1)). inl a)
      (λ (b : (s.left ≡ 2 * j) × (s.added ≡ (j + 1) * (t + 1))). let l = b.0 in absurd (omega arith))
      (h.even j e);
}

pub one_more : (j t a : ℕ) → a ≡ j * (t + 1) → a + (t + 1) ≡ (j + 1) * (t + 1)
one_more j t a e = let d : (j + 1) * (t + 1) ≡ j * (t + 1) + 1 * (t + 1) = add-mul j 1 (t + 1) in omega arith

party_adds : (round t : ℕ) (s : RoundShare) → IsParty round t s → MayAdd t s → IsParty round t (added_share t s)
party_adds round t s h may = let left = may.left in let is = may.arrivals in record {
  arrivals = h.arrivals;
  few = h.few;
  left = h.left;
  leaves = h.leaves;
  odd = λ j e. absurd (omega arith);
  even = λ j e. inr (omega arith, let same : may.pairs ≡ j = omega arith in one_more j t s.added (may.added ∙ ap (λ k. k * (t + 1)) same));
}

party_agrees : (round t : ℕ) (s : RoundShare) (x y : Cell) → IsParty round t s → IsParty round t (agreed_share x y s)
party_agrees round t s x y h = record { arrivals = h.arrivals; few = h.few; left = h.left; leaves = h.leaves; odd = h.odd; even = h.even }

-- one more share is counted if its thread has just arrived
one_counted : (round : ℕ) (shares : List RoundShare) (t : ℕ) (s r : RoundShare) → get_elem? shares t ≡ some s → s.arrivals ≡ round
    → r.arrivals ≡ round + 1
    → with_arrivals (round + 1) (slice_set shares t r) ≡ with_arrivals (round + 1) shares + 1
one_counted round shares t s r there was now =
    let sum = arrivals_set (round + 1) shares t s r there in
    let a = has_not (round + 1) s (λ e. absurd (omega arith)) in
    let b = has_it (round + 1) r now in
    omega arith

module _ (w : RoundWorld) (values : List Cell) (shares : List RoundShare) (h : AreRounds w values shares) (m : ℕ) (x y : Cell)
    (at : get_elem? values m ≡ some x) (t : ℕ) (s r : RoundShare) (there : get_elem? shares t ≡ some s) where
  after_arrival : IsArrival w m t x y s r → AreRounds w (slice_set values m y) (slice_set shares t r)
  after_arrival o =
      let is : x ≡ Bar h.round h.arrived = same_at values m w.at.bar.0 x _ at o.mutex h.bar in
      let round : s.arrivals ≡ h.round = o.round ∙ ap round_of is in
      let now : y ≡ Bar h.round (h.arrived + 1) = o.now ∙ ap (λ c. Bar (round_of c) (arrived_of c + 1)) is in
      let own = party_arrives h.round t s (h.each t s there) o.may round in
      let arrivals : r.arrivals ≡ s.arrivals + 1 = ap (λ (u : RoundShare). u.arrivals) o.share in
      let one = one_counted h.round shares t s r there round (omega arith) in
      let count = h.count in
      let more_come : h.arrived + 1 < w.parties = subst (λ c. arrived_of c + 1 < w.parties) is o.more_come in
      bar_after w values shares h m x y at o.mutex t s r there (ap (λ (u : RoundShare). u.added) o.share)
      (ap (λ (u : RoundShare). u.agreed) o.share) (ap (λ (u : RoundShare). u.offered) o.share) h.round (h.arrived + 1) now
      (each_set (IsParty h.round) shares t r h.each (subst (IsParty h.round t) (sym o.share) own)) (omega arith) more_come

  after_last : IsLast w m t x y s r → AreRounds w (slice_set values m y) (slice_set shares t r)
  after_last o =
      let is : x ≡ Bar h.round h.arrived = same_at values m w.at.bar.0 x _ at o.mutex h.bar in
      let round : s.arrivals ≡ h.round = o.round ∙ ap round_of is in
      let now : y ≡ Bar (h.round + 1) 0 = o.now ∙ ap (λ c. Bar (round_of c + 1) 0) is in
      let own = party_passes h.round t s (h.each t s there) o.may round in
      let arrivals : r.arrivals ≡ s.arrivals + 1 = ap (λ (u : RoundShare). u.arrivals) o.share in
      let one = one_counted h.round shares t s r there round (omega arith) in
      let count = h.count in
      let below = h.below in
      let parties = h.parties in
      let all : h.arrived + 1 ≡ w.parties = ap (λ c. arrived_of c + 1) (sym is) ∙ o.all in
      let long = length-set shares t r in
      let each = all_counted (h.round + 1) (slice_set shares t r) (omega arith) in
      bar_after w values shares h m x y at o.mutex t s r there (ap (λ (u : RoundShare). u.added) o.share)
      (ap (λ (u : RoundShare). u.agreed) o.share) (ap (λ (u : RoundShare). u.offered) o.share) (h.round + 1) 0 now
      (λ k u e. ⊎_elim
      (λ (p : (k ≡ t) × (r ≡ u)). subst (λ v. IsParty (h.round + 1) k v) (sym o.share ∙ p.1)
      (subst (λ j. IsParty (h.round + 1) j (passed_share s)) (sym p.0) own))
      (λ (p : (k ≢ t) × (get_elem? shares k ≡ some u)). party_next h.round k u (h.each k u p.1) (each k u e))
      (at_set shares t k r u e))
      (sym (none_counted (h.round + 1 + 1) (slice_set shares t r) (λ k u e same. let was = each k u e in absurd (omega arith))))
      (omega arith)

  after_leave : IsLeave w m x y s r → AreRounds w (slice_set values m y) (slice_set shares t r)
  after_leave o =
      let is : x ≡ Bar h.round h.arrived = same_at values m w.at.bar.0 x _ at o.mutex h.bar in
      let over : s.arrivals ≤ h.round = subst (λ c. s.arrivals ≤ round_of c) is o.over in
      let own = party_leaves h.round t s (h.each t s there) o.following over in
      let arrivals : r.arrivals ≡ s.arrivals = ap (λ (u : RoundShare). u.arrivals) o.share in
      let sum = arrivals_set (h.round + 1) shares t s r there in
      let same : has (h.round + 1) r ≡ has (h.round + 1) s = ap (λ k. cond (eqb k (h.round + 1)) 1 0) arrivals in
      let count = h.count in
      bar_after w values shares h m x y at o.mutex t s r there (ap (λ (u : RoundShare). u.added) o.share)
      (ap (λ (u : RoundShare). u.agreed) o.share) (ap (λ (u : RoundShare). u.offered) o.share) h.round h.arrived (o.now ∙ is)
      (each_set (IsParty h.round) shares t r h.each (subst (IsParty h.round t) (sym o.share) own)) (omega arith) h.below

  after_addition : IsAddition w m t x y s r → AreRounds w (slice_set values m y) (slice_set shares t r)
  after_addition o =
      let is : x ≡ Sum (added_by shares) = same_at values m w.at.sum.0 x _ at o.mutex h.sum in
      let added : r.added ≡ s.added + (t + 1) = ap (λ (u : RoundShare). u.added) o.share in
      let arrivals : r.arrivals ≡ s.arrivals = ap (λ (u : RoundShare). u.arrivals) o.share in
      let sum = added_set shares t s r there in
      let all : added_by (slice_set shares t r) ≡ added_by shares + (t + 1) = omega arith in
      let now : y ≡ Sum (added_by (slice_set shares t r)) = o.now ∙ (ap (λ c. Sum (sum_of c + (t + 1))) is ∙ ap (λ n. Sum n) (sym all)) in
      let own = party_adds h.round t s (h.each t s there) o.may in
      let counts = arrivals_set (h.round + 1) shares t s r there in
      let same : has (h.round + 1) r ≡ has (h.round + 1) s = ap (λ k. cond (eqb k (h.round + 1)) 1 0) arrivals in
      let count = h.count in
      record {
        round = h.round;
        arrived = h.arrived;
        value = h.value;
        parties = length-set shares t r ∙ h.parties;
        few = h.few;
        bar =
            there_of values m w.at.sum.0 w.at.bar.0 y o.mutex (apart values w.at.sum.0 w.at.bar.0 _ _ h.sum h.bar
            (λ e. bar_sum h.round h.arrived (added_by shares) (sym e))) _ h.bar;
        sum = here values m w.at.sum.0 x y _ at o.mutex now;
        once =
            there_of values m w.at.sum.0 w.at.once.0 y o.mutex (apart values w.at.sum.0 w.at.once.0 _ _ h.sum h.once
            (sum_once (added_by shares) h.value)) _ h.once;
        each = each_set (IsParty h.round) shares t r h.each (subst (IsParty h.round t) (sym o.share) own);
        count = omega arith;
        below = h.below;
        agreed =
            agreed_after w.most h.value shares t s r there (ap (λ (u : RoundShare). u.agreed) o.share)
            (ap (λ (u : RoundShare). u.offered) o.share) h.agreed;
      }

  after_agreement : IsAgreement w m x y s r → AreRounds w (slice_set values m y) (slice_set shares t r)
  after_agreement o =
      let is : x ≡ Once h.value = same_at values m w.at.once.0 x _ at o.mutex h.once in
      let stays : (h.value ≡ None) ⊎ (h.value ≡ Some o.value) = subst (λ c. (once_of c ≡ None) ⊎ (once_of c ≡ Some o.value)) is o.stays in
      let added : r.added ≡ s.added = ap (λ (u : RoundShare). u.added) o.share in
      let arrivals : r.arrivals ≡ s.arrivals = ap (λ (u : RoundShare). u.arrivals) o.share in
      let sum = added_set shares t s r there in
      let all : added_by (slice_set shares t r) ≡ added_by shares = omega arith in
      let counts = arrivals_set (h.round + 1) shares t s r there in
      let same : has (h.round + 1) r ≡ has (h.round + 1) s = ap (λ k. cond (eqb k (h.round + 1)) 1 0) arrivals in
      let count = h.count in
      record {
        round = h.round;
        arrived = h.arrived;
        value = Some o.value;
        parties = length-set shares t r ∙ h.parties;
        few = h.few;
        bar =
            there_of values m w.at.once.0 w.at.bar.0 y o.mutex (apart values w.at.once.0 w.at.bar.0 _ _ h.once h.bar
            (λ e. bar_once h.round h.arrived h.value (sym e))) _ h.bar;
        sum =
            there_of values m w.at.once.0 w.at.sum.0 y o.mutex (apart values w.at.once.0 w.at.sum.0 _ _ h.once h.sum
            (λ e. sum_once (added_by shares) h.value (sym e))) _ (h.sum ∙ ap (λ n. some (Sum n)) (sym all));
        once = here values m w.at.once.0 x y _ at o.mutex o.now;
        each =
            each_set (IsParty h.round) shares t r h.each (subst (IsParty h.round t) (sym o.share)
            (party_agrees h.round t s x y (h.each t s there)));
        count = omega arith;
        below = h.below;
        agreed = agreed_on w.most h.value o.value shares t s r there stays o.within
            (ap (λ (u : RoundShare). u.agreed) o.share ∙ ap once_of o.now)
            (ap (λ (u : RoundShare). u.offered) o.share
            ∙ (ap (λ c. offered_after (once_of c) (once_of y) s.offered) is
            ∙ ap (λ c. offered_after h.value (once_of c) s.offered) o.now)) h.agreed;
      }

  after_nothing : (y ≡ x) × (r ≡ s) → AreRounds w (slice_set values m y) (slice_set shares t r)
  after_nothing o =
      let kept : slice_set values m y ≡ values = ap (λ c. slice_set values m c) o.0 ∙ set_again values m x at in
      let same : slice_set shares t r ≡ shares = ap (λ u. slice_set shares t u) o.1 ∙ set_again shares t s there in
      subst (λ u. AreRounds w (slice_set values m y) u) (sym same) (subst (λ v. AreRounds w v shares) (sym kept) h)

pub rounds_after : (w : RoundWorld) (values : List Cell) (shares : List RoundShare) → AreRounds w values shares → (m : ℕ) (x y : Cell)
    → get_elem? values m ≡ some x
    → (t : ℕ) (s r : RoundShare) → get_elem? shares t ≡ some s → Allowed w m t x y s r
    → AreRounds w (slice_set values m y) (slice_set shares t r)
rounds_after w values shares h m x y at t s r there ok = ⊎_elim
    (after_nothing w values shares h m x y at t s r there)
    (⊎_elim (after_arrival w values shares h m x y at t s r there)
    (⊎_elim (after_last w values shares h m x y at t s r there)
    (⊎_elim (after_leave w values shares h m x y at t s r there)
    (⊎_elim (after_addition w values shares h m x y at t s r there) (after_agreement w values shares h m x y at t s r there)))))
    ok
