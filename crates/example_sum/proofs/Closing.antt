-- What a package begins with, and what the closed one says of the sum.
use Rattle.std.proofs.Common.{◌≡◌, ℕ, suc, ◌+◌, ◌<◌, ◌≤◌, ltb, cond, sum, List, [], ◌∷◌, length, arith, ap, sym, subst, ◌∙◌, refl}
use Rattle.std.specs.List.{All}
use Rattle.std.proofs.lemmas.Bool.Decides.{nat_tests}
use Rattle.std.proofs.lemmas.List.Elements.{All-cons, All-nil, All-weaker}
use Rattle.std.proofs.lemmas.List.FromFn.{length-map-range_with_len}
use mathlib.Core.Option.{some}
use lib.ListN.{get_elem?}
use Rattle.nub_rule.specs.Ends.{firsts}
use Rattle.nub_rule.specs.Forks.{AreAll, in_order}
use Rattle.nub_rule.specs.Items.{Each}
use Rattle.nub.specs.Ended.{IsFirst, KeepsLocks}
use Rattle.nub.specs.Forks.{IsLeft, IsRight}
use Rattle.nub.proofs.Guards.{one_begins, the_value}
use Rattle.nub.specs.Totals.{times}
use Rattle.nub.proofs.Totals.{at_firsts, total_firsts}
use Rattle.nub.proofs.Users.{from_at, idle_own}
use Rattle.larch_actions.specs.declared.event.Version.TheVariants.{Two}
use Rattle.example_sum.specs.Sums.{AreSums, IsSum}
use Rattle.example_sum.specs.Trees.{Adder, Adders, HaveAdded, IsSpare, MayAdd, added_by, amount}
use Rattle.example_sum.proofs.Counting.{shares_added}
use Rattle.nub.proofs.Numbered.{one_with, times_opened, total_in_order}

-- at first nothing is added
pub opens : (n : ℕ) (values : List ℕ) → n ≤ 256 → values ≡ 0 ∷ [] → AreSums values (firsts (λ t. 0) n)
opens n values few is = one_begins IsSum values (firsts (λ t. 0) n) 0 is record {
  few = let e = length-map-range_with_len {X = ℕ} (λ t. 0) 0 n in omega arith;
  small = λ t s e. let none = at_firsts 0 n t s e in omega arith;
  all = sym (total_firsts (λ (s : ℕ). s) 0 n refl);
}

-- what is so of each at its place is so of all
all-of : {A : Type 0} (P : A → Type 0) (xs : List A) → ((n : ℕ) (x : A) → get_elem? xs n ≡ some x → P x) → All P xs
all-of P [] h = All-nil P
all-of P (x ∷ xs) h = All-cons P x xs (h 0 x refl) (all-of P xs (λ n. h (suc n)))

module _ (p : Adders) (first : Adder) (rights : List Adder) (begins : IsFirst p (λ w t. 0) 0 first) (each : Each (λ n k. IsRight p (λ w t. 0) (n + 1) k) rights) (count : length rights + 1 ≡ p.layout.threads) where
  once : (i : ℕ) → times i (first ∷ rights) ≡ cond (ltb i (length rights + 1)) 1 0
  once i = times_opened first rights begins.number (λ n k at. (each n k at).number) i

  -- the first thread may add all numbers, with the rights to begin all others
  pub may_begin : (numbers : List ℕ) → p.layout.version ≡ Two → 1 ≤ p.layout.mutexes → sum numbers ≤ 36028797018963968 → MayAdd p first numbers rights
  may_begin numbers two mutex small = record {
    version = two;
    mutex = mutex;
    small = small;
    idle = idle_own p (λ w t. 0) 0 first begins;
    spare = all-of (IsSpare p) rights (λ n k at. let right = each n k at in record { left = right.left; share = right.share });
  }

  -- all threads are back, each once
  pub all_back : (n : ℕ) (ks : List Adder) → HaveAdded p (first ∷ rights) n ks → AreAll p.layout.threads ks
  all_back n ks have i low = one_with i ks (let a = have.same i in let b = once i in grind (arith, nat_tests))

-- each may come back
pub each_left : (p : Adders) (before ks : List Adder) (m : ℕ) → HaveAdded p before m ks → Each (λ n k. IsLeft p k) ks
each_left p before ks m have i k at = let r = from_at ks i k at in subst (λ x. IsLeft p x) (sym r.1) (have.back i k r.0)

-- the value is all that the threads have added
pub value_is : (p : Adders) (before ks threads : List Adder) (n : ℕ) (values : List ℕ) → HaveAdded p before n ks → threads ≡ in_order p.layout.threads ks → KeepsLocks AreSums threads values → values ≡ n ∷ []
value_is p before ks threads n values have is locks =
    let one = the_value IsSum values locks.shares locks.kept in
    let shares = shares_added threads locks.shares locks.each_share in
    let ordered = ap (λ ts. added_by ts) is ∙ total_in_order (λ (k : Adder). amount k.share) p.layout.threads ks (All-weaker (IsLeft p) (λ k. k.number < p.layout.threads) (λ k b. b.named) ks have.back) in
    let all = one.2.all in
    let added = have.added in
    one.1 ∙ ap (λ k. k ∷ []) (omega arith)
