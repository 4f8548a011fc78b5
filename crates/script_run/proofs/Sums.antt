-- The sums of all threads are the sums of the script.
use Rattle.std.proofs.Common.{◌≡◌, ℕ, zero, suc, ◌+◌, ◌<◌, ◌≤◌, ◌⊎◌, inl, inr, List, [], ◌∷◌, length, get_or, map, replicate, refl, ap, sym, subst, ◌∙◌, Some, Option as Opt, arith}
use Rattle.std.proofs.lemmas.Bool.{ne_eqb}
use Rattle.std.proofs.lemmas.Bool.Decides.{eqb_tells}
use Rattle.std.proofs.lemmas.List.FromFn.{length-map-range_with_len}
use Rattle.std.specs.List.{range_with_len}
use mathlib.Core.Option.{some, some-injective, some-ne-none}
use lib.ListN.{get_elem?}
use Rattle.larch_actions.specs.declared.event.Layout.{Layout}
use Rattle.nub_rule.specs.Ends.{firsts}
use Rattle.nub_rule.specs.Known.{Shape}
use Rattle.sum_uses.specs.declared.added.Added.{Added}
use Rattle.sum_uses.specs.Sums.{added, total as share_total, AreSums}
use Rattle.script_text.specs.declared.line.Line.{Line}
use Rattle.script_text.specs.Operations.{Holding, Forked, holding_after, forked_with, MayFollow}
use Rattle.script_text.specs.Table.{fate_of}
use Rattle.script_run.specs.Playing.{Player, IsPlayed}
use Rattle.script_text.specs.Runs.{lines_of, total, added_by}

some_same : (r s : List Added) → (let o : Opt (List Added) = Some r in o) ≡ Some s → r ≡ s
some_same r s e = cc

above : (k t : ℕ) → k ≤ t → (k ≡ t → ⊥) → k + 1 ≤ t
above k t le ne = omega arith

-- what the threads k to k + n - 1 add
span : ℕ → ℕ → ℕ → List Line → ℕ
span k zero m xs = 0
span k (suc n) m xs = total (lines_of k xs) m + span (k + 1) n m xs

span_nothing : (k n m : ℕ) → span k n m [] ≡ 0
unfolding span
span_nothing k zero m = refl
span_nothing k (suc n) m = omega (arith, span_nothing (k + 1) n m)

-- a line of none of these threads
span_out : (k n m : ℕ) (x : Line) (xs : List Line) → (x.thread.0 < k) ⊎ (k + n ≤ x.thread.0) → span k n m (x ∷ xs) ≡ span k n m xs
unfolding span
span_out k zero m x xs h = refl
span_out k (suc n) m x xs h =
    let ne : x.thread.0 ≡ k → ⊥ = λ e. elim h [ inl a ↦ omega arith | inr a ↦ omega arith ] in
    let next : (x.thread.0 < k + 1) ⊎ (k + 1 + n ≤ x.thread.0) = elim h [ inl a ↦ inl (omega arith) | inr a ↦ inr (omega arith) ] in
    rw (ne_eqb x.thread.0 k ne) (ap (λ s. total (lines_of k xs) m + s) (span_out (k + 1) n m x xs next))

span_in : (k n m : ℕ) (x : Line) (xs : List Line) → k ≤ x.thread.0 → x.thread.0 < k + n → span k n m (x ∷ xs) ≡ added_by x.operation m + span k n m xs
unfolding span
span_in k zero m x xs low high = absurd (omega arith)
span_in k (suc n) m x xs low high =
    elim (eqb_tells x.thread.0 k) [
      | inl p ↦
          let e = p.1 in
          rw p.0 (omega (arith, span_out (k + 1) n m x xs (inl (omega arith))))
      | inr p ↦
          let ne = p.1 in
          rw p.0 (omega (arith, span_in (k + 1) n m x xs (above k x.thread.0 low (λ e. ne (sym e))) (omega arith)))
    ]

span_total : (l : Layout) (h : Holding) (g : Forked) (m : ℕ) (xs : List Line) → MayFollow l h g xs → span 0 l.threads m xs ≡ total xs m
span_total l h g m [] f = span_nothing 0 l.threads m
span_total l h g m (x ∷ xs) f =
    span_in 0 l.threads m x xs (omega arith) (omega (arith, f.0.thread)) ∙ ap (λ s. added_by x.operation m + s) (span_total l (holding_after h x.thread.0 x.operation) (forked_with g (fate_of x.operation)) m xs f.1)

-- what the thread t has added is what its lines add
pub record HasSums (xs : List Line) (t : ℕ) (me : Player) : Type 0 where
  pub share : List Added
  pub is_share : me.share ≡ Some share
  pub sums : (m : ℕ) → m < 64 → added m share ≡ total (lines_of t xs) m

shares_span : (xs : List Line) (m k : ℕ) (threads : List Player) (shares : List (List Added)) → m < 64 → ((n : ℕ) (t : Player) → get_elem? threads n ≡ some t → HasSums xs (k + n) t)
    → map (λ t. t.share) threads ≡ map (λ s. Some s) shares → share_total m shares ≡ span k (length threads) m xs
unfolding span
shares_span xs m k [] [] low each e = refl
shares_span xs m k [] (s ∷ shares) low each e = absurd (cc)
shares_span xs m k (t ∷ threads) [] low each e = absurd (cc)
shares_span xs m k (t ∷ threads) (s ∷ shares) low each e =
    let head : t.share ≡ Some s = cc in
    let tail : map (λ t. t.share) threads ≡ map (λ s. Some s) shares = cc in
    let first = each 0 t refl in
    let same = some_same first.share s (sym first.is_share ∙ head) in
    let here : added m s ≡ total (lines_of (k + 0) xs) m = ap (added m) (sym same) ∙ first.sums m low in
    let at : total (lines_of (k + 0) xs) m ≡ total (lines_of k xs) m = let z : k + 0 ≡ k = omega arith in ap (λ i. total (lines_of i xs) m) z in
    let ih = shares_span xs m (k + 1) threads shares low (λ n u h. let q : k + 1 + n ≡ k + suc n = omega arith in let P : ℕ → Type 0 = λ i. HasSums xs i u in subst P (sym q) (each (suc n) u h)) tail in
    let sum : added m s ≡ total (lines_of k xs) m = here ∙ at in
    omega (arith, sum, ih)

pub sums_total : (l : Layout) (h : Holding) (g : Forked) (xs : List Line) (m : ℕ) (threads : List Player) (shares : List (List Added)) → MayFollow l h g xs → m < 64 → length threads ≡ l.threads
    → ((n : ℕ) (t : Player) → get_elem? threads n ≡ some t → HasSums xs n t) → map (λ t. t.share) threads ≡ map (λ s. Some s) shares → share_total m shares ≡ total xs m
sums_total l h g xs m threads shares f low count each e =
    shares_span xs m 0 threads shares low (λ n t g. let q : 0 + n ≡ n = omega arith in let P : ℕ → Type 0 = λ i. HasSums xs i t in subst P (sym q) (each n t g)) e
    ∙ ap (λ n. span 0 n m xs) count ∙ span_total l h g m xs f

pub shares_total : (p : Shape (Prim.Unit {0})) (l : Layout) (h : Holding) (g : Forked) (xs : List Line) (m : ℕ) (threads : List Player) (shares : List (List Added)) → MayFollow l h g xs → m < 64 → length threads ≡ l.threads
    → ((n : ℕ) (t : Player) → get_elem? threads n ≡ some t → IsPlayed p xs n t) → map (λ t. t.share) threads ≡ map (λ s. Some s) shares → share_total m shares ≡ total xs m
shares_total p l h g xs m threads shares f low count each e =
    sums_total l h g xs m threads shares f low count (λ n t at. let b = each n t at in record { share = b.share; is_share = b.is_share; sums = b.sums }) e

length-firsts : (n : ℕ) → length (firsts (λ i. let s : List Added = [] in s) n) ≡ n
length-firsts n = length-map-range_with_len (λ i. let s : List Added = [] in s) 0 n

empty_at : (ns : List ℕ) (t : ℕ) (s : List Added) → get_elem? (map (λ i. let r : List Added = [] in r) ns) t ≡ some s → s ≡ []
empty_at [] t s e = absurd (some-ne-none s (sym e))
empty_at (n ∷ ns) zero s e = sym (some-injective [] s e)
empty_at (n ∷ ns) (suc t) s e = empty_at ns t s e

no_total : (m : ℕ) (ns : List ℕ) → share_total m (map (λ i. let r : List Added = [] in r) ns) ≡ 0
no_total m [] = refl
no_total m (n ∷ ns) = omega (arith, no_total m ns)

zero_at : (count m x : ℕ) → get_elem? (replicate count 0) m ≡ some x → x ≡ 0
zero_at zero m x e = absurd (some-ne-none x (sym e))
zero_at (suc count) zero x e = sym (some-injective 0 x e)
zero_at (suc count) (suc m) x e = zero_at count m x e

-- at first no thread has added anything
pub first_sums : (count threads : ℕ) (values : List ℕ) → threads ≤ 256 → values ≡ replicate count 0 → AreSums values (firsts (λ n. let s : List Added = [] in s) threads)
first_sums count threads values few e = record {
  few = omega (arith, length-firsts threads);
  small = λ t s got m. let z = empty_at (range_with_len 0 threads) t s got in let a : added m s ≡ 0 = ap (added m) z in omega arith;
  sums = λ m x got. let P : List ℕ → Type 0 = λ l. get_elem? l m ≡ some x in zero_at count m x (subst P e got) ∙ sym (no_total m (range_with_len 0 threads));
}

pub elem_at : {A : Type 0} (l : List A) (i : ℕ) → i < length l → (x : A) × (get_elem? l i ≡ some x)
elem_at [] i low = absurd (omega arith)
elem_at (y ∷ l) zero low = (y, refl)
elem_at (y ∷ l) (suc i) low = elem_at l i (omega arith)

pub elem_is : (l : List ℕ) (i x : ℕ) → get_elem? l i ≡ some x → get_or l i 0 ≡ x
elem_is [] i x e = absurd (some-ne-none x (sym e))
elem_is (y ∷ l) zero x e = some-injective y x e
elem_is (y ∷ l) (suc i) x e = elem_is l i x e
