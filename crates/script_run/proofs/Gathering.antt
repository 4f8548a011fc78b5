-- The threads of a run of version two, before it and when all have come back.
use Rattle.std.proofs.Common.{◌≡◌, ◌⊎◌, inl, inr, ◌<◌, ◌≤◌, ◌+◌, Bool, true, false, ℕ, zero, suc, List, [], ◌∷◌, ◌++◌, map, length, get_or, take, ◌-◌, sym, ap, subst, ◌∙◌, refl, length-append, arith}
use Rattle.std.proofs.lemmas.Bool.{cases_lt}
use Rattle.std.proofs.lemmas.List.{length-map, map-append}
use Rattle.std.proofs.Math.Seq.{take-append_seam}
use mathlib.Core.Option.{some, some-injective}
use lib.ListN.{get_elem?}
use Rattle.larch_actions.specs.declared.event.Layout.{Layout}
use Rattle.larch_actions.specs.declared.event.Version.TheVariants.{Two}
use Rattle.larch_actions.specs.Layout.{IsLawful}
use Rattle.nub_rule.specs.Forks.{AreAll, in_order, with_number}
use Rattle.nub_rule.specs.Items.{Each}
use Rattle.nub_rule.specs.Known.{Shape}
use Rattle.nub_rule.proofs.Each.{at_within, each-map}
use Rattle.nub_rule.proofs.Ordering.{one-there, with-both, in-order-long}
use Rattle.nub.specs.Ended.{IsFirst, KeepsLocks}
use Rattle.nub.specs.Forks.{IsLeft, IsRight}
use Rattle.sum_uses.specs.declared.added.Added.{Added}
use Rattle.sum_uses.specs.Sums.{AreSums}
use Rattle.script_text.specs.declared.line.Line.{Line}
use Rattle.script_text.specs.Operations.{none_held, MayFollow, none_forked, forked_after, is_born}
use Rattle.script_text.specs.Runs.{total}
use Rattle.script_text.specs.Visits.{AreVisitsAndEnd}
use Rattle.script_run.specs.declared.slots.Slot.{Slot}
use Rattle.script_run.specs.declared.slots.Slot.TheVariants as slot
use Rattle.script_run.specs.Placing.{occurs, numbers_of, unborn_slots, ended_slots, ArePlaced}
use Rattle.script_run.specs.Playing.{Player, visits_of}
use Rattle.script_run.specs.Regions.{below, region}
use Rattle.script_run.specs.Slots.{slot_number, IsWaiting, HasEnded, IsOver, AreReady, AreOver}
use Rattle.script_run.proofs.Closing.{IsMade}
use Rattle.script_run.proofs.Members.{single, nothing, each_both, each_first, each_second, mapped_at, length_with, rights_once, first_no_right, each_alike, in_order_at}
use Rattle.script_run.proofs.Orders.{bit, bit_true, bit_false, bit_small, occurs_append, region_once, no_lines, past_unborn}
use Rattle.script_run.proofs.Putting.{occurs_else}
use Rattle.script_run.proofs.Sums.{HasSums, sums_total, elem_at, elem_is}
use Rattle.script_run.proofs.Whole.{begins, no_links}

abbrev IsRightOf : Shape (Prim.Unit {0}) → Player → Type 0
IsRightOf p k = IsRight p (λ w n. let s : List Added = [] in s) k.number k

own_right : (p : Shape (Prim.Unit {0})) (n : ℕ) (k : Player) → IsRight p (λ w i. let s : List Added = [] in s) n k → IsRightOf p k
own_right p n k r = let P : ℕ → Type 0 = λ i. IsRight p (λ w j. let s : List Added = [] in s) i k in subst P (sym r.number) r

unborn_numbers : (ks : List Player) → map slot_number (unborn_slots ks) ≡ numbers_of ks
unborn_numbers [] = refl
unborn_numbers (k ∷ ks) = ap (λ l. k.number ∷ l) (unborn_numbers ks)

ended_numbers : (ks : List Player) → map slot_number (ended_slots ks) ≡ numbers_of ks
ended_numbers [] = refl
ended_numbers (k ∷ ks) = ap (λ l. k.number ∷ l) (ended_numbers ks)

low_or_past : (n m : ℕ) → (n ≡ 0) ⊎ (((1 ≤ n) × (n < m)) ⊎ ((1 ≤ n) × (m ≤ n)))
low_or_past zero m = inl refl
low_or_past (suc n) m = elim (cases_lt (suc n) m) [ inl low ↦ inr (inl (omega arith, low)) | inr past ↦ inr (inr (omega arith, past)) ]

bool_cases : (b : Bool) → (b ≡ true) ⊎ (b ≡ false)
bool_cases true = inl refl
bool_cases false = inr refl

-- the rights suffice for all that are forked below the first thread
pub enough_rights : (l : Layout) (xs : List Line) (rights : List Player) → l.version ≡ Two → MayFollow l none_held none_forked xs → ((i : ℕ) (k : Player) → get_elem? rights i ≡ some k → k.number ≡ i + 1) → length rights + 1 ≡ l.threads
    → (n : ℕ) → occurs n (below xs 0) ≤ length (with_number n rights)
enough_rights l xs rights two f own count n =
    let here = occurs_append n (below xs 0) (0 ∷ []) in
    let all = region_once l xs two f n in
    elim (low_or_past n l.threads) [
      | inl first ↦
          let a = bit_small (is_born (forked_after none_forked xs) n) in
          let c : occurs n (0 ∷ []) ≡ 1 = ap (λ i. occurs i (0 ∷ [])) first in
          omega (arith, here, all, a, c)
      | inr (inl low) ↦
          let a = bit_small (is_born (forked_after none_forked xs) n) in
          let b = rights_once n l.threads rights own count low.0 low.1 in
          let d = length_with n rights in
          omega (arith, here, all, a, b, d)
      | inr (inr past) ↦
          let a = bit_false (is_born (forked_after none_forked xs) n) (past_unborn l xs f n past.0 past.1) in
          omega (arith, here, all, a)
    ]

-- at first all stand ready
pub ready_first : (p : Shape (Prim.Unit {0})) (xs : List Line) (first : Player) (rights : List Player) (order : List ℕ) (slots : List Slot) (others : List Player) → ArePlaced first rights order slots others → order ≡ below xs 0
    → IsFirst p (λ w n. let s : List Added = [] in s) 0 first → Each (λ n k. IsRight p (λ w i. let s : List Added = [] in s) (n + 1) k) rights → AreReady p xs 0 0 slots
ready_first p xs first rights order slots others placed is f each = let t = placed.taken in record {
  numbers =
      let prefix : map slot_number placed.prefix ≡ below xs 0 = ap (map slot_number) t.are ∙ (unborn_numbers t.taken ∙ (t.numbers ∙ is)) in
      ap (map slot_number) placed.are ∙ (map-append slot_number placed.prefix (slot.Live (record { me = first; numbers = placed.numbers }) 0 true ∷ []) ∙ (λ j. prefix j ++ f.number j ∷ []));
  prefix = placed.prefix;
  last = slot.Live (record { me = first; numbers = placed.numbers }) 0 true;
  split = placed.are;
  waiting =
      let rights_of : Each (λ _ k. IsRightOf p k) rights = λ n k at. own_right p (n + 1) k (each n k at) in
      let all : Each (λ _ k. IsRightOf p k) (t.taken ++ others) = each_alike (IsRightOf p) rights (t.taken ++ others) t.same rights_of in
      let own : Each (λ _ k. IsRightOf p k) t.taken = each_first (IsRightOf p) t.taken others all in
      let P : List Slot → Type 0 = λ l. Each (λ n s. IsWaiting p s) l in
      subst P (sym t.are) (each-map (λ (k : Player). slot.Unborn k) (λ n s. IsWaiting p s) t.taken own);
  live = (refl, begins p 0 placed.numbers first placed.size f);
}

is_ended : (p : Shape (Prim.Unit {0})) (xs : List Line) (s : Slot) → IsOver p xs s → (k : Player) × (s ≡ slot.Ended k)
is_ended p xs (slot.Ended k) e = (k, refl)
is_ended p xs (slot.Unborn k) e = absurd e
is_ended p xs (slot.Live w i b) e = absurd e
is_ended p xs slot.Taken e = absurd e

pub all_ended : (p : Shape (Prim.Unit {0})) (xs : List Line) (order : List ℕ) (slots : List Slot) → AreOver p xs order slots → Each (λ n s. (k : Player) × (s ≡ slot.Ended k)) slots
all_ended p xs order slots over n s at = is_ended p xs s (over.over n s at)

-- all threads of the package have come back: those that were born have ended, and the others have the rights to begin them
pub record AreBack (p : Shape (Prim.Unit {0})) (l : Layout) (xs : List Line) (ended others : List Player) : Type 0 where
  pub over : Each (λ _ k. HasEnded p xs k) ended
  pub never : Each (λ _ k. IsRightOf p k) others
  pub born : (n : ℕ) → occurs n (numbers_of ended) ≡ bit (is_born (forked_after none_forked xs) n)
  pub once : (n : ℕ) → n < l.threads → occurs n (numbers_of ended) + occurs n (numbers_of others) ≡ 1

one_or_first : (n threads : ℕ) (rights : List Player) → ((i : ℕ) (k : Player) → get_elem? rights i ≡ some k → k.number ≡ i + 1) → length rights + 1 ≡ threads → n < threads → occurs n (0 ∷ []) + occurs n (numbers_of rights) ≡ 1
one_or_first zero threads rights own count low = let a = first_no_right rights own in omega (arith, a)
one_or_first (suc n) threads rights own count low =
    let a = rights_once (suc n) threads rights own count (omega arith) low in
    let b : occurs (suc n) (0 ∷ []) ≡ 0 = occurs_else (suc n) 0 [] (λ e. omega arith) in
    omega (arith, a, b)

pub are_back : (p : Shape (Prim.Unit {0})) (l : Layout) (xs : List Line) (first : Player) (rights : List Player) (order : List ℕ) (slots : List Slot) (others ended : List Player) → l.version ≡ Two → MayFollow l none_held none_forked xs
    → ArePlaced first rights order slots others → order ≡ below xs 0 → Each (λ n k. IsRight p (λ w i. let s : List Added = [] in s) (n + 1) k) rights → length rights + 1 ≡ l.threads → AreOver p xs (region xs 0) (ended_slots ended) → AreBack p l xs ended others
are_back p l xs first rights order slots others ended two f placed is each count over =
    let t = placed.taken in
    let same : numbers_of ended ≡ region xs 0 = sym (ended_numbers ended) ∙ over.numbers in
    record {
      over = λ n k at. over.over n (slot.Ended k) (mapped_at (λ (z : Player). slot.Ended z) ended n k at);
      never =
          let rights_of : Each (λ _ k. IsRightOf p k) rights = λ n k at. own_right p (n + 1) k (each n k at) in
          each_second (IsRightOf p) t.taken others (each_alike (IsRightOf p) rights (t.taken ++ others) t.same rights_of);
      born = λ n. ap (occurs n) same ∙ region_once l xs two f n;
      once = λ n low.
          let a : occurs n (numbers_of ended) ≡ occurs n (below xs 0) + occurs n (0 ∷ []) = ap (occurs n) same ∙ occurs_append n (below xs 0) (0 ∷ []) in
          let b : length (with_number n t.taken) + length (with_number n others) ≡ length (with_number n rights) = sym (length-append (with_number n t.taken) (with_number n others)) ∙ ap length (sym (with-both n t.taken others) ∙ t.same n) in
          let d = length_with n t.taken in
          let e : occurs n (numbers_of t.taken) ≡ occurs n (below xs 0) = ap (occurs n) (t.numbers ∙ is) in
          let g = length_with n others in
          let h = length_with n rights in
          let i = one_or_first n l.threads rights (λ j k at. (each j k at).number) count low in
          omega (arith, a, b, d, e, g, h, i);
    }

pub back_left : (p : Shape (Prim.Unit {0})) (l : Layout) (xs : List Line) (ended others : List Player) → AreBack p l xs ended others → Each (λ _ k. IsLeft p k) (ended ++ others)
back_left p l xs ended others b = each_both (IsLeft p) ended others (λ n k at. (b.over n k at).left) (λ n k at. (b.never n k at).left)

pub back_all : (p : Shape (Prim.Unit {0})) (l : Layout) (xs : List Line) (ended others : List Player) → AreBack p l xs ended others → AreAll l.threads (ended ++ others)
back_all p l xs ended others b n low =
    let a = ap length (with-both n ended others) ∙ length-append (with_number n ended) (with_number n others) in
    let c = length_with n ended in
    let d = length_with n others in
    let e = b.once n low in
    single (with_number n (ended ++ others)) (omega (arith, a, c, d, e))

-- the thread t has come back: it was born, or it wasn't
record IsBack (xs : List Line) (t : ℕ) (k : Player) : Type 0 where
  pub made : IsMade Two xs t k
  pub sums : HasSums xs t k

ended_back : (p : Shape (Prim.Unit {0})) (xs : List Line) (t : ℕ) (k : Player) → k.number ≡ t → is_born (forked_after none_forked xs) t ≡ true → HasEnded p xs k → IsBack xs t k
ended_back p xs t k own there e =
    let P : ℕ → Type 0 = λ i. AreVisitsAndEnd true xs i k.mine (visits_of k.stints) in
    let Q : Bool → Type 0 = λ b. AreVisitsAndEnd b xs t k.mine (visits_of k.stints) in
    let S : ℕ → Type 0 = λ i. HasSums xs i k in
    record {
      made = record { visits = subst Q (sym there) (subst P own (e.calls, e.visits, e.mine)); share = e.share; is_share = e.is_share; linked = e.linked };
      sums = subst S own (record { share = e.share; is_share = e.is_share; sums = e.sums });
    }

never_back : (p : Shape (Prim.Unit {0})) (l : Layout) (xs : List Line) (t : ℕ) (k : Player) → l.version ≡ Two → MayFollow l none_held none_forked xs → is_born (forked_after none_forked xs) t ≡ false → IsRightOf p k → IsBack xs t k
never_back p l xs t k two f not r =
    let Q : Bool → Type 0 = λ b. AreVisitsAndEnd b xs t k.mine (visits_of k.stints) in
    record {
      made = record { visits = subst Q (sym not) (r.mine, ap visits_of r.stints); share = []; is_share = r.share; linked = no_links k.stints r.stints };
      sums = record {
        share = [];
        is_share = r.share;
        sums = λ m low. sym (ap (λ ys. total ys m) (no_lines l xs two f t not));
      };
    }

same_one : {A : Type 0} (x y : A) (xs : List A) → xs ≡ x ∷ [] → xs ≡ y ∷ [] → x ≡ y
same_one x y xs a b = let e : x ∷ [] ≡ y ∷ [] = sym a ∙ b in cc

thread_back : (p : Shape (Prim.Unit {0})) (l : Layout) (xs : List Line) (ended others : List Player) → l.version ≡ Two → MayFollow l none_held none_forked xs → AreBack p l xs ended others
    → (t : ℕ) → t < l.threads → (k : Player) → with_number t (ended ++ others) ≡ k ∷ [] → IsBack xs t k
thread_back p l xs ended others two f b t low k one =
    let a = b.once t low in
    let c = length_with t ended in
    let d = length_with t others in
    let n = b.born t in
    let P : Player → Type 0 = λ z. IsBack xs t z in
    elim (bool_cases (is_born (forked_after none_forked xs) t)) [
      | inl there ↦
          let i = bit_true (is_born (forked_after none_forked xs) t) there in
          let s = single (with_number t ended) (omega (arith, c, n, i)) in
          let z = nothing (with_number t others) (omega (arith, a, d, n, i)) in
          let w : with_number t (ended ++ others) ≡ s.0 ∷ [] = with-both t ended others ∙ (λ j. s.1 j ++ z j) in
          let at = one-there t ended s.0 s.1 in
          subst P (same_one s.0 k (with_number t (ended ++ others)) w one) (ended_back p xs t s.0 at.2 there (b.over at.0 s.0 at.1))
      | inr not ↦
          let i = bit_false (is_born (forked_after none_forked xs) t) not in
          let s = single (with_number t others) (omega (arith, a, d, n, i)) in
          let z = nothing (with_number t ended) (omega (arith, c, n, i)) in
          let w : with_number t (ended ++ others) ≡ s.0 ∷ [] = with-both t ended others ∙ (λ j. z j ++ s.1 j) in
          let at = one-there t others s.0 s.1 in
          subst P (same_one s.0 k (with_number t (ended ++ others)) w one) (never_back p l xs t s.0 two f not (b.never at.0 s.0 at.1))
    ]

-- each has come back, in order
in_order_back : (p : Shape (Prim.Unit {0})) (l : Layout) (xs : List Line) (ended others : List Player) → l.version ≡ Two → MayFollow l none_held none_forked xs → AreBack p l xs ended others → Each (IsBack xs) (in_order l.threads (ended ++ others))
in_order_back p l xs ended others two f b t k at =
    let all = back_all p l xs ended others b in
    let long = in-order-long l.threads (ended ++ others) all in
    let within = at_within (in_order l.threads (ended ++ others)) t k at in
    let low : t < l.threads = omega (arith, long, within) in
    let there = in_order_at l.threads (ended ++ others) all t low in
    let P : Player → Type 0 = λ z. IsBack xs t z in
    subst P (some-injective there.0 k (sym there.2 ∙ at)) (thread_back p l xs ended others two f b t low there.0 there.1)

-- each of these threads has made the events and the visits of its lines
pub made_of : (p : Shape (Prim.Unit {0})) (l : Layout) (xs : List Line) (ended others threads : List Player) → l.version ≡ Two → MayFollow l none_held none_forked xs → AreBack p l xs ended others
    → threads ≡ in_order l.threads (ended ++ others) → (length threads ≡ l.threads) × ((n : ℕ) (k : Player) → get_elem? threads n ≡ some k → IsMade Two xs n k)
made_of p l xs ended others threads two f b same = (
  ap length same ∙ in-order-long l.threads (ended ++ others) (back_all p l xs ended others b),
  λ n k at. (in_order_back p l xs ended others two f b n k (ap (λ z. get_elem? z n) (sym same) ∙ at)).made,
)

-- the values are the totals
pub totals_of : (p : Shape (Prim.Unit {0})) (l : Layout) (xs : List Line) (ended others threads : List Player) (values : List ℕ) → IsLawful l → l.version ≡ Two → MayFollow l none_held none_forked xs → AreBack p l xs ended others
    → threads ≡ in_order l.threads (ended ++ others) → KeepsLocks AreSums threads values → length values ≡ l.mutexes → (m : ℕ) → m < l.mutexes → get_or values m 0 ≡ total xs m
totals_of p l xs ended others threads values ok two f b same locks size m low =
    let long = in-order-long l.threads (ended ++ others) (back_all p l xs ended others b) in
    let at = elem_at values m (omega arith) in
    let each : (n : ℕ) (t : Player) → get_elem? threads n ≡ some t → HasSums xs n t = λ n t there. (in_order_back p l xs ended others two f b n t (ap (λ z. get_elem? z n) (sym same) ∙ there)).sums in
    elem_is values m at.0 at.1 ∙ (locks.kept.sums m at.0 at.1 ∙ sums_total l none_held none_forked xs m threads locks.shares f (omega (arith, ok.mutexes)) (ap length same ∙ long) each locks.each_share)

-- the order without the first thread
pub below_of : (xs : List Line) (order ys : List ℕ) (n : ℕ) → order ≡ region xs 0 → ys ≡ order → n ≡ length order → take (n - 1) ys ≡ below xs 0
below_of xs order ys n is same long =
    let whole : ys ≡ below xs 0 ++ 0 ∷ [] = same ∙ is in
    let e : n - 1 ≡ length (below xs 0) = omega (arith, long, ap length is, length-append (below xs 0) (0 ∷ [])) in
    ap (take (n - 1)) whole ∙ (ap (λ i. take i (below xs 0 ++ 0 ∷ [])) e ∙ take-append_seam (below xs 0) (0 ∷ []))

pub over_moved : (p : Shape (Prim.Unit {0})) (xs : List Line) (o u : List ℕ) (s t : List Slot) → o ≡ u → s ≡ t → AreOver p xs o s → AreOver p xs u t
over_moved p xs o u s t same is over =
    let O : List ℕ → Type 0 = λ z. AreOver p xs z s in
    let S : List Slot → Type 0 = λ z. AreOver p xs u z in
    subst S is (subst O same over)

pub long_over : (p : Shape (Prim.Unit {0})) (xs : List Line) (s t : List Slot) → AreOver p xs (map slot_number s) t → length t ≡ length s
long_over p xs s t over = sym (length-map t slot_number) ∙ (ap length over.numbers ∙ length-map s slot_number)
