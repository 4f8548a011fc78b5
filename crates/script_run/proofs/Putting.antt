-- Threads are put into their places.
use Rattle.std.proofs.Common.{◌≡◌, ◌≢◌, ◌<◌, ◌≤◌, ◌+◌, ℕ, zero, suc, List, [], ◌∷◌, ◌++◌, map, length, get_or, take, drop, Some, sym, ap, ◌∙◌, refl, append_assoc, arith}
use Rattle.std.specs.Prelude.{slice_get}
use Rattle.std.specs.List.{remove}
use Rattle.std.specs.Option.{option_map}
use Rattle.std.proofs.lemmas.Bool.{eq-eqb, ne_eqb}
use Rattle.std.proofs.lemmas.List.{map-append, take_more}
use Rattle.std.proofs.lemmas.Option.{slice_get-map, slice_get_read}
use Rattle.std.proofs.Math.Seq.{drop-cons}
use mathlib.Core.Logic.{dite}
use mathlib.Core.Option.{some, some-injective, some-ne-none}
use native.Mathlib.Decide.{ℕ_discrete}
use lib.ListN.{get_elem?}
use Rattle.nub_rule.specs.Forks.{with_number}
use Rattle.nub_rule.proofs.Ordering.{with-both, with-removed}
use Rattle.script_run.specs.declared.slots.Slot.{Slot}
use Rattle.script_run.specs.declared.slots.Slot.TheVariants as slot
use Rattle.script_run.specs.Placing.{occurs, AreTaken}
use Rattle.script_run.specs.Playing.{Player}
use Rattle.script_run.specs.Slots.{slot_number}

some_number : (n m : ℕ) → (let a = Some n in a) ≡ Some m → n ≡ m
some_number n m e = cc

-- the number of the slot that was read
pub number_at : (slots : List Slot) (i : ℕ) (s : Slot) → i < length slots → s ≡ get_or slots i s → slice_get (map slot_number slots) i ≡ Some (slot_number s)
number_at slots i s low is = slice_get-map slot_number slots i ∙ ap (option_map slot_number) (slice_get_read slots (length slots) i s refl low is)

-- one more slot was looked at
pub none_more : (slots : List Slot) (i : ℕ) (s : Slot) (who : ℕ) → i < length slots → s ≡ get_or slots i s → slot_number s ≢ who
    → ((n : ℕ) → n < i → slice_get (map slot_number slots) n ≢ Some who) → (n : ℕ) → n < i + 1 → slice_get (map slot_number slots) n ≢ Some who
none_more slots i s who low is ne before n below e = dite (ℕ_discrete n i)
    (λ same. ne (some_number (slot_number s) who (sym (number_at slots i s low is) ∙ (ap (slice_get (map slot_number slots)) (sym same) ∙ e))))
    (λ other. before n (omega arith) e)

pub occurs_here : (n x : ℕ) (xs : List ℕ) → x ≡ n → occurs n (x ∷ xs) ≡ occurs n xs + 1
occurs_here n x xs e = rw (eq-eqb x n e) refl

pub occurs_else : (n x : ℕ) (xs : List ℕ) → x ≢ n → occurs n (x ∷ xs) ≡ occurs n xs
occurs_else n x xs ne = rw (ne_eqb x n ne) refl

no_length : {A : Type 0} (xs : List A) → 1 ≤ length xs → xs ≡ [] → ⊥
no_length [] h e = absurd (omega arith)
no_length (x ∷ xs) h e = cc

-- who stands first in an order that the rights suffice for has one
pub has_right : (x : ℕ) (xs ys : List ℕ) (ks : List Player) → xs ≡ x ∷ ys → ((n : ℕ) → occurs n xs ≤ length (with_number n ks)) → with_number x ks ≢ []
has_right x xs ys ks is enough none =
    let a : occurs x xs ≡ occurs x ys + 1 = ap (occurs x) is ∙ occurs_here x x ys refl in
    let b = enough x in
    no_length (with_number x ks) (omega arith) none

with-here : (n : ℕ) (k : Player) (ks : List Player) → k.number ≡ n → with_number n (k ∷ ks) ≡ k ∷ with_number n ks
with-here n k ks e = rw (eq-eqb k.number n e) refl

with-else : (n : ℕ) (k : Player) (ks : List Player) → k.number ≢ n → with_number n (k ∷ ks) ≡ with_number n ks
with-else n k ks ne = rw (ne_eqb k.number n ne) refl

pub drop_more : (xs : List ℕ) (at : ℕ) → at < length xs → drop at xs ≡ get_or xs at 0 ∷ drop (at + 1) xs
drop_more xs at low = let e : suc at ≡ at + 1 = omega arith in drop-cons xs at 0 low ∙ ap (λ i. get_or xs at 0 ∷ drop i xs) e

-- the first of its number is the first of those with the number
pub first_out : (n : ℕ) (ks : List Player) (i : ℕ) (k : Player) → get_elem? ks i ≡ some k → k.number ≡ n → ((j : ℕ) (x : Player) → j < i → get_elem? ks j ≡ some x → x.number ≢ n) → with_number n ks ≡ k ∷ with_number n (remove ks i)
first_out n [] i k at is before = absurd (some-ne-none k (sym at))
first_out n (x ∷ xs) zero k at is before =
    let e = some-injective x k at in
    with-here n x xs (ap (λ (z : Player). z.number) e ∙ is) ∙ ap (λ (z : Player). z ∷ with_number n xs) e
first_out n (x ∷ xs) (suc i) k at is before =
    let other = before 0 x (omega arith) refl in
    let ih = first_out n xs i k at is (λ j y low. before (suc j) y (omega arith)) in
    with-else n x xs other ∙ (ih ∙ ap (λ l. k ∷ l) (sym (with-else n x (remove xs i) other)))

-- one that is put away is followed by the others
out_at : (n : ℕ) (ks new : List Player) (i : ℕ) (k : Player) → new ≡ remove ks i → get_elem? ks i ≡ some k → ((j : ℕ) (x : Player) → j < i → get_elem? ks j ≡ some x → x.number ≢ k.number) → with_number n (k ∷ new) ≡ with_number n ks
out_at n ks new i k is at before = dite (ℕ_discrete k.number n)
    (λ same. with-here n k new same ∙ (ap (λ l. k ∷ with_number n l) is ∙ sym (first_out n ks i k at same (λ j x low there e. before j x low there (e ∙ sym same)))))
    (λ other. with-else n k new other ∙ (ap (with_number n) is ∙ with-removed n ks i k at other))

pub enough_next : (x : ℕ) (xs ys : List ℕ) (ks new : List Player) (i : ℕ) (k : Player) → xs ≡ x ∷ ys → ((n : ℕ) → occurs n xs ≤ length (with_number n ks)) → new ≡ remove ks i → get_elem? ks i ≡ some k → k.number ≡ x
    → ((j : ℕ) (y : Player) → j < i → get_elem? ks j ≡ some y → y.number ≢ k.number) → (n : ℕ) → occurs n ys ≤ length (with_number n new)
enough_next x xs ys ks new i k is enough out at own before n =
    let all = ap length (out_at n ks new i k out at before) in
    let e = enough n in
    dite (ℕ_discrete k.number n)
    (λ same. let a : occurs n xs ≡ occurs n ys + 1 = ap (occurs n) is ∙ occurs_here n x ys (sym own ∙ same) in let b = ap length (with-here n k new same) in omega arith)
    (λ other. let a : occurs n xs ≡ occurs n ys = ap (occurs n) is ∙ occurs_else n x ys (λ z. other (own ∙ z)) in let b = ap length (with-else n k new other) in omega arith)

pub taken_next : (rights : List Player) (order : List ℕ) (at : ℕ) (slots next : List Slot) (ks new : List Player) (i : ℕ) (k : Player) (x : ℕ) → AreTaken rights (take at order) slots ks → at < length order → x ≡ get_or order at 0
    → next ≡ slots ++ slot.Unborn k ∷ [] → new ≡ remove ks i → get_elem? ks i ≡ some k → k.number ≡ x → ((j : ℕ) (y : Player) → j < i → get_elem? ks j ≡ some y → y.number ≢ k.number)
    → AreTaken rights (take (at + 1) order) next new
taken_next rights order at slots next ks new i k x t low read more out there own before = record {
  taken = t.taken ++ k ∷ [];
  are = more ∙ (ap (λ l. l ++ slot.Unborn k ∷ []) t.are ∙ sym (map-append (λ (z : Player). slot.Unborn z) t.taken (k ∷ [])));
  numbers = map-append (λ (z : Player). z.number) t.taken (k ∷ []) ∙ ((λ j. t.numbers j ++ (own ∙ read) j ∷ []) ∙ sym (take_more order at 0 low));
  same = λ n.
      ap (with_number n) (append_assoc t.taken (k ∷ []) new) ∙ (with-both n t.taken (k ∷ new) ∙ (ap (λ l. with_number n t.taken ++ l) (out_at n ks new i k out there before) ∙ (sym (with-both n t.taken ks) ∙ t.same n)));
}
