-- The lists of all threads have each place of the history once, and nothing else.
use Rattle.std.proofs.Common.{map, ◌≡◌, ◌≢◌, Bool, ℕ, ◌+◌, ◌<◌, ◌≤◌, List, [], ◌∷◌, length, get_or, set, sym, ap, ◌∙◌, subst, refl, arith, cond, eqb, true, false, suc, zero, sum_by, ⊎_elim, length-set}
use Rattle.std.specs.List.{All, AllWithin}
use Rattle.std.proofs.lemmas.List.{get_or-map, length-map, get_or-set_same, get_or-set_other, get_or_default, same_lists}
use Rattle.std.proofs.lemmas.List.Sums.{sum_by-set, sum_by-cons}
use Rattle.std.proofs.lemmas.List.Elements.{All-nil, All-cons, All-head, All-tail}
use Rattle.std.proofs.lemmas.Bool.{cases_eq, cases_lt}
use Rattle.std.proofs.lemmas.Bool.Decides.{nat_tests}
use Rattle.larch_actions.specs.declared.event.Event.{Event}
use Rattle.nub_rule.specs.declared.package.Entry.{Entry}
use Rattle.nub.specs.History.{entries_from, entries_of, AreStored, IsOf, SameAt}
use Rattle.nub_rule.specs.declared.package.Stored.{Stored}

-- the list at t is what the thread t stores of h
pub record AreLists (h : List Event) (lists : List (List Entry)) : Type 0 where
  pub threads : All (λ e. e.thread.0 < length lists) h
  pub each : (t : ℕ) → t < length lists → get_or lists t [] ≡ entries_of t h

eqb-refl : (n : ℕ) → eqb n n ≡ true
eqb-refl n = grind (arith, nat_tests)

eqb-ne : (m n : ℕ) → m ≢ n → eqb m n ≡ false
eqb-ne m n h = grind (arith, nat_tests)

-- es is what h has from k on
record IsFrom (h : List Event) (k : ℕ) (es : List Event) : Type 0 where
  pub long : k + length es ≡ length h
  pub same : (j : ℕ) (d : Event) → get_or h (k + j) d ≡ get_or es j d

from_next : (h : List Event) (k : ℕ) (e : Event) (es : List Event) → IsFrom h k (e ∷ es) → IsFrom h (k + 1) es
from_next h k e es is = record {
  long = let a = is.long in omega arith;
  same = λ j d. let E : k + 1 + j ≡ k + suc j = omega arith in rw E (is.same (suc j) d);
}

from_head : (h : List Event) (k : ℕ) (e : Event) (es : List Event) → IsFrom h k (e ∷ es) → IsOf h (record { number = k; event = e })
from_head h k e es is = (let a = is.long in omega arith, λ d. let E : k ≡ k + 0 = omega arith in rw E (is.same 0 d))

All_cond : (P : Entry → Type 0) (b : Bool) (x : Entry) (ys : List Entry) → P x → All P ys → All P (cond b (x ∷ ys) ys)
All_cond P true x ys p a = All-cons P x ys p a
All_cond P false x ys p a = a

entries-are-of : (h : List Event) (t k : ℕ) (es : List Event) → IsFrom h k es → All (IsOf h) (entries_from t k es)
entries-are-of h t k [] is = All-nil (IsOf h)
entries-are-of h t k (e ∷ es) is = All_cond (IsOf h) (eqb e.thread.0 t) (record { number = k; event = e }) (entries_from t (k + 1) es) (from_head h k e es is) (entries-are-of h t (k + 1) es (from_next h k e es is))

pub entries_are_of : (h : List Event) (t : ℕ) → All (IsOf h) (entries_of t h)
entries_are_of h t = entries-are-of h t 0 h (record { long = omega arith; same = λ j d. let E : 0 + j ≡ j = omega arith in rw E refl })

-- some entry of xs has this place
abbrev pub HasPlace : ℕ → List Entry → Type 0
HasPlace k xs = (i : ℕ) × (i < length xs) × ((d : Entry) → (get_or xs i d).number ≡ k)

Has_cond : (k : ℕ) (b : Bool) (x : Entry) (ys : List Entry) → HasPlace k ys → HasPlace k (cond b (x ∷ ys) ys)
Has_cond k true x ys h = let l = h.1 in (suc h.0, omega arith, h.2)
Has_cond k false x ys h = h

has-place : (k : ℕ) (es : List Event) (j : ℕ) (d : Event) → j < length es → HasPlace (k + j) (entries_from (get_or es j d).thread.0 k es)
has-place k [] j d l = absurd (omega arith)
has-place k (e ∷ es) zero d l =
    let E : eqb e.thread.0 e.thread.0 ≡ true = eqb-refl e.thread.0 in
    let P : Bool → Type 0 = λ b. HasPlace (k + 0) (cond b (record { number = k; event = e } ∷ entries_from e.thread.0 (k + 1) es) (entries_from e.thread.0 (k + 1) es)) in
    subst P (sym E) (zero, omega arith, λ x. let F : k ≡ k + 0 = omega arith in F)
has-place k (e ∷ es) (suc j) d l =
    let t = (get_or es j d).thread.0 in
    let E : k + 1 + j ≡ k + suc j = omega arith in
    let P : ℕ → Type 0 = λ n. HasPlace n (entries_from t (k + 1) es) in
    Has_cond (k + suc j) (eqb e.thread.0 t) (record { number = k; event = e }) (entries_from t (k + 1) es) (subst P E (has-place (k + 1) es j d (omega arith)))

pub has_place : (h : List Event) (k : ℕ) (d : Event) → k < length h → HasPlace k (entries_of (get_or h k d).thread.0 h)
has_place h k d l = let P : ℕ → Type 0 = λ n. HasPlace n (entries_of (get_or h k d).thread.0 h) in let E : 0 + k ≡ k = omega arith in subst P E (has-place 0 h k d l)

-- all places are filled
pub filled : (h xs : List Event) (lists : List (List Entry)) → AreLists h lists → length xs ≡ length h → ((t : ℕ) → t < length lists → All (λ x. SameAt h xs x.number) (get_or lists t [])) → xs ≡ h
filled h xs lists stored long all = same_lists xs h long (λ k d l.
    let t = (get_or h k d).thread.0 in
    let m : k < length h = omega arith in
    let in' : t < length lists = stored.threads k d m in
    let has = has_place h k d m in
    let a : All (λ x. SameAt h xs x.number) (entries_of t h) = let P : List Entry → Type 0 = λ ys. All (λ x. SameAt h xs x.number) ys in subst P (stored.each t in') (all t in') in
    let none : Entry = record { number = 0; event = d } in
    let P : ℕ → Type 0 = λ n. SameAt h xs n in
    subst P (has.2 none) (a has.0 none has.1) d)

sum-none : (ls : List (List Entry)) → ((t : ℕ) → t < length ls → get_or ls t [] ≡ []) → sum_by (λ l. length l) ls ≡ 0
sum-none [] h = refl
sum-none (l ∷ ls) h = let a : length l ≡ 0 = ap length (h 0 (omega arith)) in let b = sum-none ls (λ t m. h (suc t) (omega arith)) in let e = sum_by-cons (λ l. length l) l ls in omega arith

stored-next : (k : ℕ) (e : Event) (es : List Event) (ls : List (List Entry)) → ((t : ℕ) → t < length ls → get_or ls t [] ≡ entries_from t k (e ∷ es)) → (t : ℕ) → t < length (set ls e.thread.0 (entries_from e.thread.0 (k + 1) es)) → get_or (set ls e.thread.0 (entries_from e.thread.0 (k + 1) es)) t [] ≡ entries_from t (k + 1) es
stored-next k e es ls each t m = let new = entries_from e.thread.0 (k + 1) es in let n : t < length ls = subst (λ (z : ℕ). t < z) (length-set ls e.thread.0 new) m in ⊎_elim
    (λ (p : t ≡ e.thread.0). rw p (get_or-set_same ls e.thread.0 new [] (subst (λ (z : ℕ). z < length ls) p n)))
    (λ (p : t ≢ e.thread.0). let F : eqb e.thread.0 t ≡ false = eqb-ne e.thread.0 t (λ q. p (sym q)) in
    get_or-set_other ls e.thread.0 t new [] p ∙ (each t n ∙ ap (λ b. cond b (record { number = k; event = e } ∷ entries_from t (k + 1) es) (entries_from t (k + 1) es)) F))
    (cases_eq t e.thread.0)

sum-stored : (k : ℕ) (es : List Event) (ls : List (List Entry)) → All (λ e. e.thread.0 < length ls) es → ((t : ℕ) → t < length ls → get_or ls t [] ≡ entries_from t k es) → sum_by (λ l. length l) ls ≡ length es
sum-stored k [] ls threads each = sum-none ls each
sum-stored k (e ∷ es) ls threads each =
    let t = e.thread.0 in
    let m : t < length ls = All-head (λ e. e.thread.0 < length ls) e es threads in
    let new = entries_from t (k + 1) es in
    let same : length (set ls t new) ≡ length ls = length-set ls t new in
    let more : All (λ e. e.thread.0 < length (set ls t new)) es = λ i d l. subst (λ (z : ℕ). (get_or es i d).thread.0 < z) (sym same) (All-tail (λ e. e.thread.0 < length ls) e es threads i d l) in
    let below = sum-stored (k + 1) es (set ls t new) more (stored-next k e es ls each) in
    let old : length (get_or ls t []) ≡ length new + 1 = ap length (each t m ∙ ap (λ b. cond b (record { number = k; event = e } ∷ new) new) (eqb-refl t)) ∙ (let a : suc (length new) ≡ length new + 1 = omega arith in a) in
    let sum = sum_by-set (λ l. length l) ls t new [] m in
    omega arith

pub sum_stored : (h : List Event) (lists : List (List Entry)) → AreLists h lists → sum_by (λ l. length l) lists ≡ length h
sum_stored h lists stored = sum-stored 0 h lists stored.threads stored.each

pub sum_by-map : {X Y : Type 0} → (f : Y → ℕ) (g : X → Y) (xs : List X) → sum_by f (map g xs) ≡ sum_by (λ x. f (g x)) xs
sum_by-map f g [] = refl
sum_by-map f g (x ∷ xs) = sum_by-cons f (g x) (map g xs) ∙ (ap (λ n. f (g x) + n) (sum_by-map f g xs) ∙ sym (sum_by-cons (λ x. f (g x)) x xs))

abbrev pub lists_of : List Stored → List (List Entry)
lists_of stored = map (λ s. s.entries.items) stored

pub listed : (stored : List Stored) (t : ℕ) (d : Stored) → t < length stored → get_or (lists_of stored) t [] ≡ (get_or stored t d).entries.items
listed stored t d l = get_or-map (λ s. s.entries.items) stored t d [] l

item_of : {A : Type 0} (xs : List A) (t : ℕ) → t < length xs → A
item_of [] t l = absurd (omega arith)
item_of (x ∷ xs) t l = x

pub whole_lists : (h : List Event) (stored : List Stored) → AreStored h stored → All (λ s. s.lost ≡ false) stored → AreLists h (lists_of stored)
whole_lists h stored are whole =
    let n : length (lists_of stored) ≡ length stored = length-map stored (λ s. s.entries.items) in
    record {
      threads = λ i e l. let a = are.threads i e l in omega arith;
      each = λ t l. let m : t < length stored = omega arith in let d = item_of stored t m in listed stored t d m ∙ are.each t d m (whole t d m);
    }

pub counted : (h : List Event) (stored : List Stored) → AreLists h (lists_of stored) → sum_by (λ s. length s.entries.items) stored ≡ length h
counted h stored are = sym (sum_by-map (λ l. length l) (λ s. s.entries.items) stored) ∙ sum_stored h (lists_of stored) are

-- an event at its place
own-place : (h places : List Event) (x : Entry) → x.number < length places → IsOf h x → SameAt h (set places x.number x.event) x.number
own-place h places x low of d = get_or-set_same places x.number x.event d low ∙ sym (of.1 d)

pub keeps_place : (h places : List Event) (x : Entry) → x.number < length places → IsOf h x → (k : ℕ) → SameAt h places k → SameAt h (set places x.number x.event) k
keeps_place h places x low of k same d = ⊎_elim
    (λ (p : k ≡ x.number). let Q : ℕ → Type 0 = λ j. get_or (set places x.number x.event) j d ≡ get_or h j d in subst Q (sym p) (own-place h places x low of d))
    (λ (p : k ≢ x.number). get_or-set_other places x.number k x.event d p ∙ same d)
    (cases_eq k x.number)

-- one more of the list is at its place
pub fills_place : (h places : List Event) (list : List Entry) (n : ℕ) (x e : Entry) → n < length list → x ≡ get_or list n e → x.number < length places → IsOf h x
    → AllWithin (λ y. SameAt h places y.number) list 0 n → AllWithin (λ y. SameAt h (set places x.number x.event) y.number) list 0 (n + 1)
fills_place h places list n x e l is low of fills k d from below = ⊎_elim
    (λ (p : k < n). keeps_place h places x low of (get_or list k d).number (fills k d from p))
    (λ (p : n ≤ k).
    let same : k ≡ n = omega arith in
    let Q : Entry → Type 0 = λ y. SameAt h (set places x.number x.event) y.number in
    subst Q (is ∙ (get_or_default list n e d l ∙ ap (λ (j : ℕ). get_or list j d) (sym same))) (own-place h places x low of))
    (cases_lt k n)
