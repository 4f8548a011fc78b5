-- How often a path is in a list: at most once if its paths are distinct.
use Rattle.std.proofs.Common.{◌≡◌, ◌≢◌, ◌⊎◌, ℕ, ◌+◌, ◌≤◌, Bool, true, false, List, [], ◌∷◌, ◌++◌, cond, zero, suc, get_or, inl, inr, sym, ap, subst, ◌∙◌, refl, arith, zero-add, ⊎_elim}
use Rattle.std.specs.Prelude.{Contains, All}
use Rattle.std.specs.Bool.{Decides, nat_eq}
use Rattle.std.specs.Cmp.Lexicographic.{pointwise}
use Rattle.std.specs.List.{count_by, sum_by, flat_map}
use Rattle.std.specs.List.Sorted.{IsPermutation}
use Rattle.std.proofs.lemmas.Bool.Decides.{Decides-eqb}
use Rattle.std.proofs.lemmas.Slice.Eq.{slice_eq-Decides}
use Rattle.std.proofs.lemmas.List.{get_or_default}
use Rattle.std.proofs.lemmas.List.Elements.{All-head, All-tail, Contains-append_cases, Contains-append_left, Contains-append_right}
use Rattle.std.proofs.lemmas.List.Kept.{AllPairs-cons}
use Rattle.std.proofs.lemmas.List.Sorted.{sum_by-IsPermutation}
use Rattle.std.proofs.lemmas.List.Sums.{sum_by-append, sum_by-cons}
use Rattle.firefly_outside.specs.Trees.{Path}
use Rattle.index_rule.specs.Distinct.{AreDistinct}

-- elements of a list
pub contains_head : {X : Type 0} (x : X) (xs : List X) → Contains (x ∷ xs) x
contains_head x xs = (0, omega arith, refl)

pub contains_tail : {X : Type 0} (y : X) (xs : List X) (x : X) → Contains xs x → Contains (y ∷ xs) x
contains_tail y xs x h = (suc h.0, omega (arith, h.1), h.2)

pub contains_nil : {X : Type 0} (x : X) → ¬ Contains [] x
contains_nil x h = absurd (omega (arith, h.1))

pub contains_cons_cases : {X : Type 0} (y : X) (xs : List X) (x : X) → Contains (y ∷ xs) x → (y ≡ x) ⊎ Contains xs x
contains_cons_cases y xs x (zero, within, is) = inl is
contains_cons_cases y xs x (suc k, within, is) = inr (k, omega (arith, within), is)

pub all_at : {X : Type 0} (P : X → Type 0) (xs : List X) (x : X) → All P xs → Contains xs x → P x
all_at P xs x all h = subst P h.2 (all h.0 x h.1)

pub all_from : {X : Type 0} (P : X → Type 0) (xs : List X) → ((x : X) → Contains xs x → P x) → All P xs
all_from P xs each k d within = each (get_or xs k d) (k, within, get_or_default xs k _ d within)

-- an element of the lists that a function gives, joined, is in one of them
pub record IsOfOne {X Y : Type 0} (f : X → List Y) (xs : List X) (y : Y) : Type 0 where
  pub one : X
  pub among : Contains xs one
  pub is : Contains (f one) y

pub distinct_nil : {X : Type 0} → AreDistinct {X = X} []
distinct_nil i j d below within = absurd (omega (arith, within))

pub distinct_head : {X : Type 0} (x : X) (xs : List X) → AreDistinct (x ∷ xs) → ¬ Contains xs x
distinct_head x xs apart h = apart 0 (suc h.0) x (omega arith) (omega (arith, h.1)) (sym h.2)

pub distinct_tail : {X : Type 0} (x : X) (xs : List X) → AreDistinct (x ∷ xs) → AreDistinct xs
distinct_tail x xs apart i j d below within = apart (suc i) (suc j) d (omega (arith, below)) (omega (arith, within))

pub distinct_cons : {X : Type 0} (x : X) (xs : List X) → ¬ Contains xs x → AreDistinct xs → AreDistinct (x ∷ xs)
distinct_cons x xs new apart =
    AllPairs-cons (λ y z. y ≢ z) x xs (all_from (λ y. x ≢ y) xs (λ y h same. new (subst (Contains xs) (sym same) h))) apart

-- how often the path is in the list
abbrev pub times : Path → List Path → ℕ
times p ps = count_by (pointwise nat_eq p) ps

is_same : (p q : Path) → Decides (pointwise nat_eq p q) (p ≡ q)
is_same p q = slice_eq-Decides Decides-eqb p q (pointwise nat_eq p q) refl

times-cons : (p q : Path) (qs : List Path) → times p (q ∷ qs) ≡ cond (pointwise nat_eq p q) 1 0 + times p qs
times-cons p q qs = sum_by-cons (λ x. cond (pointwise nat_eq p x) 1 0) q qs

pub times_here : (p q : Path) (qs : List Path) → p ≡ q → times p (q ∷ qs) ≡ 1 + times p qs
times_here p q qs e = times-cons p q qs ∙ ap (λ b. cond b 1 0 + times p qs) ((is_same p q).1 e)

pub times_there : (p q : Path) (qs : List Path) → times p qs ≤ times p (q ∷ qs)
times_there p q qs = let e = times-cons p q qs in omega arith

times_cases : (p q : Path) (qs : List Path) → ((p ≡ q) × (times p (q ∷ qs) ≡ 1 + times p qs)) ⊎ (times p (q ∷ qs) ≡ times p qs)
times_cases p q qs = by (pointwise nat_eq p q) refl
  where
    by : (b : Bool) → pointwise nat_eq p q ≡ b → ((p ≡ q) × (times p (q ∷ qs) ≡ 1 + times p qs)) ⊎ (times p (q ∷ qs) ≡ times p qs)
    by true e = inl ((is_same p q).0 e, times_here p q qs ((is_same p q).0 e))
    by false e = inr (times-cons p q qs ∙ (ap (λ b. cond b 1 0 + times p qs) e ∙ zero-add (times p qs)))

pub times-append : (p : Path) (ps qs : List Path) → times p (ps ++ qs) ≡ times p ps + times p qs
times-append p ps qs = sum_by-append (λ q. cond (pointwise nat_eq p q) 1 0) ps qs

pub contains_times : (p : Path) (ps : List Path) → Contains ps p → 1 ≤ times p ps
contains_times p [] h = absurd (contains_nil p h)
contains_times p (q ∷ ps) h = elim (contains_cons_cases q ps p h) [
  | inl is ↦ (let e = times_here p q ps (sym is) in omega arith)
  | inr m ↦ (let e = contains_times p ps m in let more = times_there p q ps in omega arith)
]

pub times_contains : (p : Path) (ps : List Path) → 1 ≤ times p ps → Contains ps p
times_contains p [] h = absurd (omega arith)
times_contains p (q ∷ ps) h = elim (times_cases p q ps) [
  | inl here ↦ subst (λ r. Contains (q ∷ ps) r) (sym here.0) (contains_head q ps)
  | inr there ↦ contains_tail q ps p (times_contains p ps (omega arith))
]

pub distinct_times : (p : Path) (ps : List Path) → AreDistinct ps → times p ps ≤ 1
distinct_times p [] apart = omega arith
distinct_times p (q ∷ ps) apart = elim (times_cases p q ps) [
  | inl here ↦ ⊎_elim
      (λ (none : times p ps ≤ 0). let e = here.1 in omega arith)
      (λ (one : 1 ≤ times p ps). absurd (distinct_head q ps apart (subst (Contains ps) here.0 (times_contains p ps one))))
      (cases_le (times p ps))
  | inr there ↦ (let rest = distinct_times p ps (distinct_tail q ps apart) in omega arith)
]
  where
    cases_le : (n : ℕ) → (n ≤ 0) ⊎ (1 ≤ n)
    cases_le zero = inl (omega arith)
    cases_le (suc n) = inr (omega arith)

pub times_distinct : (ps : List Path) → ((p : Path) → times p ps ≤ 1) → AreDistinct ps
times_distinct [] each = distinct_nil
times_distinct (q ∷ ps) each =
    distinct_cons q ps (λ h. let one = contains_times q ps h in let e = times_here q q ps refl in let most = each q in omega arith)
    (times_distinct ps (λ p. let more = times_there p q ps in let most = each p in omega arith))

pub times-permutation : (p : Path) (ps qs : List Path) → IsPermutation ps qs → times p qs ≡ times p ps
times-permutation p ps qs moved = sum_by-IsPermutation (λ q. cond (pointwise nat_eq p q) 1 0) ps qs moved

pub times-flat_map : {X : Type 0} (p : Path) (f : X → List Path) (xs : List X) → times p (flat_map f xs) ≡ sum_by (λ x. times p (f x)) xs
times-flat_map p f [] = refl
times-flat_map p f (x ∷ xs) = times-append p (f x) (flat_map f xs)
    ∙ (ap (λ n. times p (f x) + n) (times-flat_map p f xs) ∙ sym (sum_by-cons (λ y. times p (f y)) x xs))

-- for elements in another order, the lists that a function gives have each path equally often
pub times-flat_map-permutation : {X : Type 0} (p : Path) (f : X → List Path) (xs ys : List X) → IsPermutation xs ys
    → times p (flat_map f ys) ≡ times p (flat_map f xs)
times-flat_map-permutation p f xs ys moved = times-flat_map p f ys
    ∙ (sum_by-IsPermutation (λ x. times p (f x)) xs ys moved ∙ sym (times-flat_map p f xs))

pub distinct_permutation : (ps qs : List Path) → IsPermutation ps qs → AreDistinct ps → AreDistinct qs
distinct_permutation ps qs moved apart = times_distinct qs (λ p. let e = times-permutation p ps qs moved in
    let most = distinct_times p ps apart in omega arith)

pub distinct_left : (ps qs : List Path) → AreDistinct (ps ++ qs) → AreDistinct ps
distinct_left ps qs apart = times_distinct ps (λ p. let e = times-append p ps qs in let most = distinct_times p (ps ++ qs) apart in
    omega arith)

pub distinct_right : (ps qs : List Path) → AreDistinct (ps ++ qs) → AreDistinct qs
distinct_right ps qs apart = times_distinct qs (λ p. let e = times-append p ps qs in let most = distinct_times p (ps ++ qs) apart in
    omega arith)

pub distinct_across : (ps qs : List Path) (p : Path) → AreDistinct (ps ++ qs) → Contains ps p → ¬ Contains qs p
distinct_across ps qs p apart here there =
    let e = times-append p ps qs in
    let most = distinct_times p (ps ++ qs) apart in
    let one = contains_times p ps here in
    let two = contains_times p qs there in
    omega arith

pub distinct_append : (ps qs : List Path) → AreDistinct ps → AreDistinct qs → ((p : Path) → Contains ps p → ¬ Contains qs p)
    → AreDistinct (ps ++ qs)
distinct_append [] qs first second across = second
distinct_append (p ∷ ps) qs first second across =
    distinct_cons p (ps ++ qs)
    (λ h. ⊎_elim (λ (k : Contains ps p). distinct_head p ps first k) (λ (k : Contains qs p). across p (contains_head p ps) k)
    (Contains-append_cases ps qs p h))
    (distinct_append ps qs (distinct_tail p ps first) second (λ q k. across q (contains_tail p ps q k)))

pub in_one : {X Y : Type 0} (f : X → List Y) (xs : List X) (y : Y) → Contains (flat_map f xs) y → IsOfOne f xs y
in_one f [] y h = absurd (contains_nil y h)
in_one f (x ∷ xs) y h = elim (Contains-append_cases (f x) (flat_map f xs) y h) [
  | inl here ↦ record { one = x; among = contains_head x xs; is = here }
  | inr m ↦ (let o = in_one f xs y m in record { one = o.one; among = contains_tail x xs o.one o.among; is = o.is })
]

pub in_all : {X Y : Type 0} (f : X → List Y) (xs : List X) (x : X) (y : Y) → Contains xs x → Contains (f x) y → Contains (flat_map f xs) y
in_all f [] x y among h = absurd (contains_nil x among)
in_all f (z ∷ xs) x y among h = elim (contains_cons_cases z xs x among) [
  | inl is ↦ Contains-append_left (f z) (flat_map f xs) y (subst (λ w. Contains (f w) y) (sym is) h)
  | inr m ↦ Contains-append_right (f z) (flat_map f xs) y (in_all f xs x y m h)
]

-- each path belongs to one thing of a list: if the list of each element is distinct and belongs to
-- the element's own things, and the things of all elements are distinct, then the joined lists are
-- distinct
pub record BelongsTo (Of : Path → Path → Type 0) (things : List Path) (p : Path) : Type 0 where
  pub thing : Path
  pub among : Contains things thing
  pub is : Of p thing

pub record IsOwned {X : Type 0} (Of : Path → Path → Type 0) (f things : X → List Path) (x : X) : Type 0 where
  pub distinct : AreDistinct (f x)
  pub belong : All (BelongsTo Of (things x)) (f x)

pub distinct_over : {X : Type 0} (Of : Path → Path → Type 0) → ((p a b : Path) → Of p a → Of p b → a ≡ b)
    → (f things : X → List Path) (xs : List X)
    → All (IsOwned Of f things) xs → AreDistinct (flat_map things xs) → AreDistinct (flat_map f xs)
distinct_over Of unique f things [] owned apart = distinct_nil
distinct_over Of unique f things (x ∷ xs) owned apart =
    let own = All-head (IsOwned Of f things) x xs owned in
    let rest = All-tail (IsOwned Of f things) x xs owned in
    distinct_append (f x) (flat_map f xs) own.distinct
    (distinct_over Of unique f things xs rest (distinct_right (things x) (flat_map things xs) apart))
    (λ p here there.
    let a = all_at (BelongsTo Of (things x)) (f x) p own.belong here in
    let o = in_one f xs p there in
    let b = all_at (BelongsTo Of (things o.one)) (f o.one) p (all_at (IsOwned Of f things) xs o.one rest o.among).belong o.is in
    distinct_across (things x) (flat_map things xs) a.thing apart a.among
    (subst (Contains (flat_map things xs)) (sym (unique p a.thing b.thing a.is b.is)) (in_all things xs o.one b.thing o.among b.among)))

pub contains_one : {X : Type 0} (x y : X) → Contains (x ∷ []) y → x ≡ y
contains_one x y h = elim (contains_cons_cases x [] y h) [
  | inl is ↦ is
  | inr none ↦ absurd (contains_nil y none)
]
