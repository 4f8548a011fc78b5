-- Elements of lists, and lists in which no two are the same.
use Rattle.std.proofs.Common.{◌≡◌, ◌≢◌, ◌∙◌, List, [], ◌∷◌, ◌++◌, map, sym, ap, subst, refl, arith, get_or, zero, suc, inl, inr, ◌⊎◌, Contains, All, AllPairs}
use Rattle.std.proofs.lemmas.List.{get_or_default, length-map}
use Rattle.std.proofs.Math.ListN.{get_or-map}
use Rattle.std.proofs.lemmas.List.Kept.{AllPairs-cons}
use Rattle.std.proofs.lemmas.List.Elements.{All-append, Contains-append_left, Contains-append_right}

-- no two elements are the same
abbrev pub Distinct : {X : Type 0} → List X → Type 0
Distinct xs = AllPairs (λ x y. x ≢ y) xs

pub Contains-head : {X : Type 0} (x : X) (xs : List X) → Contains (x ∷ xs) x
Contains-head x xs = (0, omega arith, refl)

pub Contains-tail : {X : Type 0} (y : X) (xs : List X) (x : X) → Contains xs x → Contains (y ∷ xs) x
Contains-tail y xs x h = (suc h.0, omega (arith, h.1), h.2)

pub Contains-nil : {X : Type 0} (x : X) → ¬ Contains [] x
Contains-nil x h = absurd (omega (arith, h.1))

pub Contains-cons_cases : {X : Type 0} (y : X) (xs : List X) (x : X) → Contains (y ∷ xs) x → (y ≡ x) ⊎ Contains xs x
Contains-cons_cases y xs x (zero, within, is) = inl is
Contains-cons_cases y xs x (suc k, within, is) = inr (k, omega (arith, within), is)

pub Contains-map : {X Y : Type 0} (f : X → Y) (xs : List X) (x : X) → Contains xs x → Contains (map f xs) (f x)
Contains-map f xs x h = (h.0, rw (length-map xs f) h.1, get_or-map f xs h.0 x ∙ ap f h.2)

-- an element of the image has an origin
pub record HasOrigin {X Y : Type 0} (f : X → Y) (xs : List X) (y : Y) : Type 0 where
  pub origin : X
  pub among : Contains xs origin
  pub is : f origin ≡ y

pub Contains-unmap : {X Y : Type 0} (f : X → Y) (xs : List X) (y : Y) → Contains (map f xs) y → HasOrigin f xs y
Contains-unmap f [] y h = absurd (Contains-nil y h)
Contains-unmap f (x ∷ xs) y h = elim (Contains-cons_cases (f x) (map f xs) y h) [
  | inl is ↦ record { origin = x; among = Contains-head x xs; is = is }
  | inr later ↦ (let o = Contains-unmap f xs y later in record { origin = o.origin; among = Contains-tail x xs o.origin o.among; is = o.is })
]

-- what holds of each element
pub All-at : {X : Type 0} (P : X → Type 0) (xs : List X) (x : X) → All P xs → Contains xs x → P x
All-at P xs x all h = subst P h.2 (all h.0 x h.1)

pub All-from : {X : Type 0} (P : X → Type 0) (xs : List X) → ((x : X) → Contains xs x → P x) → All P xs
All-from P xs each k d within = each (get_or xs k d) (k, within, get_or_default xs k _ d within)

pub AllPairs-head : {X : Type 0} (R : X → X → Type 0) (x : X) (xs : List X) → AllPairs R (x ∷ xs) → All (R x) xs
AllPairs-head R x xs apart k d within = apart 0 (suc k) d (omega arith) (omega (arith, within))

pub AllPairs-tail : {X : Type 0} (R : X → X → Type 0) (x : X) (xs : List X) → AllPairs R (x ∷ xs) → AllPairs R xs
AllPairs-tail R x xs apart i j d below within = apart (suc i) (suc j) d (omega (arith, below)) (omega (arith, within))

pub AllPairs-nil : {X : Type 0} (R : X → X → Type 0) → AllPairs R []
AllPairs-nil R i j d below within = absurd (omega (arith, within))

pub AllPairs-append : {X : Type 0} (R : X → X → Type 0) (xs ys : List X) → AllPairs R xs → AllPairs R ys → ((x y : X) → Contains xs x → Contains ys y → R x y) → AllPairs R (xs ++ ys)
AllPairs-append R [] ys first second across = second
AllPairs-append R (x ∷ xs) ys first second across =
    AllPairs-cons R x (xs ++ ys)
    (All-append (R x) xs ys (AllPairs-head R x xs first) (All-from (R x) ys (λ y h. across x y (Contains-head x xs) h)))
    (AllPairs-append R xs ys (AllPairs-tail R x xs first) second (λ a b h k. across a b (Contains-tail x xs a h) k))

-- the parts of a list of distinct elements
pub Distinct-left : {X : Type 0} (xs ys : List X) → Distinct (xs ++ ys) → Distinct xs
Distinct-left [] ys h = AllPairs-nil (λ x y. x ≢ y)
Distinct-left (x ∷ xs) ys h =
    AllPairs-cons (λ x y. x ≢ y) x xs (All-from (λ y. x ≢ y) xs (λ y k. All-at (λ y. x ≢ y) (xs ++ ys) y (AllPairs-head (λ x y. x ≢ y) x (xs ++ ys) h) (Contains-append_left xs ys y k)))
    (Distinct-left xs ys (AllPairs-tail (λ x y. x ≢ y) x (xs ++ ys) h))

pub Distinct-right : {X : Type 0} (xs ys : List X) → Distinct (xs ++ ys) → Distinct ys
Distinct-right [] ys h = h
Distinct-right (x ∷ xs) ys h = Distinct-right xs ys (AllPairs-tail (λ x y. x ≢ y) x (xs ++ ys) h)

pub Distinct-across : {X : Type 0} (xs ys : List X) (x : X) → Distinct (xs ++ ys) → Contains xs x → ¬ Contains ys x
Distinct-across [] ys x h first second = absurd (Contains-nil x first)
Distinct-across (z ∷ xs) ys x h first second = elim (Contains-cons_cases z xs x first) [
  | inl is ↦ All-at (λ y. z ≢ y) (xs ++ ys) x (AllPairs-head (λ x y. x ≢ y) z (xs ++ ys) h) (Contains-append_right xs ys x second) is
  | inr later ↦ Distinct-across xs ys x (AllPairs-tail (λ x y. x ≢ y) z (xs ++ ys) h) later second
]

-- the image under a function that tells elements apart
pub Distinct-map : {X Y : Type 0} (f : X → Y) (xs : List X) → ((x y : X) → Contains xs x → Contains xs y → f x ≡ f y → x ≡ y) → Distinct xs → Distinct (map f xs)
Distinct-map f [] tells h = AllPairs-nil (λ x y. x ≢ y)
Distinct-map f (x ∷ xs) tells h =
    AllPairs-cons (λ x y. x ≢ y) (f x) (map f xs)
    (All-from (λ y. f x ≢ y) (map f xs) (λ y k same.
    let o = Contains-unmap f xs y k in
    All-at (λ y. x ≢ y) xs o.origin (AllPairs-head (λ x y. x ≢ y) x xs h) o.among
    (tells x o.origin (Contains-head x xs) (Contains-tail x xs o.origin o.among) (same ∙ sym o.is))))
    (Distinct-map f xs (λ a b k l. tells a b (Contains-tail x xs a k) (Contains-tail x xs b l)) (AllPairs-tail (λ x y. x ≢ y) x xs h))
