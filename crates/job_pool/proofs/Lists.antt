-- Lists of which each element goes with the one at its place, and reading at places.
use Rattle.std.proofs.Common.{◌≡◌, ℕ, ◌<◌, zero, suc, List, [], ◌∷◌, ◌++◌, length, map, get_or, set, refl, sym, ◌∙◌, ap, subst, arith, take, drop, Result, Ok, Err}
use Rattle.std.proofs.lemmas.List.{take-append-le, take_all}
use Rattle.std.specs.Prelude.{IfOk}
use Rattle.std.specs.List.{AllZip, AllByRecursion}
use mathlib.Core.Option.{some}
use lib.ListN.{get_elem?}

pub zip_refl : {A : Type 0} (R : A → A → Type 0) → ((a : A) → R a a) → (xs : List A) → AllZip R xs xs
zip_refl R same [] = tt
zip_refl R same (x ∷ xs) = (same x, zip_refl R same xs)

pub zip_trans : {A : Type 0} (R : A → A → Type 0) → ((a b c : A) → R a b → R b c → R a c) → (xs ys zs : List A) → AllZip R xs ys → AllZip R ys zs → AllZip R xs zs
zip_trans R on [] [] [] h k = tt
zip_trans R on [] [] (z ∷ zs) h k = absurd k
zip_trans R on [] (y ∷ ys) zs h k = absurd h
zip_trans R on (x ∷ xs) [] zs h k = absurd h
zip_trans R on (x ∷ xs) (y ∷ ys) [] h k = absurd k
zip_trans R on (x ∷ xs) (y ∷ ys) (z ∷ zs) h k = (on x y z h.0 k.0, zip_trans R on xs ys zs h.1 k.1)

-- one element is set to what goes with it
pub zip_set : {A : Type 0} (R : A → A → Type 0) → ((a : A) → R a a) → (xs : List A) (i : ℕ) (x y : A) → i < length xs → x ≡ get_or xs i x → R x y → AllZip R xs (set xs i y)
zip_set R same [] i x y low is h = absurd (omega arith)
zip_set R same (a ∷ xs) zero x y low is h = (rw (← is) h, zip_refl R same xs)
zip_set R same (a ∷ xs) (suc i) x y low is h = (same a, zip_set R same xs i x y (omega arith) is h)

pub zip_append : {A B : Type 0} (R : A → B → Type 0) (xs us : List A) (ys vs : List B) → AllZip R xs ys → AllZip R us vs → AllZip R (xs ++ us) (ys ++ vs)
zip_append R [] us [] vs h k = k
zip_append R [] us (y ∷ ys) vs h k = absurd h
zip_append R (x ∷ xs) us [] vs h k = absurd h
zip_append R (x ∷ xs) us (y ∷ ys) vs h k = (h.0, zip_append R xs us ys vs h.1 k)

-- what is read at a place stands there
pub at_place : {A : Type 0} (xs : List A) (n : ℕ) (x : A) → n < length xs → x ≡ get_or xs n x → get_elem? xs n ≡ some x
at_place [] n x low is = absurd (omega arith)
at_place (a ∷ xs) zero x low is = ap some (sym is)
at_place (a ∷ xs) (suc n) x low is = at_place xs n x (omega arith) is

pub at_set : {A : Type 0} (xs : List A) (n : ℕ) (x : A) → n < length xs → get_elem? (set xs n x) n ≡ some x
at_set [] n x low = absurd (omega arith)
at_set (a ∷ xs) zero x low = refl
at_set (a ∷ xs) (suc n) x low = at_set xs n x (omega arith)

pub set_after : {A : Type 0} (xs : List A) (n k : ℕ) (x : A) → n < k → get_elem? (set xs n x) k ≡ get_elem? xs k
set_after [] n k x low = refl
set_after (a ∷ xs) n zero x low = absurd (omega arith)
set_after (a ∷ xs) zero (suc k) x low = refl
set_after (a ∷ xs) (suc n) (suc k) x low = set_after xs n k x (omega arith)

pub each_append : {A : Type 0} (P : A → Type 0) (xs ys : List A) → AllByRecursion P xs → AllByRecursion P ys → AllByRecursion P (xs ++ ys)
each_append P [] ys h k = k
each_append P (x ∷ xs) ys h k = (h.0, each_append P xs ys h.1 k)

pub each_prefix : {A : Type 0} (P : A → Type 0) (xs ys : List A) → AllByRecursion P (xs ++ ys) → AllByRecursion P xs
each_prefix P [] ys h = tt
each_prefix P (x ∷ xs) ys h = (h.0, each_prefix P xs ys h.1)

pub each_last : {A : Type 0} (P : A → Type 0) (xs : List A) (y : A) → AllByRecursion P (xs ++ y ∷ []) → P y
each_last P [] y h = h.0
each_last P (x ∷ xs) y h = each_last P xs y h.1

pub each_map : {A B : Type 0} (P : B → Type 0) (f : A → B) (xs : List A) → AllByRecursion (λ x. P (f x)) xs → AllByRecursion P (map f xs)
each_map P f [] h = tt
each_map P f (x ∷ xs) h = (h.0, each_map P f xs h.1)

pub map_back : {A B : Type 0} (f : A → B) (g : B → A) → ((a : A) → g (f a) ≡ a) → (xs : List A) → map g (map f xs) ≡ xs
map_back f g e [] = refl
map_back f g e (x ∷ xs) = let first = e x in let rest = map_back f g e xs in cc

-- what goes with the images of the first list
pub zip_images : {A B C : Type 0} (R : B → C → Type 0) (S : A → C → Type 0) (f : A → B) → ((a : A) (c : C) → R (f a) c → S a c) → (xs : List A) (ys : List C) → AllZip R (map f xs) ys → AllZip S xs ys
zip_images R S f to [] [] h = tt
zip_images R S f to [] (y ∷ ys) h = absurd h
zip_images R S f to (x ∷ xs) [] h = absurd h
zip_images R S f to (x ∷ xs) (y ∷ ys) h = (to x y h.0, zip_images R S f to xs ys h.1)

pub if_ok_map : {A E : Type 0} (r : Result A E) (P Q : A → Type 0) → ((a : A) → P a → Q a) → IfOk r P → IfOk r Q
if_ok_map (Ok x) P Q f h = f x h
if_ok_map (Err e) P Q f h = tt

pub each_weaker : {A : Type 0} (P Q : A → Type 0) → ((a : A) → P a → Q a) → (xs : List A) → AllByRecursion P xs → AllByRecursion Q xs
each_weaker P Q to [] h = tt
each_weaker P Q to (x ∷ xs) h = (to x h.0, each_weaker P Q to xs h.1)

-- a list that was lent whole and has its length still
pub whole_back : {A : Type 0} (n : ℕ) (xs ys : List A) → length xs ≡ length ys → n ≡ length ys → take n (xs ++ drop (length xs) ys) ≡ xs
whole_back n xs ys long len = take-append-le n xs (drop (length xs) ys) (omega arith) ∙ take_all n xs (omega arith)

pub zip_weaker : {A B : Type 0} (R S : A → B → Type 0) → ((a : A) (b : B) → R a b → S a b) → (xs : List A) (ys : List B) → AllZip R xs ys → AllZip S xs ys
zip_weaker R S to [] [] h = tt
zip_weaker R S to [] (y ∷ ys) h = absurd h
zip_weaker R S to (x ∷ xs) [] h = absurd h
zip_weaker R S to (x ∷ xs) (y ∷ ys) h = (to x y h.0, zip_weaker R S to xs ys h.1)

pub zip_same : {A : Type 0} (R : A → A → Type 0) (xs ys : List A) → ((a : A) → R a a) → ys ≡ xs → AllZip R xs ys
zip_same R xs ys same e = subst (λ l. AllZip R xs l) (sym e) (zip_refl R same xs)
