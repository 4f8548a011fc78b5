-- Lists of which each element goes with the one at its place.
use Rattle.std.proofs.Common.{◌≡◌, List, [], ◌∷◌, ◌++◌, length, map, refl, sym, subst, ◌∙◌, append-nil, arith}
use Rattle.std.specs.List.{AllZip, AllByRecursion}
use Rattle.thread_crew.specs.Crews.{Turns}

pub zip_push : {A B : Type 0} (R : A → B → Type 0) (xs : List A) (ys : List B) (x : A) (y : B) → AllZip R xs ys → R x y → AllZip R (xs ++ x ∷ []) (ys ++ y ∷ [])
zip_push R [] [] x y h p = (p, tt)
zip_push R [] (b ∷ ys) x y h p = absurd h
zip_push R (a ∷ xs) [] x y h p = absurd h
zip_push R (a ∷ xs) (b ∷ ys) x y h p = (h.0, zip_push R xs ys x y h.1 p)

pub zip_turn : {A B C : Type 0} (R : A → B → Type 0) (S : A → C → Type 0) (xs : List A) (bs : List B) (cs : List C) → AllZip R xs bs → AllZip (Turns R S) bs cs → AllZip S xs cs
zip_turn R S [] [] [] h k = tt
zip_turn R S [] [] (c ∷ cs) h k = absurd k
zip_turn R S [] (b ∷ bs) cs h k = absurd h
zip_turn R S (a ∷ xs) [] cs h k = absurd h
zip_turn R S (a ∷ xs) (b ∷ bs) [] h k = absurd k
zip_turn R S (a ∷ xs) (b ∷ bs) (c ∷ cs) h k = (k.0 a h.0, zip_turn R S xs bs cs h.1 k.1)

-- what goes with the first of the second list, and the rest of both
pub zip_first : {A B : Type 0} (R : A → B → Type 0) (xs : List A) (y : B) (ys : List B) → AllZip R xs (y ∷ ys) → (x : A) × (rest : List A) × R x y × AllZip R rest ys
zip_first R [] y ys h = absurd h
zip_first R (x ∷ xs) y ys h = (x, xs, h.0, h.1)

pub zip_length : {A B : Type 0} (R : A → B → Type 0) (xs : List A) (ys : List B) → AllZip R xs ys → length ys ≡ length xs
zip_length R [] [] h = refl
zip_length R [] (y ∷ ys) h = absurd h
zip_length R (x ∷ xs) [] h = absurd h
zip_length R (x ∷ xs) (y ∷ ys) h = let e = zip_length R xs ys h.1 in omega arith

pub nothing_left : {X : Type 0} (l : List X) → length l ≡ 0 → l ≡ []
nothing_left [] h = refl
nothing_left (x ∷ xs) h = absurd (omega arith)

-- all was yielded where nothing is left
pub all_yielded : {X : Type 0} (yielded rest all : List X) → yielded ++ rest ≡ all → length rest ≡ 0 → yielded ≡ all
all_yielded yielded rest all h none = sym (append-nil yielded) ∙ (let e = nothing_left rest none in rw e at h)

pub each_append : {A : Type 0} (P : A → Type 0) (xs ys : List A) → AllByRecursion P xs → AllByRecursion P ys → AllByRecursion P (xs ++ ys)
each_append P [] ys h k = k
each_append P (x ∷ xs) ys h k = (h.0, each_append P xs ys h.1 k)

-- of the images, where each has what is asked
pub each_image : {A B : Type 0} (P : A → Type 0) (Q R : B → Type 0) (g : B → A) → ((b : B) → P (g b) → R b → Q b) → (xs : List A) (bs : List B) → map g bs ≡ xs → AllByRecursion P xs → AllByRecursion R bs → AllByRecursion Q bs
each_image P Q R g to xs [] is p r = tt
each_image P Q R g to [] (b ∷ bs) is p r = absurd (cc)
each_image P Q R g to (x ∷ xs) (b ∷ bs) is p r =
    let first : g b ≡ x = cc in
    let rest : map g bs ≡ xs = cc in
    (to b (subst P (sym first) p.0) r.0, each_image P Q R g to xs bs rest p.1 r.1)

pub zip_image : {A B C : Type 0} (S : A → C → Type 0) (R : B → C → Type 0) (Q : B → Type 0) (g : B → A) → ((b : B) (c : C) → Q b → R b c → S (g b) c) → (xs : List A) (bs : List B) (cs : List C) → map g bs ≡ xs
    → AllByRecursion Q bs → AllZip R bs cs → AllZip S xs cs
zip_image S R Q g to [] [] [] is q z = tt
zip_image S R Q g to [] [] (c ∷ cs) is q z = absurd z
zip_image S R Q g to [] (b ∷ bs) cs is q z = absurd (cc)
zip_image S R Q g to (x ∷ xs) [] cs is q z = absurd (cc)
zip_image S R Q g to (x ∷ xs) (b ∷ bs) [] is q z = absurd z
zip_image S R Q g to (x ∷ xs) (b ∷ bs) (c ∷ cs) is q z =
    let first : g b ≡ x = cc in
    let rest : map g bs ≡ xs = cc in
    (subst (λ a. S a c) first (to b c q.0 z.0), zip_image S R Q g to xs bs cs rest q.1 z.1)
