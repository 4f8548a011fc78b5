-- Lists that are filled place by place.
use Rattle.std.proofs.Common.{◌≡◌, ℕ, ◌<◌, List, [], ◌∷◌, ◌++◌, length, map, get_or, refl, sym, ap, ◌∙◌, arith, below_more, length-append}
use Rattle.std.proofs.Math.ListN.{get_or-append}
use Rattle.std.proofs.Math.Seq.{get_or-append_seam}

-- what came back from each of ys stands in the new list, and so does what came back from x
pub placed : {A B : Type 0} (f : A → B) (n : ℕ) (ys : List A) (x : A) (old new : List B)
    → ((i : ℕ) (d : B) → (i ≡ length ys → ⊥) → get_or new i d ≡ get_or old i d)
    → ((d : B) → length ys < n → get_or new (length ys) d ≡ f x)
    → ((k : ℕ) (d : B) (e : A) → k < n → k < length ys → get_or old k d ≡ f (get_or ys k e))
    → (k : ℕ) (d : B) (e : A) → k < n → k < length (ys ++ x ∷ []) → get_or new k d ≡ f (get_or (ys ++ x ∷ []) k e)
placed f n ys x old new others here was k d e h low =
    below_more (λ j. j < n → get_or new j d ≡ f (get_or (ys ++ x ∷ []) j e)) (length ys)
    (λ j below g. others j d (λ same. omega arith) ∙ was j d e g below ∙ ap f (sym (get_or-append ys (x ∷ []) e j below)))
    (λ g. here d g ∙ ap f (sym (get_or-append_seam ys x [] e)))
    k (let len = length-append ys (x ∷ []) in omega arith) h

-- what is known of each place is known of one place more
pub one_place : {A B : Type 0} (f : A → B) (at : ℕ → B) (xs : List A) (x : A) → f x ≡ at (length xs)
    → ((k : ℕ) (e : A) → k < length xs → f (get_or xs k e) ≡ at k)
    → (k : ℕ) (e : A) → k < length (xs ++ x ∷ []) → f (get_or (xs ++ x ∷ []) k e) ≡ at k
one_place f at xs x here was k e low =
    below_more (λ j. f (get_or (xs ++ x ∷ []) j e) ≡ at j) (length xs)
    (λ j below. ap f (get_or-append xs (x ∷ []) e j below) ∙ was j e below)
    (ap f (get_or-append_seam xs x [] e) ∙ here)
    k (let len = length-append xs (x ∷ []) in omega arith)

pub map_snoc : {A B : Type 0} (f : A → B) (xs : List A) (x : A) → map f (xs ++ x ∷ []) ≡ map f xs ++ f x ∷ []
map_snoc f [] x = refl
map_snoc f (y ∷ xs) x = ap (λ l. f y ∷ l) (map_snoc f xs x)
