-- Lists of which each element is so.
use Rattle.std.proofs.Common.{◌≡◌, ℕ, Bool, true, false, if◌then◌else◌, zero, suc, ◌+◌, List, [], ◌∷◌, ◌++◌, length, append_assoc, map, ap, ◌∙◌, sym, subst, arith, refl}
use Rattle.std.specs.Prelude.{IfOk, Result, Ok, Err}
use Rattle.std.specs.List.{AllZip, AllByRecursion}
use mathlib.Core.Option.{some, some-ne-none, some-injective}
use lib.ListN.{get_elem?}
use Rattle.nub_rule.proofs.Each.{all_read, at_middle, each-snoc}
use Rattle.nub_rule.specs.Known.{Known, Shape}
use Rattle.nub.specs.Idle.{IsIdle}
use Rattle.test_fork.specs.Families.{AllAre}

pub own-idle : {T H W : Type 0} (p : Shape W) (n : ℕ) (s : H) (t : Known T H W) → IsIdle p n s t → IsIdle p t.number s t
own-idle p n s t i = subst (λ k. IsIdle p k s t) (sym i.number) i

-- what was read, what comes next and what is left
pub turned : {A : Type 0} (all yielded before rest : List A) (x : A) → all ≡ yielded ++ before → before ≡ x ∷ rest → all ≡ (yielded ++ x ∷ []) ++ rest
turned all yielded before rest x whole steps = whole ∙ (ap (λ l. yielded ++ l) steps ∙ sym (append_assoc yielded (x ∷ []) rest))

module _ {A : Type 0} (P : A → Type 0) where
  pub all-none : (xs : List A) → xs ≡ [] → AllAre P xs
  all-none xs none n x at = absurd (some-ne-none x (sym at ∙ ap (λ l. get_elem? l n) none))

  pub all-append : (xs ys : List A) → AllAre P xs → AllAre P ys → AllAre P (xs ++ ys)
  all-append [] ys h k n y at = k n y at
  all-append (x ∷ xs) ys h k zero y at = h 0 y at
  all-append (x ∷ xs) ys h k (suc n) y at = all-append xs ys (λ i z e. h (suc i) z e) k n y at

  pub all-push : (xs ys : List A) (x : A) → ys ≡ xs ++ x ∷ [] → AllAre P xs → P x → AllAre P ys
  all-push xs ys x is h p = each-snoc (λ _ z. P z) xs ys (length xs) x is refl p h

  pub all-appended : (xs ys zs : List A) → zs ≡ xs ++ ys → AllAre P xs → AllAre P ys → AllAre P zs
  all-appended xs ys zs is h k n x at = all-append xs ys h k n x (ap (λ l. get_elem? l n) (sym is) ∙ at)

  -- one more, or not
  pub all-pushed : (b : Bool) (xs ys : List A) (x : A) → ys ≡ (if b then xs ++ x ∷ [] else xs) → AllAre P xs → P x → AllAre P ys
  all-pushed true xs ys x is h p = all-push xs ys x is h p
  all-pushed false xs ys x is h p = λ n y at. h n y (ap (λ l. get_elem? l n) (sym is) ∙ at)

  -- what is yielded next, and what is left after it
  pub next-is : (all yielded before rest : List A) (x : A) → all ≡ yielded ++ before → before ≡ x ∷ rest → AllAre P all → P x
  next-is all yielded before rest x whole steps h = h (length yielded) x (at_middle yielded rest all x (whole ∙ ap (λ l. yielded ++ l) steps))

  pub all-by-recursion : (xs : List A) → AllAre P xs → AllByRecursion P xs
  all-by-recursion [] h = tt
  all-by-recursion (x ∷ xs) h = (h 0 x refl, all-by-recursion xs (λ n y e. h (suc n) y e))

pub two-of : {A : Type 0} (P Q : A → Type 0) (xs : List A) → AllAre P xs → AllAre Q xs → AllAre (λ x. P x × Q x) xs
two-of P Q xs h k n x at = (h n x at, k n x at)

pub ok-turn : {A E : Type 0} (P Q : A → Type 0) (r : Result A E) → ((x : A) → P x → Q x) → IfOk r P → IfOk r Q
ok-turn P Q (Ok x) turn h = turn x h
ok-turn P Q (Err e) turn h = tt

-- what each job gave is so
pub all-given : {T X : Type 0} (R : T → X → Type 0) (P : X → Type 0) (ts : List T) (xs : List X) → ((t : T) (x : X) → R t x → P x) → AllZip R ts xs → AllAre P xs
all-given R P [] [] turn z n x at = absurd (some-ne-none x (sym at))
all-given R P [] (y ∷ ys) turn z n x at = absurd z
all-given R P (t ∷ ts) [] turn z n x at = absurd z
all-given R P (t ∷ ts) (y ∷ ys) turn z zero x at = subst P (some-injective y x at) (turn t y z.0)
all-given R P (t ∷ ts) (y ∷ ys) turn z (suc n) x at = all-given R P ts ys turn z.1 n x at
