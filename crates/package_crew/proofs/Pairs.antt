-- Threads, what they gave, and the two halves of that.
use Rattle.std.proofs.Common.{◌≡◌, zero, suc, List, [], ◌∷◌, map, length, refl, sym, subst, arith}
use Rattle.std.specs.List.{AllZip, AllByRecursion}
use mathlib.Core.Option.{some-injective, some-ne-none}
use Rattle.nub_rule.specs.Items.{Each}
use Rattle.package_crew.specs.Crews.{CameBack}

-- each may be handed over
pub all_ready : {T : Type 0} (P : T → Type 0) (xs : List T) → Each (λ n x. P x) xs → AllByRecursion P xs
all_ready P [] h = tt
all_ready P (x ∷ xs) h = (h 0 x refl, all_ready P xs (λ n y e. h (suc n) y e))

pub as_many : {T Y Z : Type 0} (R : T → Y → Type 0) (g : Y → Z) (xs : List T) (ys : List Y) → AllZip R xs ys → length (map g ys) ≡ length xs
as_many R g [] [] z = refl
as_many R g [] (y ∷ ys) z = absurd z
as_many R g (x ∷ xs) [] z = absurd z
as_many R g (x ∷ xs) (y ∷ ys) z = let e = as_many R g xs ys z.1 in omega arith

-- of each pair that came back, the first half is the thread at its place, and the second what was left there
pub came_back : {T X : Type 0} (R : T → T × X → Type 0) (xs : List T) (ys : List (T × X)) → AllZip R xs ys
    → Each (λ n t. CameBack (λ was left. R was (t, left)) xs (map (λ p. p.1) ys) n) (map (λ p. p.0) ys)
came_back R [] [] z n t e = absurd (some-ne-none t (sym e))
came_back R [] (y ∷ ys) z n t e = absurd z
came_back R (x ∷ xs) [] z n t e = absurd z
came_back {T} {X} R (x ∷ xs) (y ∷ ys) z zero t e =
    let Q : T → Type 0 = λ u. R x (u, y.1) in
    record { was = x; is_was = refl; left = y.1; is_left = refl; goes = subst Q (some-injective y.0 t e) z.0 }
came_back R (x ∷ xs) (y ∷ ys) z (suc n) t e =
    let b = came_back R xs ys z.1 n t e in
    record { was = b.was; is_was = b.is_was; left = b.left; is_left = b.is_left; goes = b.goes }
