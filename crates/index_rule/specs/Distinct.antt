-- Lists that have nothing twice, and lists that have nothing in common.
use Rattle.std.specs.Prelude.{◌≢◌, List, AllPairs, Contains}

abbrev pub AreDistinct : {X : Type 0} → List X → Type 0
AreDistinct xs = AllPairs (λ x y. x ≢ y) xs

abbrev pub AreDisjoint : {X : Type 0} → List X → List X → Type 0
AreDisjoint {X} xs ys = (x : X) → Contains xs x → ¬ Contains ys x
