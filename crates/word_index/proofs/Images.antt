-- Elements of the image of a list.
use Rattle.std.proofs.Common.{◌≡◌, ℕ, ◌<◌, List, [], ◌∷◌, length, get_or, map, arith, sym, ap, ◌∙◌}
use Rattle.std.specs.List.{Contains}
use Rattle.std.proofs.lemmas.List.{length-map, get_or-map}
use Rattle.std.proofs.lemmas.List.Elements.{Contains-get_or}

-- membership through a function of the elements
pub to_map : {X Y : Type 0} (g : X → Y) (ys : List X) (y : X) → Contains ys y → Contains (map g ys) (g y)
to_map g ys y h =
    let inside : h.0 < length (map g ys) = omega (arith, h.1, length-map ys g) in
    (h.0, inside, get_or-map g ys h.0 y (g y) h.1 ∙ ap g h.2)

pub from_map : {X Y : Type 0} (g : X → Y) (ys : List X) (e : Y) → Contains (map g ys) e → (y : X) × Contains ys y × (g y ≡ e)
from_map g [] e h = absurd (omega (arith, h.1))
from_map g (x ∷ rest) e h =
    let ys = x ∷ rest in
    let inside : h.0 < length ys = omega (arith, h.1, length-map ys g) in
    (get_or ys h.0 x, Contains-get_or ys h.0 x inside, sym (get_or-map g ys h.0 x e inside) ∙ h.2)
