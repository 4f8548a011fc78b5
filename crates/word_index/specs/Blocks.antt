-- Lists that lie one after the other in one block.
use Rattle.std.specs.Prelude.{◌≡◌, ℕ, ◌≤◌, List, [], ◌∷◌, length}
use Rattle.std.specs.List.{slice_range}

module _ {X : Type 0} where
  -- the parts of the block from start on, one up to each of the ends
  abbrev pub parts : List X → ℕ → List ℕ → List (List X)
  parts block start [] = []
  parts block start (end ∷ ends) = slice_range block start end ∷ parts block end ends

  -- the ends rise from start to the end of the block
  abbrev pub AreEnds : List X → ℕ → List ℕ → Type 0
  AreEnds block start [] = start ≡ length block
  AreEnds block start (end ∷ ends) = (start ≤ end) × AreEnds block end ends
