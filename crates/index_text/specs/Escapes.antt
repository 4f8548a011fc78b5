-- How the bytes of a path on a line end.
use Rattle.std.specs.Prelude.{◌≡◌, ℕ, Bool, true, false, Option, List, [], ◌∷◌, ◌++◌, Some, None}
use Rattle.index_text.specs.declared.path.Ending.{Ending}
use Rattle.index_text.specs.declared.path.Ending.TheVariants.{Whole, Open, Broken}
use Rattle.index_text.specs.declared.path.Step.{Step}
use Rattle.index_text.specs.declared.path.Step.TheVariants.{Wait, Put, Fail}
use Rattle.index_text.specs.Lines.{path_of, prefix_of, unescaped, put}

abbrev pub Unescapes : List ℕ → List ℕ → Ending → Type 0
Unescapes bytes out Whole = (path_of bytes ≡ Some out) × (prefix_of bytes ≡ Some out)
Unescapes bytes out Open = (path_of bytes ≡ None) × (prefix_of bytes ≡ Some (out ++ 92 ∷ []))
Unescapes bytes out Broken = (path_of bytes ≡ None) × (prefix_of bytes ≡ None)

-- what the next byte does, whatever follows it
abbrev pub IsStep : Bool → ℕ → Step → Type 0
IsStep pending b Wait = (end : Option (List ℕ)) (rest : List ℕ) → unescaped end pending (b ∷ rest) ≡ unescaped end true rest
IsStep pending b (Put byte) =
    (end : Option (List ℕ)) (rest : List ℕ) → unescaped end pending (b ∷ rest) ≡ put byte (unescaped end false rest)
IsStep pending b Fail = (end : Option (List ℕ)) (rest : List ℕ) → unescaped end pending (b ∷ rest) ≡ None
