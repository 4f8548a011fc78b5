-- The words of the command line, and how many states they allow.
use Rattle.std.specs.Prelude.{◌≡◌, ℕ, ◌≤◌, List, [], ◌∷◌, ◌++◌, codes, decimal}
use Rattle.text_output.specs.Numbers.{IsNumber}

abbrev pub most_states : ℕ
most_states = 1000000000

-- the words allow so many states: 1,000,000 if there are none, else the number of `--states`, in one word or two
abbrev pub AsksFor : List (List ℕ) → ℕ → Type 0
AsksFor [] n = n ≡ 1000000
AsksFor (word ∷ []) n = (number : List ℕ) × (word ≡ codes "--states=" ++ number) × IsNumber 1 most_states number n
AsksFor (name ∷ number ∷ []) n = (name ≡ codes "--states") × IsNumber 1 most_states number n
AsksFor (name ∷ number ∷ more ∷ words) n = ⊥
