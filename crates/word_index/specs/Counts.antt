-- How often a word is among pairs of a word and a line, and its least line.
use Rattle.std.specs.Prelude.{◌≡◌, ℕ, ◌+◌, ◌≤◌, List, [], ◌∷◌, length, map, filter, min, fold, Option, Some, None}
use Rattle.std.specs.Str.{bytes_eq}

-- how often a word was seen, and the least line on which it was
pub record Seen : Type 0 where
  pub count : ℕ
  pub line : ℕ

-- the lines on which the word stands
abbrev pub lines_of : List ℕ → List (List ℕ × ℕ) → List ℕ
lines_of w pairs = map (λ p. p.1) (filter (λ p. bytes_eq w p.0) pairs)

-- their number and the least of them
abbrev pub seen_of : List ℕ → Option Seen
seen_of [] = None
seen_of (line ∷ lines) = Some (record { count = length (line ∷ lines); line = fold min line lines })

-- how often the word is among the pairs, and its least line
abbrev pub seen_in : List ℕ → List (List ℕ × ℕ) → Option Seen
seen_in w pairs = seen_of (lines_of w pairs)

-- one more occurrence
abbrev pub one_more : Option Seen → ℕ → Seen
one_more None line = record { count = 1; line = line }
one_more (Some s) line = record { count = s.count + 1; line = min s.line line }
