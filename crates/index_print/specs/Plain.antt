-- Paths of which each byte stands for itself on a line.
use Rattle.std.specs.Prelude.{◌≡◌, List, ℕ, true}
use Rattle.std.specs.List.{All, list_all}
use Rattle.text_output.specs.Paths.{is_plain_byte}

abbrev pub ArePlain : List (List ℕ) → Type 0
ArePlain paths = All (λ p. list_all is_plain_byte p ≡ true) paths
