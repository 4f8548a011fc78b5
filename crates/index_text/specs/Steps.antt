-- What one line gives.
use Rattle.std.specs.Prelude.{◌≡◌, ℕ, Bool, true, take, List, ◌++◌, length, Option, Some, None, Result, Ok, Err}
use Rattle.std.specs.List.{flat_map, AllByRecursion}
use Rattle.exact_text.specs.declared.stop.Stop as exact
use Rattle.exact_text.specs.declared.stop.Stop.TheVariants as stops
use Rattle.word_index.specs.Index.{Hit, Row}
use Rattle.index_print.specs.Text.{hit_line, skipped_line}
use Rattle.index_text.specs.declared.fault.Stop.{Stop}
use Rattle.index_text.specs.declared.fault.Stop.TheVariants.{Memory, More, Dead}
use Rattle.index_text.specs.declared.lines.Prefix.{Prefix}
use Rattle.index_text.specs.declared.lines.Prefix.TheVariants as prefixes
use Rattle.index_text.specs.Texts.{AreHits, AreRows, ArePaths, text_of}
use Rattle.index_text.specs.Lines.{Heading, word, skipped}

-- what a function returned, seen by view, is what reading gives
abbrev pub Gives : {X Y : Type 0} → (X → Y) → Result X Stop → Result Y exact.Stop → Type 0
Gives view (Ok x) read = read ≡ Ok (view x)
Gives view (Err Memory) read = Unit {0}
Gives view (Err More) read = read ≡ Err stops.More
Gives view (Err Dead) read = read ≡ Err stops.Dead

-- nothing was read, and why
abbrev pub Stops : {Y : Type 0} → Result Y exact.Stop → Stop → Type 0
Stops {Y} read stop = Gives {X = Y} {Y = Y} (λ x. x) (Err stop) read

-- the word that was laid down and its number, or the path
abbrev pub heading_of : List ℕ → Prefix → Heading
heading_of laid (prefixes.Word many) = word laid many
heading_of laid prefixes.Skipped = skipped laid

-- all of the first bytes pass the test
abbrev pub IsPassed : (ℕ → Bool) → List ℕ → ℕ → Type 0
IsPassed ok bytes n = AllByRecursion (λ b. ok b ≡ true) (take n bytes)

-- the bytes are the text of rows above the last word, and of skipped paths
abbrev pub IsRowsText : Option (List ℕ) → List ℕ → Type 0
IsRowsText last bytes = (rows : List Row) × (paths : List (List ℕ)) × AreRows last rows × ArePaths None paths × (bytes ≡ text_of rows paths)

-- so many hits above the last path, and then rows above this word
abbrev pub IsHitsText : List ℕ → ℕ → Option (List ℕ) → List ℕ → Type 0
IsHitsText w many last bytes =
    (hits : List Hit) × (rest : List ℕ) × (length hits ≡ many) × AreHits last hits × IsRowsText (Some w) rest
    × (bytes ≡ flat_map hit_line hits ++ rest)

abbrev pub IsSkippedText : Option (List ℕ) → List ℕ → Type 0
IsSkippedText last bytes = (paths : List (List ℕ)) × ArePaths last paths × (bytes ≡ flat_map skipped_line paths)
