-- Index texts, and the index that each of them reads as.
use Rattle.std.specs.Prelude.{◌≡◌, ℕ, ◌^◌, ◌<◌, ◌≤◌, Bool, true, List, [], ◌∷◌, ◌++◌, length, ◌==◌, ◌||◌, codes, Option, Some, None}
use Rattle.std.specs.List.{AllByRecursion, flat_map}
use Rattle.std.specs.Str.{IsUtf8}
use Rattle.word_index.specs.Index.{Hit, Row, IsBelow}
use Rattle.word_index.specs.Words.{in_range}
use Rattle.text_output.specs.Paths.{newline}
use Rattle.index_print.specs.Text.{hit_line, skipped_line}
use Rattle.index_text.specs.Numerals.{numeral}

-- a letter in lower case, a digit or `_`
abbrev pub is_key_byte : ℕ → Bool
is_key_byte b = in_range 97 122 b || in_range 48 57 b || b == 95

pub record IsWord (word : List ℕ) : Type 0 where
  pub some : 0 < length word
  pub short : length word ≤ 64
  pub bytes : AllByRecursion (λ b. is_key_byte b ≡ true) word

pub record IsPath (path : List ℕ) : Type 0 where
  pub some : 0 < length path
  pub text : IsUtf8 path

-- a count or a first line
abbrev pub IsFigure : ℕ → Type 0
IsFigure n = (1 ≤ n) × (n < 2 ^ 64)

-- above the last one, if there is one
abbrev pub IsAbove : Option (List ℕ) → List ℕ → Type 0
IsAbove None text = Unit {0}
IsAbove (Some last) text = IsBelow last text

-- each is lawful after the key of the one before it, from the last one on
abbrev pub AreInTurn : {X : Type 0} → (Option (List ℕ) → X → Type 0) → (X → List ℕ) → Option (List ℕ) → List X → Type 0
AreInTurn lawful key last [] = Unit {0}
AreInTurn lawful key last (x ∷ xs) = lawful last x × AreInTurn lawful key (Some (key x)) xs

pub record IsHit (last : Option (List ℕ)) (hit : Hit) : Type 0 where
  pub path : IsPath hit.path
  pub above : IsAbove last hit.path
  pub count : IsFigure hit.count
  pub line : IsFigure hit.line

-- the paths of hits rise from the last one on
abbrev pub AreHits : Option (List ℕ) → List Hit → Type 0
AreHits = AreInTurn IsHit (λ hit. hit.path)

pub record IsRow (last : Option (List ℕ)) (row : Row) : Type 0 where
  pub word : IsWord row.word
  pub above : IsAbove last row.word
  pub many : 1 ≤ length row.hits
  pub hits : AreHits None row.hits

-- the words of rows rise from the last one on
abbrev pub AreRows : Option (List ℕ) → List Row → Type 0
AreRows = AreInTurn IsRow (λ row. row.word)

-- skipped paths rise from the last one on
abbrev pub ArePaths : Option (List ℕ) → List (List ℕ) → Type 0
ArePaths = AreInTurn (λ last path. IsPath path × IsAbove last path) (λ path. path)

-- a word and the number of its files, however large
abbrev pub word_line : Row → List ℕ
word_line row = row.word ++ codes " " ++ numeral (length row.hits) ++ newline

abbrev pub row_text : Row → List ℕ
row_text row = word_line row ++ flat_map hit_line row.hits

-- the words in order with their files, and then the skipped files
abbrev pub text_of : List Row → List (List ℕ) → List ℕ
text_of rows skipped = flat_map row_text rows ++ flat_map skipped_line skipped

-- the bytes are the text of these rows and skipped paths
pub record ReadsAs (bytes : List ℕ) (rs : List Row) (ps : List (List ℕ)) : Type 0 where
  pub rows : AreRows None rs
  pub skipped : ArePaths None ps
  pub text : bytes ≡ text_of rs ps

abbrev pub IsIndexText : List ℕ → Type 0
IsIndexText bytes = (rows : List Row) × (skipped : List (List ℕ)) × ReadsAs bytes rows skipped
