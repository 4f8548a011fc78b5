-- What index texts are to indexes.
use Rattle.std.specs.Prelude.{◌≡◌, ℕ, ◌^◌, ◌<◌, List, length, decimal}
use Rattle.std.specs.List.{All}
use Rattle.word_index.specs.Index.{File, Row, Index, IsIndexOf}
use Rattle.index_print.specs.Text.{index_text}
use Rattle.index_text.specs.Numerals.{numeral}
use Rattle.index_text.specs.Texts.{IsPath, ReadsAs, text_of}

-- a file with a path on a line, and few enough bytes to count
pub record IsFile (file : File) : Type 0 where
  pub path : IsPath file.path
  pub short : length file.bytes < 2 ^ 64

pub record AreFiles (files : List File) : Type 0 where
  pub many : length files < 2 ^ 64
  pub each : All IsFile files

-- the text of an index of files reads as its rows and skipped paths
abbrev pub IndexTextsAreRead : Type 0
IndexTextsAreRead =
    (files : List File) (index : Index) → AreFiles files → IsIndexOf files index → ReadsAs (index_text index) index.rows index.skipped

-- a text reads as one index only
abbrev pub TextsReadAsOne : Type 0
TextsReadAsOne =
    (bytes : List ℕ) (rs qs : List Row) (ps ss : List (List ℕ)) → ReadsAs bytes rs ps → ReadsAs bytes qs ss → (rs ≡ qs) × (ps ≡ ss)

-- where each row has fewer files than 2 to the power of 64, the text is the one that is printed
abbrev pub TextsArePrinted : Type 0
TextsArePrinted = (index : Index) → All (λ r. length r.hits < 2 ^ 64) index.rows → text_of index.rows index.skipped ≡ index_text index

-- the digits of a number of 64 bits are those that are printed
abbrev pub NumeralsArePrinted : Type 0
NumeralsArePrinted = (n : ℕ) → n < 2 ^ 64 → numeral n ≡ decimal n
