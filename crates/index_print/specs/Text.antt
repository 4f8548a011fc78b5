-- The index text.
use Rattle.std.specs.Prelude.{ℕ, List, ◌++◌, length, decimal, codes}
use Rattle.std.specs.List.{flat_map}
use Rattle.text_output.specs.Paths.{newline, escaped}
use Rattle.word_index.specs.Index.{Hit, Row, Index}

-- a word and the number of files that have it
abbrev pub word_line : Row → List ℕ
word_line row = row.word ++ codes " " ++ decimal (length row.hits) ++ newline

-- the same without its end
abbrev pub word_start : Row → List ℕ
word_start row = row.word ++ codes " " ++ decimal (length row.hits)

-- how often a file has the word, and on which line first
abbrev pub hit_prefix : ℕ → ℕ → List ℕ
hit_prefix count line = codes "  " ++ decimal count ++ codes " " ++ decimal line ++ codes " "

-- a file that has the word: the count, the first line and the path
abbrev pub hit_line : Hit → List ℕ
hit_line hit = hit_prefix hit.count hit.line ++ escaped hit.path ++ newline

-- the end of the line before, and what stands before the path
abbrev pub hit_lead : ℕ → ℕ → List ℕ
hit_lead count line = newline ++ hit_prefix count line

-- a file's line without its end, after the end of the line before
abbrev pub hit_after : Hit → List ℕ
hit_after hit = hit_lead hit.count hit.line ++ escaped hit.path

abbrev pub row_text : Row → List ℕ
row_text row = word_line row ++ flat_map hit_line row.hits

abbrev pub skipped_line : List ℕ → List ℕ
skipped_line path = codes "skipped: " ++ escaped path ++ newline

-- the words in order with their files, and then the skipped files
abbrev pub index_text : Index → List ℕ
index_text index = flat_map row_text index.rows ++ flat_map skipped_line index.skipped
