-- The runs of a file's bytes, by the places at which they begin.
use Rattle.std.specs.Prelude.{ℕ, zero, suc, ◌+◌, Bool, false, List, length, slice_index, take, drop, count_by, ◌==◌, ◌&&◌, not}
use Rattle.std.specs.List.{take_while, range_with_len}
use Rattle.word_index.specs.Words.{is_word_byte}

-- whether a word byte stands before the place
abbrev pub follows_word_byte : List ℕ → ℕ → Bool
follows_word_byte bytes zero = false
follows_word_byte bytes (suc k) = is_word_byte (slice_index bytes k)

-- a run begins at each word byte that follows none
abbrev pub begins_run : List ℕ → ℕ → Bool
begins_run bytes k = is_word_byte (slice_index bytes k) && not (follows_word_byte bytes k)

-- it goes on as long as word bytes follow, and its line is 1 plus the newlines before it
abbrev pub run_at : List ℕ → ℕ → List ℕ × ℕ
run_at bytes k = (take_while is_word_byte (drop k bytes), 1 + count_by (λ b. b == 10) (take k bytes))

-- the places of the bytes
abbrev pub places : List ℕ → List ℕ
places bytes = range_with_len 0 (length bytes)
