-- Reading the lines of an index text.
use Rattle.std.specs.Prelude.{ℕ, ◌^◌, nat_lt, nat_le, Bool, true, false, not, ◌&&◌, ◌||◌, ◌==◌, List, [], ◌∷◌, ◌++◌, length, drop, if◌then◌else◌, codes, Option, Some, None, Ok, Err}
use Rattle.std.specs.List.{list_any}
use Rattle.std.specs.Option.{option_map, unwrap_or}
use Rattle.std.specs.Ordering.{nat_cmp, is_lt}
use Rattle.std.specs.Cmp.Lexicographic.{slice_cmp}
use Rattle.std.specs.Str.{is_utf8}
use Rattle.exact_text.specs.declared.stop.Stop.TheVariants.{More, Dead}
use Rattle.exact_text.specs.Reading.{Reader, after_word, both, as_value, either, number_at}
use Rattle.word_index.specs.Index.{Hit}
use Rattle.index_text.specs.Numerals.{numeral_at, capped}
use Rattle.index_text.specs.Texts.{is_key_byte}

module _ (ok : ℕ → Bool) (good grow : List ℕ → Bool) (stop : ℕ) where
  -- bytes that pass the test up to the one that stops them, where they are good together; ended before it, they may grow to such
  abbrev pub token_from : List ℕ → Reader (List ℕ)
  token_from w [] = if grow w then Err More else Err Dead
  token_from w (c ∷ bytes) =
      if ok c then token_from (w ++ c ∷ []) bytes
      else if (c == stop) && good w then Ok (w, bytes)
      else Err Dead

-- above the last one, if there is one
abbrev pub is_above : Option (List ℕ) → List ℕ → Bool
is_above None text = true
is_above (Some last) text = is_lt (slice_cmp nat_cmp last text)

-- the one begins the other
abbrev pub is_prefix : List ℕ → List ℕ → Bool
is_prefix [] ys = true
is_prefix (x ∷ xs) [] = false
is_prefix (x ∷ xs) (y ∷ ys) = (x == y) && is_prefix xs ys

abbrev pub is_good_word : Option (List ℕ) → List ℕ → Bool
is_good_word last word = nat_lt 0 (length word) && nat_le (length word) 64 && is_above last word

-- a word above the last one begins so: it is above already, or begins the last one, which may grow or have a greater byte later on
abbrev pub may_be_word : Option (List ℕ) → List ℕ → Bool
may_be_word None word = nat_le (length word) 64
may_be_word (Some last) word = nat_le (length word) 64
    && (is_lt (slice_cmp nat_cmp last word) || (is_prefix word last && (nat_lt (length last) 64 || list_any (λ b. nat_lt b 122)
    (drop (length word) last))))

-- a word above the last one, and the space after it
abbrev pub key_at : Option (List ℕ) → Reader (List ℕ)
key_at last = token_from is_key_byte (is_good_word last) (may_be_word last) 32 []

abbrev pub put : ℕ → Option (List ℕ) → Option (List ℕ)
put b rest = option_map (λ bytes. b ∷ bytes) rest

-- what the bytes of a path on a line stand for; after a backslash that is the last byte it is what the end says
abbrev pub unescaped : Option (List ℕ) → Bool → List ℕ → Option (List ℕ)
unescaped end false [] = Some []
unescaped end true [] = end
unescaped end false (b ∷ bytes) = if b == 92 then unescaped end true bytes else put b (unescaped end false bytes)
unescaped end true (b ∷ bytes) =
    if b == 92 then put 92 (unescaped end false bytes)
    else if b == 110 then put 10 (unescaped end false bytes)
    else None

-- the bytes of the path, or of its prefix
abbrev pub path_of : List ℕ → Option (List ℕ)
path_of bytes = unescaped None false bytes

abbrev pub prefix_of : List ℕ → Option (List ℕ)
prefix_of bytes = unescaped (Some (92 ∷ [])) false bytes

abbrev pub is_path : Option (List ℕ) → Option (List ℕ) → Bool
is_path last None = false
is_path last (Some path) = nat_lt 0 (length path) && is_utf8 path && is_above last path

-- the last path begins with it
abbrev pub begins_last : Option (List ℕ) → List ℕ → Bool
begins_last None prefix = false
begins_last (Some last) prefix = is_prefix prefix last

-- a path above the last one begins so: the last one does, or these bytes end the character within which it ends
abbrev pub may_be_path : Option (List ℕ) → List ℕ → Bool
may_be_path last prefix = begins_last last prefix
    || is_path last (Some prefix)
    || is_path last (Some (prefix ++ 97 ∷ []))
    || is_path last (Some (prefix ++ 128 ∷ []))
    || is_path last (Some (prefix ++ 128 ∷ 128 ∷ []))
    || is_path last (Some (prefix ++ 128 ∷ 128 ∷ 128 ∷ []))
    || is_path last (Some (prefix ++ 160 ∷ 128 ∷ []))
    || is_path last (Some (prefix ++ 144 ∷ 128 ∷ 128 ∷ []))

abbrev pub is_path_prefix : Option (List ℕ) → Option (List ℕ) → Bool
is_path_prefix last None = false
is_path_prefix last (Some prefix) = may_be_path last prefix

abbrev pub is_no_newline : ℕ → Bool
is_no_newline b = not (b == 10)

-- the path itself
abbrev pub plain : List ℕ → List ℕ
plain bytes = unwrap_or (path_of bytes) []

-- a path above the last one, and the end of its line
abbrev pub path_at : Option (List ℕ) → Reader (List ℕ)
path_at last =
    as_value plain (token_from is_no_newline (λ bytes. is_path last (path_of bytes)) (λ bytes. is_path_prefix last (prefix_of bytes)) 10 [])

abbrev pub figure_at : ℕ → Reader ℕ
figure_at stop = number_at 1 (2 ^ 64) stop

abbrev pub hit_from : (ℕ × ℕ) × List ℕ → Hit
hit_from p = record { path = p.1; count = p.0.0; line = p.0.1 }

-- the numbers of the line of a file
abbrev pub hit_prefix_at : Reader (ℕ × ℕ)
hit_prefix_at = after_word (codes "  ") (both (figure_at 32) (λ _. figure_at 32))

-- the line of a file with a path above the last one
abbrev pub hit_at : Option (List ℕ) → Reader Hit
hit_at last = as_value hit_from (both hit_prefix_at (λ _. path_at last))

abbrev pub skipped_at : Option (List ℕ) → Reader (List ℕ)
skipped_at last = after_word (codes "skipped: ") (path_at last)

-- the line of a word with its number of files, or the first skipped path
pub data Heading : Type 0 where
  word : List ℕ → ℕ → Heading
  skipped : List ℕ → Heading

abbrev pub key_line_at : Option (List ℕ) → Reader (List ℕ × ℕ)
key_line_at last = both (key_at last) (λ _. numeral_at 10)

abbrev pub word_heading_at : Option (List ℕ) → Reader Heading
word_heading_at last = as_value (λ p. word p.0 p.1) (key_line_at last)

abbrev pub heading_at : Option (List ℕ) → Reader Heading
heading_at last = either (word_heading_at last) (as_value skipped (skipped_at None))

-- the same with the number of files as far as a counter goes
abbrev pub capped_line : List ℕ × ℕ → List ℕ × ℕ
capped_line p = (p.0, capped p.1)

abbrev pub capped_heading : Heading → Heading
capped_heading (word w n) = word w (capped n)
capped_heading (skipped path) = skipped path
