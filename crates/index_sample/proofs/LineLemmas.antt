-- A line of a sample file is one of the table.
use Rattle.std.proofs.Common.{◌≡◌, ℕ, ◌+◌, ◌*◌, ◌%◌, ◌<◌, List, [], ◌∷◌, ◌++◌, map, sym, ◌∙◌, ap, append_assoc, arith, get_or}
use Rattle.std.specs.Prelude.{codes, decimal}
use Rattle.std.specs.List.{range_with_len, join_with_byte}
use Rattle.std.proofs.Math.Path.{fun_ext}
use Rattle.std.proofs.lemmas.List.FromFn.{map-range_with_len_more, get_or-map-range_with_len}
use Rattle.firefly_outside.specs.Samples.{sample_word, sample_line, word_number}
use Rattle.index_sample.specs.Lines.{all_lines}

shifted : (x s : ℕ) → ((x % 499) % 1000 + 31 * 0 + 17 * 0 + s) % 499 ≡ (x + s) % 499
shifted x s = omega arith

-- a line is that of the first file at the seed that is its first word's number
pub same_line : (seed i l : ℕ) → sample_line ((seed % 1000 + 31 * i + 17 * l) % 499) 0 0 ≡ sample_line seed i l
same_line seed i l =
    ap (λ (f : ℕ → List ℕ). join_with_byte 32 (map f (range_with_len 0 8)) ++ 10 ∷ [])
    (fun_ext (λ q. ap sample_word (shifted (seed % 1000 + 31 * i + 17 * l) (q * q))))

-- the line at a place of the table
pub line_at : (lines : List (List ℕ)) (n : ℕ) (d : List ℕ) → lines ≡ all_lines → n < 499 → get_or lines n d ≡ sample_line n 0 0
line_at lines n d all within = ap (λ l. get_or l n d) all ∙ get_or-map-range_with_len (λ n. sample_line n 0 0) 0 499 n n d within (omega arith)

-- one more line of the table
pub lines_made : (n : ℕ) (old made : List (List ℕ)) → old ≡ map (λ n. sample_line n 0 0) (range_with_len 0 n) → made ≡ old ++ sample_line n 0 0 ∷ []
    → made ≡ map (λ n. sample_line n 0 0) (range_with_len 0 (n + 1))
lines_made n old made first second =
    second ∙ ap (λ l. l ++ sample_line n 0 0 ∷ []) first ∙ sym (map-range_with_len_more (λ n. sample_line n 0 0) 0 n n (omega arith))

-- the number of a word of a line whose first word has this number
pub number_at : (n q : ℕ) → n < 499 → word_number n 0 0 q ≡ (n + q * q) % 499
number_at n q small = shifted_small n (q * q) small
  where
    shifted_small : (x s : ℕ) → x < 499 → (x % 1000 + 31 * 0 + 17 * 0 + s) % 499 ≡ (x + s) % 499
    shifted_small x s h = omega (arith, h)

-- what adding a word of a line adds
pub word_added : (n q : ℕ) (old made : List ℕ) → n < 499 → made ≡ (old ++ codes "w") ++ decimal ((n + q * q) % 499) → made ≡ old ++ sample_word (word_number n 0 0 q)
word_added n q old made small is =
    is ∙ append_assoc old (codes "w") (decimal ((n + q * q) % 499)) ∙ ap (λ k. old ++ sample_word k) (sym (number_at n q small))
