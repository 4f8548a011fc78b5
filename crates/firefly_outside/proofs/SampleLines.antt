-- The lines of a sample file, word by word.
use Rattle.std.proofs.Common.{◌≡◌, ℕ, ◌+◌, ◌<◌, List, [], ◌∷◌, ◌++◌, map, sym, ◌∙◌, ap, refl, append_assoc, arith, Result, Ok, Err, OnOk, zero, suc, get_or}
use Rattle.std.specs.Prelude.{is_ok, if◌then◌else◌}
use Rattle.std.specs.List.{range_with_len, flat_map, join_with_byte}
use Rattle.std.proofs.lemmas.List.FromFn.{map-range_with_len_more, get_or-map-range_with_len}
use Rattle.std.proofs.lemmas.List.Concat.{flat_map-append}
use Rattle.firefly_outside.specs.Samples.{word_number, sample_word, sample_line}

-- a word and the space after it
abbrev pub spaced_word : ℕ → ℕ → ℕ → ℕ → List ℕ
spaced_word seed file line q = sample_word (word_number seed file line q) ++ 32 ∷ []

numbers_more : (a n j : ℕ) → a + n ≡ j → range_with_len a (suc n) ≡ range_with_len a n ++ j ∷ []
numbers_more a zero j same = let e : a ≡ j = omega (arith, same) in ap (λ m. m ∷ []) e
numbers_more a (suc n) j same = let e : (a + 1) + n ≡ j = omega (arith, same) in ap (λ l. a ∷ l) (numbers_more (a + 1) n j e)

append-nil : {B : Type 0} (xs : List B) → xs ++ [] ≡ xs
append-nil [] = refl
append-nil (x ∷ xs) = ap (λ l. x ∷ l) (append-nil xs)

-- one more of the pieces of a range
pub flat_map-range_more : {A : Type 0} (f : ℕ → List A) (a n j : ℕ) → a + n ≡ j → flat_map f (range_with_len a (n + 1)) ≡ flat_map f (range_with_len a n) ++ f j
flat_map-range_more f a n j same =
    let e : n + 1 ≡ suc n = omega arith in
    ap (λ m. flat_map f (range_with_len a m)) e ∙ ap (flat_map f) (numbers_more a n j same) ∙ flat_map-append f (range_with_len a n) (j ∷ [])
    ∙ ap (λ l. flat_map f (range_with_len a n) ++ l) (append-nil (f j))

-- each with a space after it and one more are all joined
pub spaced_joined : (f : ℕ → List ℕ) (a n : ℕ) → flat_map (λ q. f q ++ 32 ∷ []) (range_with_len a n) ++ f (a + n) ≡ join_with_byte 32 (map f (range_with_len a (suc n)))
spaced_joined f a zero = ap f (omega arith)
spaced_joined f a (suc n) =
    append_assoc (f a ++ 32 ∷ []) (flat_map (λ q. f q ++ 32 ∷ []) (range_with_len (a + 1) n)) (f (a + suc n))
    ∙ append_assoc (f a) (32 ∷ []) (flat_map (λ q. f q ++ 32 ∷ []) (range_with_len (a + 1) n) ++ f (a + suc n))
    ∙ ap (λ l. f a ++ 32 ∷ l) (ap (λ m. flat_map (λ q. f q ++ 32 ∷ []) (range_with_len (a + 1) n) ++ f m) (omega arith) ∙ spaced_joined f (a + 1) n)

-- seven with their spaces, the eighth and a newline
eight : (word : ℕ → List ℕ) (old spaced worded made : List ℕ) → spaced ≡ old ++ flat_map (λ q. word q ++ 32 ∷ []) (range_with_len 0 7) → worded ≡ spaced ++ word 7 → made ≡ worded ++ 10 ∷ []
    → made ≡ old ++ (join_with_byte 32 (map word (range_with_len 0 8)) ++ 10 ∷ [])
eight word old spaced worded made first second third =
    third ∙ ap (λ l. l ++ 10 ∷ []) (second ∙ ap (λ l. l ++ word 7) first ∙ append_assoc old (flat_map (λ q. word q ++ 32 ∷ []) (range_with_len 0 7)) (word 7) ∙ ap (λ l. old ++ l) (spaced_joined word 0 7))
    ∙ append_assoc old (join_with_byte 32 (map word (range_with_len 0 8))) (10 ∷ [])

-- a line is made so
pub line_made : (seed file line : ℕ) (old spaced worded made : List ℕ) → spaced ≡ old ++ flat_map (spaced_word seed file line) (range_with_len 0 7)
    → worded ≡ spaced ++ sample_word (word_number seed file line 7) → made ≡ worded ++ 10 ∷ [] → made ≡ old ++ sample_line seed file line
line_made seed file line = eight (λ q. sample_word (word_number seed file line q))

-- one more word with its space
pub word_more : (seed file line q : ℕ) (old spaced worded made : List ℕ) → spaced ≡ old ++ flat_map (spaced_word seed file line) (range_with_len 0 q)
    → worded ≡ spaced ++ sample_word (word_number seed file line q) → made ≡ worded ++ 32 ∷ [] → made ≡ old ++ flat_map (spaced_word seed file line) (range_with_len 0 (q + 1))
word_more seed file line q old spaced worded made first second third =
    third ∙ ap (λ l. l ++ 32 ∷ []) second ∙ append_assoc spaced (sample_word (word_number seed file line q)) (32 ∷ [])
    ∙ ap (λ l. l ++ spaced_word seed file line q) first ∙ append_assoc old (flat_map (spaced_word seed file line) (range_with_len 0 q)) (spaced_word seed file line q)
    ∙ ap (λ l. old ++ l) (sym (flat_map-range_more (spaced_word seed file line) 0 q q (omega arith)))

-- one more line
pub lines_more : (seed file line : ℕ) (old made : List ℕ) → old ≡ flat_map (sample_line seed file) (range_with_len 0 line) → made ≡ old ++ sample_line seed file line
    → made ≡ flat_map (sample_line seed file) (range_with_len 0 (line + 1))
lines_more seed file line old made first second =
    second ∙ ap (λ l. l ++ sample_line seed file line) first ∙ sym (flat_map-range_more (sample_line seed file) 0 line line (omega arith))

-- one more word of the table
pub words_more : (n : ℕ) (old made : List (List ℕ)) → old ≡ map sample_word (range_with_len 0 n) → made ≡ old ++ sample_word n ∷ [] → made ≡ map sample_word (range_with_len 0 (n + 1))
words_more n old made first second = second ∙ ap (λ l. l ++ sample_word n ∷ []) first ∙ sym (map-range_with_len_more sample_word 0 n n (omega arith))

-- the word at a place of the table
pub word_at : (words : List (List ℕ)) (n : ℕ) (d : List ℕ) → words ≡ map sample_word (range_with_len 0 499) → n < 499 → get_or words n d ≡ sample_word n
word_at words n d all within = ap (λ l. get_or l n d) all ∙ get_or-map-range_with_len sample_word 0 499 n n d within (omega arith)

-- a piece that was added where memory didn't want is the word
pub grown : {E : Type 0} (r : Result (Unit {0}) E) (old new piece word : List ℕ) → new ≡ (if is_ok r then old ++ piece else old) → piece ≡ word → OnOk r (new ≡ old ++ word)
grown (Ok x) old new piece word is same = is ∙ ap (λ l. old ++ l) same
grown (Err e) old new piece word is same = tt

-- what follows from what a call promises where memory didn't want
pub OnOk-then : {E P Q : Type 0} (r : Result (Unit {0}) E) → (P → Q) → OnOk r P → OnOk r Q
OnOk-then (Ok x) next h = next h
OnOk-then (Err e) next h = tt
