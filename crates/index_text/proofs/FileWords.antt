-- The words of a file are words of an index text, and their counts and lines are numbers of it.
use Rattle.std.proofs.Common.{◌≡◌, ℕ, suc, ◌+◌, ◌<◌, ◌≤◌, Bool, true, false, cond, not, List, [], ◌∷◌, length, take, map, filter, fold, min, arith, refl, sym, ap, subst, ◌∙◌, Some, All}
use Rattle.std.specs.Prelude.{◌==◌}
use Rattle.std.specs.List.{AllByRecursion, prefix_len, take_while}
use Rattle.std.specs.Str.{bytes_eq}
use Rattle.std.specs.Cmp.Lexicographic.{bytes_decides}
use Rattle.std.proofs.lemmas.Bool.Decides.{nat_tests}
use Rattle.std.proofs.lemmas.List.{length-map}
use Rattle.std.proofs.lemmas.List.Elements.{All-nil, All-cons, All-head, All-tail, All-weaker, All-map, All-filter, filter_passes}
use Rattle.std.proofs.lemmas.List.Filters.{length-filter_both}
use Rattle.word_index.specs.Words.{is_word_byte, lower, lowered, is_short, runs, line_after, file_words}
use Rattle.word_index.specs.Counts.{Seen, seen_of, seen_in}
use Rattle.index_text.specs.Texts.{is_key_byte, IsWord}

abbrev AreWordBytes : List ℕ → Type 0
AreWordBytes bs = AllByRecursion (λ b. is_word_byte b ≡ true) bs

take_one_more : (b : ℕ) (bs : List ℕ) (m : ℕ) → take (1 + m) (b ∷ bs) ≡ b ∷ take m bs
take_one_more b bs m = subst (λ k. take k (b ∷ bs) ≡ b ∷ take m bs) {x = suc m} (omega arith) refl

-- a run begins with its word byte
prefix_word : (b : ℕ) (bs : List ℕ) → is_word_byte b ≡ true → take_while is_word_byte (b ∷ bs) ≡ b ∷ take_while is_word_byte bs
prefix_word b bs e = ap (λ t. take (cond t (1 + prefix_len is_word_byte bs) 0) (b ∷ bs)) e ∙ take_one_more b bs (prefix_len is_word_byte bs)

prefix_passes : (bs : List ℕ) → AreWordBytes (take_while is_word_byte bs)
prefix_passes [] = tt
prefix_passes (b ∷ bs) = by (is_word_byte b) refl (prefix_passes bs)
  where
    by : (t : Bool) → is_word_byte b ≡ t → AreWordBytes (take_while is_word_byte bs) → AreWordBytes (take (cond t (1 + prefix_len is_word_byte bs) 0) (b ∷ bs))
    by true e h = subst AreWordBytes (sym (take_one_more b bs (prefix_len is_word_byte bs))) (e, h)
    by false e h = tt

-- a run of so many bytes from a line on, with its line
record IsRun (line n : ℕ) (r : List ℕ × ℕ) : Type 0 where
  some : 0 < length r.0
  bytes : AreWordBytes r.0
  least : line ≤ r.1
  most : r.1 < line + n

later : (line next n : ℕ) → line ≤ next → next ≤ line + 1 → (rs : List (List ℕ × ℕ)) → All (IsRun next n) rs → All (IsRun line (suc n)) rs
later line next n low high rs h =
    All-weaker (IsRun next n) (IsRun line (suc n)) (λ r k. record { some = k.some; bytes = k.bytes; least = omega (arith, low, k.least); most = omega (arith, high, k.most) }) rs h

line_near : (line b : ℕ) → (line ≤ line_after line b) × (line_after line b ≤ line + 1)
line_near line b = by (b == 10)
  where
    by : (t : Bool) → (line ≤ cond t (line + 1) line) × (cond t (line + 1) line ≤ line + 1)
    by true = (omega arith, omega arith)
    by false = (omega arith, omega arith)

run_here : (line b : ℕ) (bs : List ℕ) → is_word_byte b ≡ true → IsRun line (suc (length bs)) (take_while is_word_byte (b ∷ bs), line)
run_here line b bs e = record {
  some = omega (arith, ap length (prefix_word b bs e));
  bytes = prefix_passes (b ∷ bs);
  least = omega arith;
  most = omega arith;
}

runs_are : (inside : Bool) (line : ℕ) (bs : List ℕ) → All (IsRun line (length bs)) (runs inside line bs)
runs_are inside line [] = All-nil (IsRun line 0)
runs_are inside line (b ∷ bs) = by (is_word_byte b) refl inside (runs_are true line bs) (runs_are false (line_after line b) bs)
  where
    by : (t : Bool) → is_word_byte b ≡ t → (i : Bool) → All (IsRun line (length bs)) (runs true line bs) → All (IsRun (line_after line b) (length bs)) (runs false (line_after line b) bs)
        → All (IsRun line (suc (length bs))) (cond t (cond i (runs true line bs) ((take_while is_word_byte (b ∷ bs), line) ∷ runs true line bs)) (runs false (line_after line b) bs))
    by true e true same next = later line line (length bs) (omega arith) (omega arith) (runs true line bs) same
    by true e false same next =
        All-cons (IsRun line (suc (length bs))) (take_while is_word_byte (b ∷ bs), line) (runs true line bs) (run_here line b bs e) (later line line (length bs) (omega arith) (omega arith) (runs true line bs) same)
    by false e i same next = let near = line_near line b in later line (line_after line b) (length bs) near.0 near.1 (runs false (line_after line b) bs) next

runs_few : (inside : Bool) (line : ℕ) (bs : List ℕ) → length (runs inside line bs) ≤ length bs
runs_few inside line [] = omega arith
runs_few inside line (b ∷ bs) = by (is_word_byte b) inside (runs_few true line bs) (runs_few false (line_after line b) bs)
  where
    by : (t i : Bool) → length (runs true line bs) ≤ length bs → length (runs false (line_after line b) bs) ≤ length bs
        → length (cond t (cond i (runs true line bs) ((take_while is_word_byte (b ∷ bs), line) ∷ runs true line bs)) (runs false (line_after line b) bs)) ≤ suc (length bs)
    by true true same next = omega (arith, same)
    by true false same next = omega (arith, same)
    by false i same next = omega (arith, next)

-- a word of a file of so many bytes, with its line
record IsFileWord (n : ℕ) (p : List ℕ × ℕ) : Type 0 where
  word : IsWord p.0
  least : 1 ≤ p.1
  most : p.1 ≤ n

lower_key : (b : ℕ) → is_word_byte b ≡ true → is_key_byte (lower b) ≡ true
lower_key b h = grind (arith, nat_tests)

lower_keys : (bs : List ℕ) → AreWordBytes bs → AllByRecursion (λ b. is_key_byte b ≡ true) (map lower bs)
lower_keys [] h = tt
lower_keys (b ∷ bs) h = (lower_key b h.0, lower_keys bs h.1)

short_run : (n : ℕ) (r : List ℕ × ℕ) → IsRun 1 n r → is_short r ≡ true → IsFileWord n (lowered r)
short_run n r is short =
    let fits : length r.0 ≤ 64 = grind (arith, nat_tests, short) in
    let same = length-map r.0 lower in
    record {
      word = record { some = omega (arith, same, is.some); short = omega (arith, same, fits); bytes = lower_keys r.0 is.bytes };
      least = is.least;
      most = omega (arith, is.most);
    }

words_are : (bytes : List ℕ) → All (IsFileWord (length bytes)) (file_words bytes)
words_are bytes =
    let n = length bytes in
    let rs = runs false 1 bytes in
    let are = All-filter is_short (IsRun 1 n) rs (runs_are false 1 bytes) in
    let short = filter_passes is_short rs in
    All-map (IsFileWord n) lowered (filter is_short rs) (λ k d h. short_run n _ (are k d h) (short k d h))

words_few : (bytes : List ℕ) → length (file_words bytes) ≤ length bytes
words_few bytes =
    let rs = runs false 1 bytes in
    omega (arith, length-map (filter is_short rs) lowered, length-filter_both is_short (λ r. not (is_short r)) (λ _. refl) rs, runs_few false 1 bytes)

-- a word's count and first line in a file of so many bytes
pub record IsCounted (n : ℕ) (w : List ℕ) (s : Seen) : Type 0 where
  pub word : IsWord w
  pub some : 1 ≤ s.count
  pub few : s.count ≤ n
  pub least : 1 ≤ s.line
  pub most : s.line ≤ n

least_line : (n x : ℕ) (ps : List (List ℕ × ℕ)) → 1 ≤ x → x ≤ n → All (IsFileWord n) ps → (1 ≤ fold min x (map (λ p. p.1) ps)) × (fold min x (map (λ p. p.1) ps) ≤ n)
least_line n x [] low high are = (low, high)
least_line n x (p ∷ ps) low high are =
    let first = All-head (IsFileWord n) p ps are in
    least_line n (min x p.1) ps (omega (arith, low, first.least)) (omega (arith, high)) (All-tail (IsFileWord n) p ps are)

counted : (n : ℕ) (w : List ℕ) (pairs : List (List ℕ × ℕ)) (s : Seen) → All (IsFileWord n) pairs → length pairs ≤ n → seen_in w pairs ≡ Some s → IsCounted n w s
counted n w pairs s are few e =
    by (filter test pairs) (All-filter test (IsFileWord n) pairs are) (filter_passes test pairs) (omega (arith, few, length-filter_both test (λ p. not (test p)) (λ _. refl) pairs)) e
  where
    test : List ℕ × ℕ → Bool
    test p = bytes_eq w p.0

    by : (kept : List (List ℕ × ℕ)) → All (IsFileWord n) kept → All (λ p. bytes_eq w p.0 ≡ true) kept → length kept ≤ n → seen_of (map (λ p. p.1) kept) ≡ Some s → IsCounted n w s
    by [] all passed short seen = absurd (cc)
    by (p ∷ ps) all passed short seen =
        let here : Seen = record { count = suc (length (map (λ (p : List ℕ × ℕ). p.1) ps)); line = fold min p.1 (map (λ (p : List ℕ × ℕ). p.1) ps) } in
        let same : here ≡ s = cc in
        let first = All-head (IsFileWord n) p ps all in
        let line = least_line n p.1 ps first.least first.most (All-tail (IsFileWord n) p ps all) in
        let word : w ≡ p.0 = (bytes_decides w p.0).0 (All-head (λ p. bytes_eq w p.0 ≡ true) p ps passed) in
        let many = length-map ps (λ (p : List ℕ × ℕ). p.1) in
        subst (IsCounted n w) same (record { word = subst IsWord (sym word) first.word; some = omega arith; few = omega (arith, many, short); least = line.0; most = line.1 })

-- what is seen of a word in a file
pub file_counted : (bytes w : List ℕ) (s : Seen) → seen_in w (file_words bytes) ≡ Some s → IsCounted (length bytes) w s
file_counted bytes w s e = counted (length bytes) w (file_words bytes) s (words_are bytes) (words_few bytes) e
