-- Lines read part by part.
use Rattle.std.proofs.Common.{◌≡◌, ℕ, ◌^◌, List, inl, inr, refl, sym, ap, ◌∙◌, Ok, Err, Option, None}
use Rattle.std.specs.Prelude.{codes}
use Rattle.exact_text.specs.declared.stop.Stop as trace
use Rattle.exact_text.specs.declared.stop.Stop.TheVariants as stops
use Rattle.exact_text.specs.Reading.{Reader, as_value, word_at, number_at}
use Rattle.exact_text.proofs.CodeLaws.{bind_err, bind_ok, ok_injective}
use Rattle.word_index.specs.Index.{Hit}
use Rattle.index_text.specs.declared.fault.Stop.{Stop}
use Rattle.index_text.specs.declared.fault.Stop.TheVariants.{Memory, More, Dead}
use Rattle.index_text.specs.Numerals.{capped, numeral_at}
use Rattle.index_text.specs.Lines.{Heading, word, skipped, capped_line, capped_heading, key_at, path_at, skipped_at, key_line_at, heading_at, hit_prefix_at, hit_at}
use Rattle.index_text.specs.Steps.{Stops}

-- a value under another form was not read: nor was it under its own
under_err : {X Z : Type 0} (f : X → Z) (read : Reader X) (bytes : List ℕ) (s : trace.Stop) → as_value f read bytes ≡ Err s → read bytes ≡ Err s
under_err f read bytes s e = elim (bind_err (read bytes) _ s e) [
  | inl q ↦ q
  | inr a ↦ let h = a.2 in absurd (cc)
]

pub under_stops : {X Z : Type 0} (f : X → Z) (read : Reader X) (bytes : List ℕ) (s : Stop) → Stops (as_value f read bytes) s → Stops (read bytes) s
under_stops f read bytes Memory h = tt
under_stops f read bytes More h = under_err f read bytes stops.More h
under_stops f read bytes Dead h = under_err f read bytes stops.Dead h

-- and what was read of it
pub under_ok : {X Z : Type 0} (f : X → Z) (read : Reader X) (bytes : List ℕ) (z : Z) (rest : List ℕ) → as_value f read bytes ≡ Ok (z, rest) → (x : X) × (read bytes ≡ Ok (x, rest)) × (f x ≡ z)
under_ok {X} {Z} f read bytes z rest e =
    let a = bind_ok (read bytes) _ _ e in
    let x : X × List ℕ = a.0 in
    let same = ok_injective a.2 in
    let after : x.1 ≡ rest = ap (λ (p : Z × List ℕ). p.1) same in
    (x.0, a.1 ∙ ap (λ r. Ok (x.0, r)) after, ap (λ (p : Z × List ℕ). p.0) same)

pub word_stops : (last : Option (List ℕ)) (bytes : List ℕ) (s : Stop) → Stops (key_at last bytes) s → Stops (as_value capped_line (key_line_at last) bytes) s
word_stops last bytes Memory h = tt
word_stops last bytes More h = rw h refl
word_stops last bytes Dead h = rw h refl

pub many_stops : (last : Option (List ℕ)) (bytes w rest : List ℕ) → key_at last bytes ≡ Ok (w, rest) → (s : Stop) → Stops (as_value capped (numeral_at 10) rest) s → Stops (as_value capped_line (key_line_at last) bytes) s
many_stops last bytes w rest k s h = by s (under_stops capped (numeral_at 10) rest s h)
  where
    by : (s : Stop) → Stops (numeral_at 10 rest) s → Stops (as_value capped_line (key_line_at last) bytes) s
    by Memory h = tt
    by More h = rw (k, h) refl
    by Dead h = rw (k, h) refl

pub word_line_read : (last : Option (List ℕ)) (bytes w rest after : List ℕ) (many : ℕ) → key_at last bytes ≡ Ok (w, rest) → as_value capped (numeral_at 10) rest ≡ Ok (many, after)
    → as_value capped_line (key_line_at last) bytes ≡ Ok ((w, many), after)
word_line_read last bytes w rest after many k e =
    let r = under_ok capped (numeral_at 10) rest many after e in
    rw (k, r.1) (ap (λ n. Ok ((w, n), after)) r.2)

pub skipped_stops : (last : Option (List ℕ)) (bytes : List ℕ) (s : Stop) → Stops (word_at (codes "skipped: ") bytes) s → Stops (skipped_at last bytes) s
skipped_stops last bytes Memory h = tt
skipped_stops last bytes More h = rw h refl
skipped_stops last bytes Dead h = rw h refl

pub indent_stops : (bytes : List ℕ) (s : Stop) → Stops (word_at (codes "  ") bytes) s → Stops (hit_prefix_at bytes) s
indent_stops bytes Memory h = tt
indent_stops bytes More h = rw h refl
indent_stops bytes Dead h = rw h refl

pub count_stops : (bytes rest : List ℕ) → word_at (codes "  ") bytes ≡ Ok rest → (s : Stop) → Stops (number_at 1 (2 ^ 64) 32 rest) s → Stops (hit_prefix_at bytes) s
count_stops bytes rest k Memory h = tt
count_stops bytes rest k More h = rw (k, h) refl
count_stops bytes rest k Dead h = rw (k, h) refl

pub line_stops : (bytes rest after : List ℕ) (n : ℕ) → word_at (codes "  ") bytes ≡ Ok rest → number_at 1 (2 ^ 64) 32 rest ≡ Ok (n, after) → (s : Stop) → Stops (number_at 1 (2 ^ 64) 32 after) s → Stops (hit_prefix_at bytes) s
line_stops bytes rest after n k m Memory h = tt
line_stops bytes rest after n k m More h = rw (k, m, h) refl
line_stops bytes rest after n k m Dead h = rw (k, m, h) refl

-- a heading that is no line of a word
pub heading_stops : (last : Option (List ℕ)) (bytes : List ℕ) → Stops (as_value capped_line (key_line_at last) bytes) Dead → (s : Stop) → Stops (skipped_at None bytes) s → Stops (as_value capped_heading (heading_at last) bytes) s
heading_stops last bytes dead s h = by (under_stops capped_line (key_line_at last) bytes Dead dead) s h
  where
    by : Stops (key_line_at last bytes) Dead → (s : Stop) → Stops (skipped_at None bytes) s → Stops (as_value capped_heading (heading_at last) bytes) s
    by k Memory h = tt
    by k More h = rw (k, h) refl
    by k Dead h = rw (k, h) refl

pub heading_asks : (last : Option (List ℕ)) (bytes : List ℕ) → Stops (as_value capped_line (key_line_at last) bytes) More → as_value capped_heading (heading_at last) bytes ≡ Err stops.More
heading_asks last bytes h = let k : key_line_at last bytes ≡ Err stops.More = under_stops capped_line (key_line_at last) bytes More h in rw k refl

pub heading_is_word : (last : Option (List ℕ)) (bytes w rest : List ℕ) (many : ℕ) → as_value capped_line (key_line_at last) bytes ≡ Ok ((w, many), rest) → as_value capped_heading (heading_at last) bytes ≡ Ok (word w many, rest)
heading_is_word last bytes w rest many e =
    let r = under_ok capped_line (key_line_at last) bytes (w, many) rest e in
    rw r.1 (ap (λ (p : List ℕ × ℕ). Ok (word p.0 p.1, rest)) r.2)

pub heading_is_skipped : (last : Option (List ℕ)) (bytes path rest : List ℕ) → Stops (as_value capped_line (key_line_at last) bytes) Dead → skipped_at None bytes ≡ Ok (path, rest) → as_value capped_heading (heading_at last) bytes ≡ Ok (skipped path, rest)
heading_is_skipped last bytes path rest dead e = let k : key_line_at last bytes ≡ Err stops.Dead = under_stops capped_line (key_line_at last) bytes Dead dead in rw (k, e) refl

-- the heading itself, with its number
pub record IsWordRead (last : Option (List ℕ)) (bytes w : List ℕ) (many : ℕ) (rest : List ℕ) : Type 0 where
  pub count : ℕ
  pub most : many ≡ capped count
  pub read : heading_at last bytes ≡ Ok (word w count, rest)

pub word_read : (last : Option (List ℕ)) (bytes w : List ℕ) (many : ℕ) (rest : List ℕ) → as_value capped_heading (heading_at last) bytes ≡ Ok (word w many, rest) → IsWordRead last bytes w many rest
word_read last bytes w many rest e = let r = under_ok capped_heading (heading_at last) bytes (word w many) rest e in by r.0 r.1 r.2
  where
    by : (h : Heading) → heading_at last bytes ≡ Ok (h, rest) → capped_heading h ≡ word w many → IsWordRead last bytes w many rest
    by (word v n) is same =
        let name : v ≡ w = cc in
        let most : capped n ≡ many = cc in
        record { count = n; most = sym most; read = is ∙ ap (λ x. Ok (word x n, rest)) name }
    by (skipped p) is same = absurd (cc)

pub skipped_read : (last : Option (List ℕ)) (bytes path rest : List ℕ) → as_value capped_heading (heading_at last) bytes ≡ Ok (skipped path, rest) → heading_at last bytes ≡ Ok (skipped path, rest)
skipped_read last bytes path rest e = let r = under_ok capped_heading (heading_at last) bytes (skipped path) rest e in by r.0 r.1 r.2
  where
    by : (h : Heading) → heading_at last bytes ≡ Ok (h, rest) → capped_heading h ≡ skipped path → heading_at last bytes ≡ Ok (skipped path, rest)
    by (word v n) is same = absurd (cc)
    by (skipped p) is same = let name : p ≡ path = cc in is ∙ ap (λ x. Ok (skipped x, rest)) name

pub prefix_stops : (last : Option (List ℕ)) (bytes : List ℕ) (s : Stop) → Stops (hit_prefix_at bytes) s → Stops (hit_at last bytes) s
prefix_stops last bytes Memory h = tt
prefix_stops last bytes More h = rw h refl
prefix_stops last bytes Dead h = rw h refl

pub hit_path_stops : (last : Option (List ℕ)) (bytes rest : List ℕ) (x : ℕ × ℕ) → hit_prefix_at bytes ≡ Ok (x, rest) → (s : Stop) → Stops (path_at last rest) s → Stops (hit_at last bytes) s
hit_path_stops last bytes rest x k Memory h = tt
hit_path_stops last bytes rest x k More h = rw (k, h) refl
hit_path_stops last bytes rest x k Dead h = rw (k, h) refl

pub hit_read : (last : Option (List ℕ)) (bytes rest after p : List ℕ) (n m : ℕ) (h : Hit) → h ≡ record { path = p; count = n; line = m } → hit_prefix_at bytes ≡ Ok ((n, m), rest) → path_at last rest ≡ Ok (p, after) → hit_at last bytes ≡ Ok (h, after)
hit_read last bytes rest after p n m h e k l = rw (k, l) (ap (λ x. Ok (x, after)) (sym e))
