-- Reading as functions on lists: a value and the bytes after it, or why nothing was read.
use Rattle.std.specs.Prelude.{◌≡◌, ℕ, ◌+◌, ◌-◌, ◌*◌, ◌==◌, nat_lt, nat_le, Bool, true, false, ◌&&◌, List, [], ◌∷◌, if◌then◌else◌, Result, Ok, Err}
use Rattle.exact_text.specs.declared.stop.Stop.{Stop}
use Rattle.exact_text.specs.declared.stop.Stop.TheVariants.{More, Dead}

infixl 10 ◌>>=◌
abbrev pub ◌>>=◌ : {A B : Type 0} → Result A Stop → (A → Result B Stop) → Result B Stop
(Ok x) >>= f = f x
(Err e) >>= f = Err e

-- the second, if the first can't come any more
abbrev pub or_else : {A : Type 0} → Result A Stop → Result A Stop → Result A Stop
or_else (Ok x) other = Ok x
or_else (Err More) other = Err More
or_else (Err Dead) other = other

-- what a function returned, seen by view, is what reading gives
abbrev pub Gives : {X Y : Type 0} → (X → Y) → Result X Stop → Result Y Stop → Type 0
Gives view (Ok x) read = read ≡ Ok (view x)
Gives view (Err e) read = read ≡ Err e

-- the word, byte by byte
abbrev pub word_at : List ℕ → List ℕ → Result (List ℕ) Stop
word_at [] bytes = Ok bytes
word_at (w ∷ word) [] = Err More
word_at (w ∷ word) (c ∷ bytes) = if c == w then word_at word bytes else Err Dead

-- a digit that goes on with a number below the bound
abbrev pub goes_on : ℕ → ℕ → ℕ → Bool
goes_on bound v c = nat_le 48 c && nat_le c 57 && nat_lt 0 v && nat_lt (10 * v + (c - 48)) bound

-- the rest of a number below the bound, after digits that stand for v, up to the byte that stops it
abbrev pub digits_at : ℕ → ℕ → ℕ → List ℕ → Result (ℕ × List ℕ) Stop
digits_at bound stop v [] = Err More
digits_at bound stop v (c ∷ bytes) =
    if c == stop then Ok (v, bytes)
    else if goes_on bound v c then digits_at bound stop (10 * v + (c - 48)) bytes
    else Err Dead

-- a digit that begins a number from 0 or 1 on and below the bound
abbrev pub begins : ℕ → ℕ → ℕ → Bool
begins least bound c = nat_le 48 c && nat_le c 57 && nat_le least (c - 48) && nat_lt (c - 48) bound

-- a number from 0 or 1 on and below the bound, and the byte that stops it
abbrev pub number_at : ℕ → ℕ → ℕ → List ℕ → Result (ℕ × List ℕ) Stop
number_at least bound stop [] = Err More
number_at least bound stop (c ∷ bytes) =
    if begins least bound c then digits_at bound stop (c - 48) bytes else Err Dead

-- what reads a value at the front of some bytes
abbrev pub Reader : Type 0 → Type 0
Reader X = List ℕ → Result (X × List ℕ) Stop

-- a word, and then what the reader reads
abbrev pub after_word : {X : Type 0} → List ℕ → Reader X → Reader X
after_word word read bytes = word_at word bytes >>= read

-- one value, and then another
abbrev pub both : {X Y : Type 0} → Reader X → (X → Reader Y) → Reader (X × Y)
both read read' bytes = read bytes >>= λ x. read' x.0 x.1 >>= λ y. Ok ((x.0, y.0), y.1)

-- the value under another form
abbrev pub as_value : {X Z : Type 0} → (X → Z) → Reader X → Reader Z
as_value f read bytes = read bytes >>= λ x. Ok (f x.0, x.1)

-- the one or the other
abbrev pub either : {X : Type 0} → Reader X → Reader X → Reader X
either read read' bytes = or_else (read bytes) (read' bytes)

-- nothing, unless the test holds
abbrev pub only_if : {X : Type 0} → Bool → Reader X → Reader X
only_if b read bytes = if b then read bytes else Err Dead

-- one word or the other
abbrev pub flag_at : List ℕ → List ℕ → Reader Bool
flag_at one other = either (after_word one (λ rest. Ok (true, rest))) (after_word other (λ rest. Ok (false, rest)))
