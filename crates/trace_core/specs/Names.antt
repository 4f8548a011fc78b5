-- Names of threads and mutexes in rising order.
use Rattle.std.specs.Prelude.{◌≡◌, ℕ, zero, suc, ◌+◌, ◌-◌, ◌*◌, ◌<◌, ◌≤◌, ◌==◌, nat_lt, nat_le, Bool, true, ◌&&◌, ◌||◌, List, [], ◌∷◌, if◌then◌else◌, codes, Ok, Err}
use Rattle.larch_actions.specs.declared.thread_set.ThreadSet.{ThreadSet}
use Rattle.larch_actions.specs.Sets.{set_of}
use Rattle.exact_text.specs.declared.stop.Stop.TheVariants.{More, Dead}
use Rattle.exact_text.specs.Reading.{Reader, after_word, both, as_value, either}

-- some of the n numbers from v on are from least on and below the bound, where least is below it
abbrev pub meets : ℕ → ℕ → ℕ → ℕ → Bool
meets least bound v n = nat_lt v bound && nat_lt least (v + n)

-- a number from least on and below the bound, which is at most 1000, can begin with the digits of v
abbrev pub reaches : ℕ → ℕ → ℕ → Bool
reaches least bound v =
    nat_lt v bound && (nat_le least v || (nat_lt 0 v && (meets least bound (10 * v) 10 || meets least bound (100 * v) 100)))

abbrev pub is_digit : ℕ → Bool
is_digit c = nat_le 48 c && nat_le c 57

-- among several names, this one may be the last, or a higher one follows after a space; a single name stands before a space
abbrev pub may_stop : Bool → ℕ → ℕ → ℕ → Bool
may_stop several bound v c = if several then (c == 10) || ((c == 32) && nat_lt (v + 1) bound) else c == 32

abbrev pub digits_from : Bool → ℕ → ℕ → ℕ → Reader (ℕ × ℕ)
digits_from several least bound v [] = Err More
digits_from several least bound v (c ∷ bytes) =
    if may_stop several bound v c && nat_le least v then Ok ((v, c), bytes)
    else if is_digit c && (nat_lt 0 v && reaches least bound (10 * v + (c - 48)))
    then digits_from several least bound (10 * v + (c - 48)) bytes
    else Err Dead

-- a number from least on and below the bound, with the byte that stops it
abbrev pub number_from : Bool → ℕ → ℕ → Reader (ℕ × ℕ)
number_from several least bound [] = Err More
number_from several least bound (c ∷ bytes) =
    if is_digit c && reaches least bound (c - 48) then digits_from several least bound (c - 48) bytes else Err Dead

abbrev pub IsStopped : Bool → ℕ → ℕ → ℕ × ℕ → Type 0
IsStopped several least bound p = (least ≤ p.0) × (p.0 < bound) × (may_stop several bound p.0 p.1 ≡ true)

-- some numbers in strictly rising order, from least on and below the bound
abbrev pub IsRising : ℕ → ℕ → List ℕ → Type 0
IsRising least bound [] = Unit {0}
IsRising least bound (t ∷ ts) = (least ≤ t) × (t < bound) × IsRising (t + 1) bound ts

-- the names after the first ` t`
abbrev pub tail_at : ℕ → ℕ → ℕ → Reader (List ℕ)
tail_at zero least bound bytes = Err Dead
tail_at (suc fuel) least bound bytes =
    as_value (λ p. p.0.0 ∷ p.1) (both (number_from true least bound) (λ p. if p.1 == 10 then (λ rest. Ok ([], rest))
    else after_word (codes "t") (tail_at fuel (p.0 + 1) bound))) bytes

-- the names up to the end of the line, each after ` t`
abbrev pub names_at : ℕ → Reader (List ℕ)
names_at bound = either (after_word (10 ∷ []) (λ rest. Ok ([], rest))) (after_word (codes " t") (tail_at bound 0 bound))

-- the names seen so far, and then those of the second list put in front one after another
abbrev pub onto : List ℕ → List ℕ → List ℕ
onto seen [] = seen
onto seen (t ∷ ts) = onto (t ∷ seen) ts

-- the set of the names, put in one after another
abbrev pub set_from : List ℕ → ThreadSet
set_from ts = set_of (onto [] ts)
