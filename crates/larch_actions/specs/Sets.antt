-- Sets of threads.
use Rattle.std.specs.Prelude.{◌-◌, ◌*◌, ◌/◌, ◌^◌, min, ℕ, Bool, true, false, cond, eqb, List, [], ◌∷◌, get_or, set}
use Rattle.std.specs.Int.{bit_at}
use Rattle.std.specs.Int.Bits.{bit_or}
use Rattle.larch_actions.specs.declared.thread_set.ThreadSet.{ThreadSet}

-- in which word the bit of the thread t stands, and where in it
abbrev pub word_of : ℕ → ℕ
word_of t = min (t / 64) 3

abbrev pub bit_of : ℕ → ℕ
bit_of t = t - 64 * word_of t

-- the thread t is in the set
abbrev pub in_set : ThreadSet → ℕ → Bool
in_set s t = eqb (bit_at (get_or s.words (word_of t) 0) (bit_of t)) 1

abbrev pub words_of : List ℕ → List ℕ
words_of [] = 0 ∷ 0 ∷ 0 ∷ 0 ∷ []
words_of (x ∷ xs) = set (words_of xs) (word_of x) (bit_or (2 ^ bit_of x) (get_or (words_of xs) (word_of x) 0))

-- the set of the threads of the list
abbrev pub set_of : List ℕ → ThreadSet
set_of xs = record { words = words_of xs }

-- t is in the list
abbrev pub mem : ℕ → List ℕ → Bool
mem t [] = false
mem t (x ∷ xs) = cond (eqb x t) true (mem t xs)

-- the list without t
abbrev pub without : ℕ → List ℕ → List ℕ
without t [] = []
without t (x ∷ xs) = cond (eqb x t) (without t xs) (x ∷ without t xs)
