-- What a thread has done at two buffers, and what is left of the first.
use Rattle.std.specs.Prelude.{◌≡◌, ◌⊎◌, ℕ, ◌+◌, ◌*◌, ◌%◌, ◌^◌, ◌<◌, ◌≤◌, true, false, List, [], ◌∷◌, length}
use Rattle.std.specs.List.{sum, sum_by, range_with_len}
use Rattle.larch_actions.specs.declared.event.Layout.{Layout}
use Rattle.nub_rule.specs.Known.{Known, Shape}
use Rattle.bounded_buffer.specs.declared.note.Note.{Note}
use Rattle.bounded_buffer.specs.Parts.{Used}
use Rattle.bounded_buffer.specs.Rings.{Held}
use Rattle.bounded_buffer.specs.Using.{HasUsed}

abbrev pub Passer : Type 0
Passer = Known (Held ℕ) (List (Note ℕ)) (Unit {0})

-- there are two buffers
pub record HasBuffers (l : Layout) : Type 0 where
  pub mutexes : 2 ≤ l.mutexes
  pub conditions : 4 ≤ l.conditions

-- what a thread has done at the buffer of numbers, and at that of the ends of makers
pub record Both : Type 0 where
  pub numbers : Used ℕ
  pub ends : Used ℕ

-- the thread n of the package is between two calls, and has done this, not counting waits
abbrev pub HasDone : Shape (Unit {0}) → ℕ → Both → Passer → Type 0
HasDone p n x t = HasUsed p n (x.numbers ∷ x.ends ∷ []) t

-- the items of pairs of number and item, added up
abbrev pub items_sum : List (ℕ × ℕ) → ℕ
items_sum ps = sum_by (λ p. p.1) ps

-- `count` numbers from `first` on, added up
abbrev pub numbers_sum : ℕ → ℕ → ℕ
numbers_sum first count = sum (range_with_len first count)

-- the items of the pairs are as many as these numbers, and add up to as much
pub record IsRow (first many : ℕ) (ps : List (ℕ × ℕ)) : Type 0 where
  pub sum : items_sum ps ≡ numbers_sum first many
  pub count : length ps ≡ many

-- a maker saw a buffer shut before it could report its end
pub record WasRefused (x : Both) : Type 0 where
  pub recorded : x.ends.puts ≡ []
  pub seen : (x.numbers.seen_shut ≡ true) ⊎ (x.ends.seen_shut ≡ true)

-- a taker has put nothing, and has seen the buffer of numbers shut and empty
pub record IsTaker (x : Both) : Type 0 where
  pub puts : x.numbers.puts ≡ []
  pub recorded : x.ends.puts ≡ []
  pub end : x.numbers.seen_end ≡ true

-- the thread n has done its part, with this sum, modulo 2^64, of what it has taken: each of the
-- first threads has put a row of numbers and reported its end once, and the last of them to do so
-- may have shut the buffer of numbers; the others take
pub record HasEnded (makers times n summed : ℕ) (x : Both) : Type 0 where
  pub sum : summed ≡ items_sum x.numbers.takes % 2 ^ 64
  pub opened : x.ends.shut ≡ false
  pub once : length x.ends.puts ≤ 1
  pub last : x.numbers.shut ≡ true → (place : ℕ) × (x.ends.puts ≡ (place, n) ∷ []) × (place + 1 ≡ makers)
  pub makes : n < makers → IsRow (n * times) times x.numbers.puts ⊎ WasRefused x
  pub takes : makers ≤ n → IsTaker x

-- the thread n of the package has done its part
abbrev pub HasPassed : Shape (Unit {0}) → ℕ → ℕ → ℕ → ℕ → Passer → Type 0
HasPassed p makers times n summed t = (x : Both) × HasDone p n x t × HasEnded makers times n summed x

-- the ring is shut and empty, and `count` items were taken from it
pub record IsOver (count : ℕ) (q : Held ℕ) : Type 0 where
  pub taken : q.taken ≡ count
  pub empty : q.items ≡ []
  pub shut : q.shut ≡ true
