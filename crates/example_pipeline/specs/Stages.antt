-- What each thread of the pipeline has done when it has ended, and what the package has then.
use Rattle.std.specs.Prelude.{◌≡◌, ◌⊎◌, ℕ, ◌*◌, ◌%◌, ◌^◌, ◌≤◌, true, false, List, [], ◌∷◌, map, Some}
use Rattle.std.proofs.Common.{zero, suc}
use Rattle.std.specs.List.{range_with_len}
use Rattle.larch_actions.specs.declared.event.Layout.{Layout}
use Rattle.nub_rule.specs.Known.{Known, Shape}
use Rattle.bounded_buffer.specs.declared.note.Note.{Note}
use Rattle.bounded_buffer.specs.Parts.{Used, unused}
use Rattle.bounded_buffer.specs.Plain.{part_of}
use Rattle.bounded_buffer.specs.Rings.{Held}
use Rattle.bounded_buffer.specs.Using.{Falls, HasUsed, items_of}
use Rattle.example_pipeline.specs.declared.stages.Came.{Came}

abbrev pub Worker : Type 0
Worker = Known (Held ℕ) (List (Note ℕ)) (Unit {0})

-- there are two buffers
pub record HasBuffers (l : Layout) : Type 0 where
  pub mutexes : 2 ≤ l.mutexes
  pub conditions : 4 ≤ l.conditions

-- the square, modulo 2^64
abbrev pub squared : ℕ → ℕ
squared n = (n * n) % 2 ^ 64

abbrev pub numbers : ℕ → List ℕ
numbers count = range_with_len 0 count

abbrev pub squares : ℕ → List ℕ
squares count = map squared (range_with_len 0 count)

-- the numbers below count were put into the first buffer, which was shut; or this thread saw it
-- shut by another
pub record IsMade (count : ℕ) (a b : Used ℕ) : Type 0 where
  pub takes : a.takes ≡ []
  pub others : b ≡ unused
  pub ends : ((items_of a.puts ≡ numbers count) × (a.shut ≡ true)) ⊎ ((a.shut ≡ false) × (a.seen_shut ≡ true))

-- all was taken from the first buffer and its squares were put into the second, which was shut; or
-- this thread saw it shut by another
pub record IsWorked (a b : Used ℕ) : Type 0 where
  pub puts : a.puts ≡ []
  pub opened : a.shut ≡ false
  pub takes : b.takes ≡ []
  pub ends : ((a.seen_end ≡ true) × (items_of b.puts ≡ map squared (items_of a.takes)) × (b.shut ≡ true))
      ⊎ ((b.shut ≡ false) × (b.seen_shut ≡ true))

-- all was taken from the second buffer, and this is what came
pub record IsTaken (came : Came) (a b : Used ℕ) : Type 0 where
  pub none : a ≡ unused
  pub puts : b.puts ≡ []
  pub opened : b.shut ≡ false
  pub end : b.seen_end ≡ true
  pub kept : came.lost ≡ false → came.items.items ≡ items_of b.takes

-- what the thread n has done in the end
abbrev pub IsStage : ℕ → Came → ℕ → Used ℕ → Used ℕ → Type 0
IsStage count came zero a b = IsMade count a b
IsStage count came (suc zero) a b = IsWorked a b
IsStage count came (suc (suc n)) a b = IsTaken came a b

-- the thread n of the package is between two calls and has done all of this at the two buffers
pub record HasEnded (ends : Used ℕ → Used ℕ → Type 0) (p : Shape (Unit {0})) (n : ℕ) (t : Worker) : Type 0 where
  pub first : Used ℕ
  pub second : Used ℕ
  pub used : HasUsed p n (first ∷ second ∷ []) t
  pub stage : ends first second

-- the pairs, with the last one first, have these items in order, under rising numbers
pub record InOrder (pairs : List (ℕ × ℕ)) (items : List ℕ) : Type 0 where
  pub rises : Falls pairs
  pub are : items_of pairs ≡ items

-- thread 0 put the numbers below count into the first buffer, thread 1 took these and put their
-- squares into the second, and thread 2 took those, all in order
abbrev pub Passed : ℕ → ℕ → Used ℕ → Used ℕ → Type 0
Passed count zero a b = InOrder a.puts (numbers count)
Passed count (suc zero) a b = InOrder a.takes (numbers count) × InOrder b.puts (squares count)
Passed count (suc (suc n)) a b = InOrder b.takes (squares count)

pub record HasPassed (count : ℕ) (n : ℕ) (t : Worker) : Type 0 where
  pub share : List (Note ℕ)
  pub is_share : t.share ≡ Some share
  pub passed : Passed count n (part_of share 0) (part_of share 1)

-- all these items were taken from the ring, which is shut and empty
pub record IsOver (count : ℕ) (m : ℕ) (q : Held ℕ) : Type 0 where
  pub taken : q.taken ≡ count
  pub empty : q.items ≡ []
  pub shut : q.shut ≡ true
