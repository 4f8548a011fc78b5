-- The threads of a run of version two, put into their places at the start and taken out of them at
-- the end.
use Rattle.std.specs.Prelude.{◌≡◌, ℕ, ◌+◌, cond, eqb, true, List, [], ◌∷◌, ◌++◌, map, length}
use Rattle.nub_rule.specs.Forks.{with_number}
use Rattle.script_run.specs.declared.slots.Slot.{Slot}
use Rattle.script_run.specs.declared.slots.Slot.TheVariants as slot
use Rattle.script_run.specs.Playing.{Player}

-- how often the number is in the list
abbrev pub occurs : ℕ → List ℕ → ℕ
occurs n [] = 0
occurs n (x ∷ xs) = cond (eqb x n) (occurs n xs + 1) (occurs n xs)

abbrev pub numbers_of : List Player → List ℕ
numbers_of ks = map (λ k. k.number) ks

abbrev pub unborn_slots : List Player → List Slot
unborn_slots ks = map (λ k. slot.Unborn k) ks

abbrev pub ended_slots : List Player → List Slot
ended_slots ks = map (λ k. slot.Ended k) ks

-- some of these rights were put into slots, in this order, and the others were left
pub record AreTaken (rights : List Player) (order : List ℕ) (slots : List Slot) (others : List Player) : Type 0 where
  pub taken : List Player
  pub are : slots ≡ unborn_slots taken
  pub numbers : numbers_of taken ≡ order
  pub same : (n : ℕ) → with_number n (taken ++ others) ≡ with_number n rights

-- and the first thread comes after them
pub record ArePlaced (first : Player) (rights : List Player) (order : List ℕ) (slots : List Slot) (others : List Player) : Type 0 where
  pub prefix : List Slot
  pub taken : AreTaken rights order prefix others
  pub numbers : List ℕ
  pub size : length numbers ≡ 64
  pub are : slots ≡ prefix ++ slot.Live (record { me = first; numbers = numbers }) 0 true ∷ []
