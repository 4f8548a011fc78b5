-- Threads that hand batches over through a buffer.
use Rattle.std.specs.Prelude.{◌≡◌, ℕ, ◌+◌, ◌≤◌, Bool, true, List, [], ◌∷◌, ◌++◌, map, length, reverse, Option as Opt, Some, None}
use mathlib.Core.Option.{some}
use lib.ListN.{get_elem?}
use Rattle.larch_actions.specs.declared.event.Layout.{Layout}
use Rattle.nub_rule.specs.Known.{Known, Shape}
use Rattle.nub.specs.Ended.{IsFirst}
use Rattle.nub.specs.Idle.{IsIdle}
use Rattle.bounded_buffer.specs.declared.note.Note.{Note}
use Rattle.bounded_buffer.specs.Parts.{Used, unused}
use Rattle.bounded_buffer.specs.Plain.{part_of}
use Rattle.bounded_buffer.specs.Rings.{Held}
use Rattle.job_pool.specs.declared.item.Item.{Item}
use Rattle.job_pool.specs.Batches.{numbered, CameOf, IsPlaced}

-- there is a buffer
pub record HasBuffer (l : Layout) : Type 0 where
  pub mutexes : 1 ≤ l.mutexes
  pub conditions : 2 ≤ l.conditions

abbrev pub Worker : Type 0 → Type 0
Worker T = Known (Held (Item T)) (List (Note (Item T))) (Unit {0})

module _ {T : Type 0} where
  -- what a share says of the buffer
  abbrev pub part_in : Opt (List (Note (Item T))) → Used (Item T)
  part_in None = unused
  part_in (Some s) = part_of s 0

  -- what the thread put, the last first; what it took, the last first; and whether it saw the
  -- buffer shut and empty
  abbrev pub puts_of : Worker T → List (Item T)
  puts_of t = map (λ p. p.1) (part_in t.share).puts

  abbrev pub takes_of : Worker T → List (Item T)
  takes_of t = map (λ p. p.1) (part_in t.share).takes

  abbrev pub has_seen_end : Worker T → Bool
  has_seen_end t = (part_in t.share).seen_end

  -- the same of all threads
  abbrev pub all_puts_of : List (Worker T) → List (Item T)
  all_puts_of [] = []
  all_puts_of (t ∷ ts) = puts_of t ++ all_puts_of ts

  abbrev pub all_takes_of : List (Worker T) → List (Item T)
  all_takes_of [] = []
  all_takes_of (t ∷ ts) = takes_of t ++ all_takes_of ts

  -- the thread n of the package is between two calls
  pub record IsBetween (p : Shape (Unit {0})) (n : ℕ) (t : Worker T) : Type 0 where
    pub share : List (Note (Item T))
    pub idle : IsIdle p n share t

  -- the thread was between two calls and is again; meanwhile it put and took these items, the last
  -- first
  pub record HasMoved (p : Shape (Unit {0})) (puts takes : List (Item T)) (a b : Worker T) : Type 0 where
    pub between : (n : ℕ) → IsBetween p n a → IsBetween p n b
    pub puts_are : puts_of b ≡ puts ++ puts_of a
    pub takes_are : takes_of b ≡ takes ++ takes_of a

  -- the threads are those from n on, each between two calls
  abbrev pub AreBetween : Shape (Unit {0}) → ℕ → List (Worker T) → Type 0
  AreBetween p n [] = Unit {0}
  AreBetween p n (t ∷ ts) = IsBetween p n t × AreBetween p (n + 1) ts

  -- the threads are those from n on, and have done nothing
  abbrev pub AreFirst : Shape (Unit {0}) → ℕ → List (Worker T) → Type 0
  AreFirst p n [] = Unit {0}
  AreFirst p n (t ∷ ts) = IsFirst p (λ w t. []) n t × AreFirst p (n + 1) ts

  -- a thread that has done nothing, and an empty list with room for all that it may take
  pub record CanWork (p : Shape (Unit {0})) (t : Worker T) (list : List (Item T)) (capacity room : ℕ) : Type 0 where
    pub named : HasBuffer p.layout
    pub first : IsFirst p (λ w t. []) t.number t
    pub empty : list ≡ []
    pub wide : room ≤ capacity

module _ {T : Type 0} (goes : T → T → Type 0) where
  -- the thread n put nothing, and the list has what came of all that it took
  pub record HasWorked (p : Shape (Unit {0})) (n : ℕ) (list : List (Item T)) (t : Worker T) : Type 0 where
    pub between : IsBetween p n t
    pub no_puts : puts_of t ≡ []
    pub came : CameOf goes (takes_of t) list

  -- all batches were put by the first thread, which saw the end, and the places has what came of all
  -- that was taken
  pub record WasShared (p : Shape (Unit {0})) (many : ℕ) (batches : List T) (threads : List (Worker T)) (places : List (Opt T)) : Type 0 where
    pub count : length threads ≡ many
    pub between : AreBetween p 0 threads
    pub puts_are : all_puts_of threads ≡ reverse (numbered 0 batches)
    pub caller : Worker T
    pub is_caller : get_elem? threads 0 ≡ some caller
    pub saw_end : has_seen_end caller ≡ true
    pub placed : IsPlaced goes (all_takes_of threads) places
    pub wide : length places ≡ length batches
