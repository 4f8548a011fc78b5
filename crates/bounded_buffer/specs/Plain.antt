-- The rule of rings, one under each mutex, where a share is the list of all that its thread did.
use Rattle.std.specs.Prelude.{◌≡◌, ◌⊎◌, ℕ, ◌+◌, ◌*◌, ◌≤◌, Bool, true, false, ◌||◌, cond, eqb, List, [], ◌∷◌, ◌++◌, length, take, drop}
use Rattle.std.specs.List.{enumerate_from}
use Rattle.std.specs.List.Sorted.{IsPermutation}
use mathlib.Core.Option.{some}
use lib.ListN.{get_elem?}
use Rattle.bounded_buffer.specs.declared.at.BufferAt.{BufferAt}
use Rattle.bounded_buffer.specs.declared.did.Did.{Did}
use Rattle.bounded_buffer.specs.declared.did.Did.TheVariants.{Put, Took, SawShut, SawEnd, WaitedFull, WaitedEmpty}
use Rattle.bounded_buffer.specs.declared.note.Note.{Note}
use Rattle.bounded_buffer.specs.Parts.{Used, did, unused}
use Rattle.bounded_buffer.specs.Rings.{Held, Does, put_count}

-- the conditions of the buffer under the mutex m are 2 m for room and 2 m + 1 for more
pub record IsPlain (at : BufferAt) : Type 0 where
  pub room : at.room.0 ≡ 2 * at.mutex.0
  pub more : at.more.0 ≡ 2 * at.mutex.0 + 1

module _ {T : Type 0} where
  abbrev pub note : ℕ → Did T → Note T
  note m d = record { mutex = m; did = d }

  -- what a share says of the buffer under the mutex m
  abbrev pub part_of : List (Note T) → ℕ → Used T
  part_of [] m = unused
  part_of (n ∷ s) m = cond (eqb n.mutex m) (did n.did (part_of s m)) (part_of s m)

  -- the pairs of all shares one after the other
  abbrev pub pairs_of : (Used T → List (ℕ × T)) → ℕ → List (List (Note T)) → List (ℕ × T)
  pairs_of f m [] = []
  pairs_of f m (s ∷ shares) = f (part_of s m) ++ pairs_of f m shares

  abbrev pub all_puts : ℕ → List (List (Note T)) → List (ℕ × T)
  all_puts = pairs_of (λ u. u.puts)

  abbrev pub all_takes : ℕ → List (List (Note T)) → List (ℕ × T)
  all_takes = pairs_of (λ u. u.takes)

  -- some share says that its thread shut the ring
  abbrev pub any_shut : ℕ → List (List (Note T)) → Bool
  any_shut m [] = false
  any_shut m (s ∷ shares) = (part_of s m).shut || any_shut m shares

  -- the mutex m protects the ring q: `log` are the items ever put there, in order of puts
  pub record BufferRule (m : ℕ) (q : Held T) (shares : List (List (Note T))) : Type 0 where
    pub log : List T
    -- each was put once, under its place in the log
    pub puts : IsPermutation (all_puts m shares) (enumerate_from 0 log)
    -- the first of them were taken, each once and under its place in the log
    pub takes : IsPermutation (all_takes m shares) (enumerate_from 0 (take q.taken log))
    pub taken : q.taken ≤ length log
    -- and the others are in the ring, in this order
    pub left : q.items ≡ drop q.taken log
    pub room : length q.items ≤ q.capacity
    pub shut : q.shut ≡ any_shut m shares
    pub seen_shut : (t : ℕ) (s : List (Note T)) → get_elem? shares t ≡ some s → (part_of s m).seen_shut ≡ true → q.shut ≡ true
    pub seen_end : (t : ℕ) (s : List (Note T)) → get_elem? shares t ≡ some s → (part_of s m).seen_end ≡ true → (q.shut ≡ true)
        × (q.items ≡ []) × (q.taken ≡ length log)

  -- the rule of each buffer
  abbrev pub Keeps : List (Held T) → List (List (Note T)) → Type 0
  Keeps values shares = (m : ℕ) (q : Held T) → get_elem? values m ≡ some q → BufferRule m q shares

  -- the ring and the share stay, or the thread did something at the ring and its share has a note of that
  abbrev pub Allowed : ℕ → Held T → Held T → List (Note T) → List (Note T) → Type 0
  Allowed m x y s r = ((y ≡ x) × (r ≡ s)) ⊎ ((d : Did T) × Does d x y × (r ≡ note m d ∷ s))

  abbrev pub is_wait : Did T → Bool
  is_wait WaitedFull = true
  is_wait WaitedEmpty = true
  is_wait _ = false

  -- the share without its waits
  abbrev pub kept : List (Note T) → List (Note T)
  kept [] = []
  kept (n ∷ s) = cond (is_wait n.did) (kept s) (n ∷ kept s)

  abbrev pub put_by : Held T → List T → Did T
  put_by x [] = cond x.shut SawShut WaitedFull
  put_by x (i ∷ rest) = Put (put_count x) i

  abbrev pub take_by : Held T → List T → Did T
  take_by x [] = cond x.shut SawEnd WaitedEmpty
  take_by x (i ∷ rest) = Took x.taken i

  -- what a put did, by the ring before and after
  abbrev pub put_did : Held T → Held T → Did T
  put_did x y = put_by x (drop (length x.items) y.items)

  -- what a take did, by the ring before
  abbrev pub take_did : Held T → Did T
  take_did x = take_by x x.items
