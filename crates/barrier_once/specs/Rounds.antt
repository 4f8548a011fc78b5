-- The rule of the barrier, the sum and the once cell.
use Rattle.std.specs.Prelude.{◌≡◌, ◌⊎◌, ℕ, ◌+◌, ◌*◌, ◌/◌, ◌<◌, ◌≤◌, cond, eqb, List, [], ◌∷◌, length, Option as Opt, Some, None}
use mathlib.Core.Option.{some}
use lib.ListN.{get_elem?}
use Rattle.nub_rule.specs.Items.{Each}
use Rattle.barrier_once.specs.declared.cell.Cell.{Cell}
use Rattle.barrier_once.specs.declared.cell.Cell.TheVariants.{Bar, Sum, Once}
use Rattle.barrier_once.specs.declared.share.RoundShare.{RoundShare}
use Rattle.barrier_once.specs.declared.share.RoundWorld.{RoundWorld}
use Rattle.barrier_once.specs.Cells.{round_of, arrived_of, sum_of, once_of}

-- the share of a thread that has done nothing yet
abbrev pub fresh_share : RoundShare
fresh_share = record { arrivals = 0; left = 0; added = 0; agreed = None; offered = None }

-- 1 + 2 + .. + n
abbrev pub triangle : ℕ → ℕ
triangle n = n * (n + 1) / 2

-- how many shares have n arrivals
abbrev pub with_arrivals : ℕ → List RoundShare → ℕ
with_arrivals n [] = 0
with_arrivals n (s ∷ shares) = cond (eqb s.arrivals n) 1 0 + with_arrivals n shares

-- what all shares have added
abbrev pub added_by : List RoundShare → ℕ
added_by [] = 0
added_by (s ∷ shares) = s.added + added_by shares

-- the thread t is in the round or has arrived in it; it has added its number and 1 once for each
-- two arrivals, before the first of them
pub record IsParty (round t : ℕ) (s : RoundShare) : Type 0 where
  pub arrivals : (s.arrivals ≡ round) ⊎ (s.arrivals ≡ round + 1)
  pub few : s.arrivals ≤ 2000
  pub left : s.left ≤ round
  pub leaves : (s.left ≡ s.arrivals) ⊎ (s.left + 1 ≡ s.arrivals)
  pub odd : (j : ℕ) → s.arrivals ≡ 2 * j + 1 → s.added ≡ (j + 1) * (t + 1)
  pub even : (j : ℕ) → s.arrivals ≡ 2 * j → (s.added ≡ j * (t + 1)) ⊎ ((s.left ≡ 2 * j) × (s.added ≡ (j + 1) * (t + 1)))

-- this thread has offered the value v, and no other thread has offered any
pub record IsOffered (shares : List RoundShare) (v : ℕ) : Type 0 where
  pub thread : ℕ
  pub share : RoundShare
  pub is_share : get_elem? shares thread ≡ some share
  pub offered : share.offered ≡ Some v
  pub alone : Each (λ t s. (u : ℕ) → s.offered ≡ Some u → t ≡ thread) shares

-- Each agreed value is the one in the cell, which is 1 to the greatest value. One thread has offered it, and nobody has offered one while the
-- cell is empty.
pub record AreAgreed (most : ℕ) (value : Opt ℕ) (shares : List RoundShare) : Type 0 where
  pub same : Each (λ t s. (v : ℕ) → s.agreed ≡ Some v → value ≡ Some v) shares
  pub within : (v : ℕ) → value ≡ Some v → (1 ≤ v) × (v ≤ most)
  pub none : value ≡ None → Each (λ t s. s.offered ≡ None) shares
  pub origin : (v : ℕ) → value ≡ Some v → IsOffered shares v

-- the rule of the barrier, the sum and the once cell, where all threads are parties
pub record AreRounds (w : RoundWorld) (values : List Cell) (shares : List RoundShare) : Type 0 where
  pub round : ℕ
  pub arrived : ℕ
  pub value : Opt ℕ
  pub parties : length shares ≡ w.parties
  pub few : w.parties ≤ 64
  pub bar : get_elem? values w.at.bar.0 ≡ some (Bar round arrived)
  pub sum : get_elem? values w.at.sum.0 ≡ some (Sum (added_by shares))
  pub once : get_elem? values w.at.once.0 ≡ some (Once value)
  pub each : Each (IsParty round) shares
  pub count : arrived ≡ with_arrivals (round + 1) shares
  pub below : arrived < w.parties
  pub agreed : AreAgreed w.most value shares

-- what the holder of the bar knows of it and of its own share
pub record KnowsBar (w : RoundWorld) (x : Cell) (s : RoundShare) : Type 0 where
  pub is : x ≡ Bar (round_of x) (arrived_of x)
  pub arrivals : (s.arrivals ≡ round_of x) ⊎ (s.arrivals ≡ round_of x + 1)
  pub few : s.arrivals ≤ 2000
  pub left : s.left ≤ round_of x
  pub below : arrived_of x < w.parties
  pub parties : w.parties ≤ 64

-- what the holder of the sum knows of it and of its own share
pub record KnowsSum (w : RoundWorld) (x : Cell) (s : RoundShare) : Type 0 where
  pub is : x ≡ Sum (sum_of x)
  pub small : sum_of x ≤ 4200000
  pub total : (j : ℕ) → s.arrivals ≡ 2 * j + 1 → s.left ≡ s.arrivals → sum_of x ≡ (j + 1) * triangle w.parties

-- what the holder of the once cell knows of it and of its own share
pub record KnowsOnce (w : RoundWorld) (x : Cell) (s : RoundShare) : Type 0 where
  pub is : x ≡ Once (once_of x)
  pub same : (v : ℕ) → s.agreed ≡ Some v → once_of x ≡ Some v
  pub offered : (v : ℕ) → s.offered ≡ Some v → once_of x ≡ Some v
  pub within : (v : ℕ) → once_of x ≡ Some v → (1 ≤ v) × (v ≤ w.most)

-- what the holder of the mutex m knows
pub record IsKnown (w : RoundWorld) (m : ℕ) (x : Cell) (t : ℕ) (s : RoundShare) : Type 0 where
  pub bar : m ≡ w.at.bar.0 → KnowsBar w x s
  pub sum : m ≡ w.at.sum.0 → KnowsSum w x s
  pub once : m ≡ w.at.once.0 → KnowsOnce w x s

-- the thread t may arrive: it has left as often as it has arrived, and before each second arrival
-- it has added its number and 1
pub record MayArrive (t : ℕ) (s : RoundShare) : Type 0 where
  pub left : s.left ≡ s.arrivals
  pub few : s.arrivals < 2000
  pub even : (j : ℕ) → s.arrivals ≡ 2 * j → s.added ≡ (j + 1) * (t + 1)

-- the thread t may add: it has left as often as it has arrived, an even number, and has yet to add
-- in this round
pub record MayAdd (t : ℕ) (s : RoundShare) : Type 0 where
  pub pairs : ℕ
  pub left : s.left ≡ s.arrivals
  pub arrivals : s.arrivals ≡ 2 * pairs
  pub added : s.added ≡ pairs * (t + 1)

-- the share after its thread has arrived, and after it has left too
abbrev pub arrived_share : RoundShare → RoundShare
arrived_share s = record s { arrivals = s.arrivals + 1 }

abbrev pub passed_share : RoundShare → RoundShare
passed_share s = record s { arrivals = s.arrivals + 1; left = s.left + 1 }

-- the share after its thread t has added
abbrev pub added_share : ℕ → RoundShare → RoundShare
added_share t s = record s { added = s.added + (t + 1) }

-- what a thread has offered, where a cell had `found` and has `now`: the value now if the cell was empty, and else what it had offered before
abbrev pub offered_after : Opt ℕ → Opt ℕ → Opt ℕ → Opt ℕ
offered_after None now before = now
offered_after (Some v) now before = before

-- the share after its thread has agreed, where the once cell was x and is y
abbrev pub agreed_share : Cell → Cell → RoundShare → RoundShare
agreed_share x y s = record s { agreed = once_of y; offered = offered_after (once_of x) (once_of y) s.offered }

-- the thread arrives, and others are yet to come
pub record IsArrival (w : RoundWorld) (m t : ℕ) (x y : Cell) (s r : RoundShare) : Type 0 where
  pub mutex : m ≡ w.at.bar.0
  pub may : MayArrive t s
  pub round : s.arrivals ≡ round_of x
  pub more_come : arrived_of x + 1 < w.parties
  pub now : y ≡ Bar (round_of x) (arrived_of x + 1)
  pub share : r ≡ arrived_share s

-- the last thread arrives, and the next round begins
pub record IsLast (w : RoundWorld) (m t : ℕ) (x y : Cell) (s r : RoundShare) : Type 0 where
  pub mutex : m ≡ w.at.bar.0
  pub may : MayArrive t s
  pub round : s.arrivals ≡ round_of x
  pub all : arrived_of x + 1 ≡ w.parties
  pub now : y ≡ Bar (round_of x + 1) 0
  pub share : r ≡ passed_share s

-- the thread leaves, once the round in which it has arrived is over
pub record IsLeave (w : RoundWorld) (m : ℕ) (x y : Cell) (s r : RoundShare) : Type 0 where
  pub mutex : m ≡ w.at.bar.0
  pub following : s.left + 1 ≡ s.arrivals
  pub over : s.arrivals ≤ round_of x
  pub now : y ≡ x
  pub share : r ≡ record s { left = s.left + 1 }

-- the thread adds its number and 1
pub record IsAddition (w : RoundWorld) (m t : ℕ) (x y : Cell) (s r : RoundShare) : Type 0 where
  pub mutex : m ≡ w.at.sum.0
  pub may : MayAdd t s
  pub now : y ≡ Sum (sum_of x + (t + 1))
  pub share : r ≡ added_share t s

-- the thread agrees on the value in the cell, which stays if there is one; if there is none, the thread offers one
pub record IsAgreement (w : RoundWorld) (m : ℕ) (x y : Cell) (s r : RoundShare) : Type 0 where
  pub value : ℕ
  pub mutex : m ≡ w.at.once.0
  pub stays : (once_of x ≡ None) ⊎ (once_of x ≡ Some value)
  pub within : (1 ≤ value) × (value ≤ w.most)
  pub now : y ≡ Once (Some value)
  pub share : r ≡ agreed_share x y s

-- nothing changes, or it is one of these steps
abbrev pub Allowed : RoundWorld → ℕ → ℕ → Cell → Cell → RoundShare → RoundShare → Type 0
Allowed w m t x y s r =
    ((y ≡ x) × (r ≡ s)) ⊎ (IsArrival w m t x y s r ⊎ (IsLast w m t x y s r
    ⊎ (IsLeave w m x y s r ⊎ (IsAddition w m t x y s r ⊎ IsAgreement w m x y s r))))
