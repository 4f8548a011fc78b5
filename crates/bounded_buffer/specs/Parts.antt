-- What a thread has done at one buffer, as its share says.
use Rattle.std.specs.Prelude.{◌≡◌, ◌≢◌, ◌⊎◌, ℕ, ◌+◌, ◌<◌, Bool, true, false, List, [], ◌∷◌}
use Rattle.std.specs.List.{All}
use Rattle.bounded_buffer.specs.declared.did.Did.{Did}
use Rattle.bounded_buffer.specs.declared.did.Did.TheVariants.{Put, Took, Shut, SawShut, SawEnd, WaitedFull, WaitedEmpty}
use Rattle.bounded_buffer.specs.Rings.{Held, Does, put_count}

-- the pairs of number and item put and taken, the last first; whether the thread shut the ring, saw
-- it shut, and saw it shut and empty; how often it waited at a full open ring, and at an empty open
-- one
pub record Used (T : Type 0) : Type 0 where
  pub puts : List (ℕ × T)
  pub takes : List (ℕ × T)
  pub shut : Bool
  pub seen_shut : Bool
  pub seen_end : Bool
  pub full_waits : ℕ
  pub empty_waits : ℕ

module _ {T : Type 0} where
  abbrev pub unused : Used T
  unused = record { puts = []; takes = []; shut = false; seen_shut = false; seen_end = false; full_waits = 0; empty_waits = 0 }

  abbrev pub more_full : ℕ → Used T → Used T
  more_full k u = record u { full_waits = u.full_waits + k }

  abbrev pub more_empty : ℕ → Used T → Used T
  more_empty k u = record u { empty_waits = u.empty_waits + k }

  abbrev pub did : Did T → Used T → Used T
  did (Put n i) u = record u { puts = (n, i) ∷ u.puts }
  did (Took n i) u = record u { takes = (n, i) ∷ u.takes }
  did Shut u = record u { shut = true }
  did SawShut u = record u { seen_shut = true }
  did SawEnd u = record u { seen_end = true }
  did WaitedFull u = more_full 1 u
  did WaitedEmpty u = more_empty 1 u

  -- what a put may do: put an item that the thread may put, be refused, or wait
  abbrev pub IsOfPut : (T → Type 0) → Did T → Type 0
  IsOfPut may (Put n i) = may i
  IsOfPut may SawShut = Unit {0}
  IsOfPut may WaitedFull = Unit {0}
  IsOfPut may _ = ⊥

  -- what a take may do: take, be refused, or wait
  abbrev pub IsOfTake : Did T → Type 0
  IsOfTake (Took n i) = Unit {0}
  IsOfTake SawEnd = Unit {0}
  IsOfTake WaitedEmpty = Unit {0}
  IsOfTake _ = ⊥

  abbrev pub IsWait : Did T → Type 0
  IsWait WaitedFull = Unit {0}
  IsWait WaitedEmpty = Unit {0}
  IsWait _ = ⊥

  -- the thread shut the ring, or saw it shut
  abbrev pub KnowsShut : Used T → Type 0
  KnowsShut u = (u.shut ≡ true) ⊎ (u.seen_shut ≡ true) ⊎ (u.seen_end ≡ true)

  -- the numbers of what the thread put and took are below those of the next put and the next take;
  -- if it knows the ring to be shut, the ring is shut, and if it saw the ring shut and empty, the
  -- ring is empty
  pub record IsWithin (u : Used T) (q : Held T) : Type 0 where
    pub puts : All (λ p. p.0 < put_count q) u.puts
    pub takes : All (λ p. p.0 < q.taken) u.takes
    pub shut : KnowsShut u → q.shut ≡ true
    pub end : u.seen_end ≡ true → q.items ≡ []

  -- from a to b the number of waits grows by one, for a wait at the ring q, which is released
  -- unchanged as p, or stays
  abbrev pub Waits : Did T → Held T → Held T → Bool → ℕ → ℕ → Type 0
  Waits d q p here a b = (b ≡ a) ⊎ ((here ≡ true) × Does d q p × (b ≡ a + 1))

module _ {T H : Type 0} (part : H → ℕ → Used T) where
  -- the share r is the share s after this was done at the buffer m
  pub record HasDone (m : ℕ) (d : Did T) (s r : H) : Type 0 where
    pub here : part r m ≡ did d (part s m)
    pub elsewhere : (k : ℕ) → k ≢ m → part r k ≡ part s k
