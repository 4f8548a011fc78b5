-- A ring of items, and what threads do to it.
use Rattle.std.specs.Prelude.{◌≡◌, ℕ, ◌+◌, ◌<◌, Bool, true, false, List, [], ◌∷◌, ◌++◌, length}
use Rattle.bounded_buffer.specs.declared.did.Did.{Did}
use Rattle.bounded_buffer.specs.declared.did.Did.TheVariants.{Put, Took, Shut, SawShut, SawEnd, WaitedFull, WaitedEmpty}

-- the items in the ring, how many were ever taken from it, how many it may have, and whether it is
-- shut
pub record Held (T : Type 0) : Type 0 where
  pub items : List T
  pub taken : ℕ
  pub capacity : ℕ
  pub shut : Bool

module _ {T : Type 0} where
  abbrev pub fresh : ℕ → Held T
  fresh capacity = record { items = []; taken = 0; capacity = capacity; shut = false }

  -- how many items were ever put
  abbrev pub put_count : Held T → ℕ
  put_count q = q.taken + length q.items

  abbrev pub with_last : Held T → T → Held T
  with_last q i = record q { items = q.items ++ i ∷ [] }

  abbrev pub without_first : Held T → List T → Held T
  without_first q rest = record q { items = rest; taken = q.taken + 1 }

  abbrev pub shut_now : Held T → Held T
  shut_now q = record q { shut = true }

  -- doing this turns the ring q into p
  abbrev pub Does : Did T → Held T → Held T → Type 0
  Does (Put n i) q p = (q.shut ≡ false) × (length q.items < q.capacity) × (n ≡ put_count q) × (p ≡ with_last q i)
  Does (Took n i) q p = (n ≡ q.taken) × (q.items ≡ i ∷ p.items) × (p ≡ without_first q p.items)
  Does Shut q p = p ≡ shut_now q
  Does SawShut q p = (q.shut ≡ true) × (p ≡ q)
  Does SawEnd q p = (q.shut ≡ true) × (q.items ≡ []) × (p ≡ q)
  Does WaitedFull q p = (q.shut ≡ false) × (length q.items ≡ q.capacity) × (p ≡ q)
  Does WaitedEmpty q p = (q.shut ≡ false) × (q.items ≡ []) × (p ≡ q)
