-- Batches of work on their way through a buffer and back to their places.
use Rattle.std.specs.Prelude.{◌≡◌, ◌⊎◌, ℕ, ◌+◌, ◌<◌, List, [], ◌∷◌, length, slice_index_or, slice_set, Option as Opt, Some, None}
use Rattle.std.specs.List.{Contains}
use Rattle.job_pool.specs.declared.item.Item.{Item}

-- the batches with their places, from k on
abbrev pub numbered : {T : Type 0} → ℕ → List T → List (Item T)
numbered k [] = []
numbered k (x ∷ xs) = record { place = k; batch = x } ∷ numbered (k + 1) xs

-- the places after each of these items was put at its place
abbrev pub filled : {T : Type 0} → List (Item T) → List (Opt T) → List (Opt T)
filled [] places = places
filled (i ∷ is) places = filled is (slice_set places i.place (Some i.batch))

module _ {T : Type 0} (goes : T → T → Type 0) where
  -- the batch is as it was, or was worked on once
  abbrev pub Comes : T → T → Type 0
  Comes a b = (b ≡ a) ⊎ goes a b

  -- the list has what came of these items, and nothing else
  pub record CameOf (got list : List (Item T)) : Type 0 where
    pub all : (i : Item T) → Contains got i → (j : Item T) × Contains list j × (j.place ≡ i.place)
    pub only : (j : Item T) → Contains list j → (i : Item T) × Contains got i × (j.place ≡ i.place) × Comes i.batch j.batch

  -- the places has, at their places, what came of these items, and nothing else
  pub record IsPlaced (got : List (Item T)) (places : List (Opt T)) : Type 0 where
    pub all : (i : Item T) → Contains got i → i.place < length places → (w : T) × (slice_index_or places i.place None ≡ Some w)
    pub only : (k : ℕ) (w : T) → slice_index_or places k None ≡ Some w → (i : Item T) × Contains got i × (i.place ≡ k) × Comes i.batch w
