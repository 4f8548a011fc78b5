-- What is kept of a row.
use Rattle.std.specs.Prelude.{◌≡◌, ◌⊎◌, ℕ, List, [], ◌∷◌, ◌++◌, Bool, true, false}
use Rattle.word_index.specs.Index.{Hit}
use Rattle.index_table.specs.Rows.{Drafted, IsAmong}

-- the hit is kept, or its row isn't wanted, and where every path is wanted its own is among those kept
abbrev pub KeepsHit : Bool → Bool → Drafted → Hit → Drafted → Type 0
KeepsHit wanted every_path old hit new =
    (new ≡ record old { hits = old.hits ++ hit ∷ [] })
    ⊎ ((wanted ≡ false) × (every_path ≡ true → IsAmong old hit.path) × (new ≡ old))

-- the row is kept, or it isn't wanted and no hit of it is kept
abbrev pub KeepsRow : Bool → Drafted → List ℕ → Drafted → Type 0
KeepsRow wanted old word new =
    (new ≡ record { rows = old.rows ++ record { word = word; hits = old.hits } ∷ []; hits = []; skipped = old.skipped })
    ⊎ ((wanted ≡ false) × (old.hits ≡ []) × (new ≡ old))
