-- Workers with their lists.
use Rattle.std.specs.Prelude.{◌≡◌, ℕ, ◌+◌, List, [], ◌∷◌, vec_capacity, Option as Opt}
use Rattle.std.proofs.Common.{Vec, Global}
use Rattle.nub_rule.specs.Known.{Shape}
use Rattle.job_pool.specs.declared.item.Item.{Item}
use Rattle.job_pool.specs.Batches.{filled}
use Rattle.job_pool.specs.Working.{Worker, CanWork}

-- a worker may work with its list
abbrev pub IsReady : {T : Type 0} → Shape (Unit {0}) → ℕ → Worker T × Vec (Item T) Global → Type 0
IsReady p room w = CanWork p w.0 w.1.items (vec_capacity w.1) room

-- the workers have the numbers from n on, and each may work
abbrev pub AreReady : {T : Type 0} → Shape (Unit {0}) → ℕ → ℕ → List (Worker T × Vec (Item T) Global) → Type 0
AreReady p room n [] = Unit {0}
AreReady p room n (w ∷ ws) = (w.0.number ≡ n) × IsReady p room w × AreReady p room (n + 1) ws

-- the places after all that the workers worked on was put at its place
abbrev pub filled_by : {T : Type 0} → List (Worker T × Vec (Item T) Global) → List (Opt T) → List (Opt T)
filled_by [] places = places
filled_by (w ∷ ws) places = filled_by ws (filled w.1.items places)
