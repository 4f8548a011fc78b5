-- Bytes of which a prefix was sent and the rest is held.
use Rattle.std.specs.Prelude.{◌≡◌, ℕ, List, ◌++◌, Option, Result, MatchResult}
use Rattle.std.specs.Io.KnownBytes.{Appends}
use Rattle.firefly_outside.specs.Causes.{AppendsPrefix}

-- what was held and the piece are what is now sent and held
abbrev pub Sends : Option (List ℕ) → List ℕ → List ℕ → Option (List ℕ) → List ℕ → Type 0
Sends reported held piece reported' held' = (sent : List ℕ) × Appends reported reported' sent × (sent ++ held' ≡ held ++ piece)

-- the whole piece was sent or held, or a prefix of what was held and the piece was sent
abbrev pub Puts : {E : Type 0} → Option (List ℕ) → List ℕ → List ℕ → Result (Unit {0}) E → Option (List ℕ) → List ℕ → Type 0
Puts reported held piece result reported' held' =
    MatchResult result (λ _. Sends reported held piece reported' held') (λ _. AppendsPrefix reported reported' (held ++ piece))
