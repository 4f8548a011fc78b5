-- Which threads the lines of a script fork, each with all that are forked below it.
use Rattle.std.specs.Prelude.{ℕ, Bool, true, false, cond, eqb, List, [], ◌∷◌, ◌++◌}
use Rattle.std.specs.List.{filter}
use Rattle.script_text.specs.declared.line.Line.{Line}
use Rattle.script_text.specs.declared.table.Fate.{Fate}
use Rattle.script_text.specs.declared.table.Fate.TheVariants.{Begins, Awaits, Nothing}
use Rattle.script_text.specs.Table.{fate_of}

-- if the line forks a thread, that thread comes before the rest, and after all that are forked
-- below it
abbrev pub with_child : Fate → (ℕ → List ℕ) → List ℕ → List ℕ
with_child (Begins u) below rest = (below u.0 ++ u.0 ∷ []) ++ rest
with_child (Awaits u) below rest = rest
with_child Nothing below rest = rest

-- the threads that these lines fork below the thread t, in the order of their forks, each after all
-- that are forked below it
abbrev pub below : List Line → ℕ → List ℕ
below [] t = []
below (x ∷ xs) t = cond (eqb x.thread.0 t) (with_child (fate_of x.operation) (below xs) (below xs t)) (below xs t)

-- and t after them
abbrev pub region : List Line → ℕ → List ℕ
region xs t = below xs t ++ t ∷ []

abbrev pub begins : Fate → Bool
begins (Begins u) = true
begins (Awaits u) = false
begins Nothing = false

-- the lines that fork threads
abbrev pub forking : List Line → List Line
forking xs = filter (λ x. begins (fate_of x.operation)) xs
