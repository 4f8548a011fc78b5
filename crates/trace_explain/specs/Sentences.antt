-- The forms of sentences.
use Rattle.std.specs.Prelude.{ℕ, List, ◌++◌, codes}
use Rattle.trace_board.specs.declared.history.Origin.{Origin}
use Rattle.trace_shapes.specs.Shapes.{with_number}

-- a kind, a number and words
unfoldable pub plain : List ℕ → ℕ → List ℕ → List ℕ
plain kind n words = with_number kind n ++ words ++ codes "\n"

-- what is so by a thread since an event
unfoldable pub since : List ℕ → ℕ → List ℕ → Origin → List ℕ
since kind n words o = with_number kind n ++ with_number words o.thread.0 ++ with_number (codes " since event ") o.place ++ codes "\n"

-- a thread that stands in a condition
unfoldable pub standing : ℕ → ℕ → List ℕ
standing t c = with_number (codes "t") t ++ with_number (codes " stands in c") c ++ codes "\n"

-- a thread that has ended
unfoldable pub ended : ℕ → Origin → List ℕ
ended t o = with_number (codes "t") t ++ with_number (codes " has ended since event ") o.place ++ codes "\n"
