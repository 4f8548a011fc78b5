-- The lines of a cycle, or of none.
use Rattle.std.specs.Prelude.{ℕ, List, ◌++◌, length, codes, decimal}
use Rattle.std.specs.List.{flat_map}
use Rattle.lock_order.specs.declared.answer.Edge.{Edge}

abbrev pub no_cycle_line : ℕ → List ℕ
no_cycle_line events = codes "no cycle " ++ decimal events ++ codes "\n"

-- the outer mutex, the inner one, the thread and the place
abbrev pub edge_line : Edge → List ℕ
edge_line n =
    codes "m" ++ decimal n.outer.0 ++ codes " m" ++ decimal n.inner.0 ++ codes " t" ++ decimal n.thread.0 ++ codes " " ++ decimal n.place
    ++ codes "\n"

-- how many mutexes the cycle has, and a line for each
abbrev pub cycle_text : List Edge → List ℕ
cycle_text cycle = codes "cycle " ++ decimal (length cycle) ++ codes "\n" ++ flat_map edge_line cycle
