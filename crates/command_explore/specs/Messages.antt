-- The messages that only this program has, and the answer of a script that ends.
use Rattle.std.specs.Prelude.{ℕ, List, ◌++◌, codes, decimal}

abbrev pub usage_message : List ℕ
usage_message = codes "usage: explore [--states N] < SCRIPT\n"

abbrev pub ends_line : List ℕ
ends_line = codes "ends\n"

-- so many states were found, and fewer are allowed
abbrev pub stopped_message : ℕ → ℕ → List ℕ
stopped_message found allowed =
    codes "firefly: stopped, " ++ decimal found ++ codes " states found, " ++ decimal allowed ++ codes " allowed\n"

abbrev pub stuck_line : ℕ → List ℕ
stuck_line events = codes "firefly: stuck after " ++ decimal events ++ codes " events\n"
