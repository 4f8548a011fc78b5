-- The messages, a line each.
use Rattle.std.specs.Prelude.{ℕ, List, ◌++◌, codes, decimal}
use Rattle.text_output.specs.Paths.{escaped}

abbrev pub usage_message : List ℕ
usage_message =
    codes "usage: firefly check | run | index DIR [options] | trace DIR [options] | sample SEED FILES | jobs WORKERS | find QUERY | order | rounds THREADS ROUNDS\n"

abbrev pub input_fault_message : List ℕ
input_fault_message = codes "firefly: input could not be read\n"

abbrev pub output_fault_message : List ℕ
output_fault_message = codes "firefly: output could not be written\n"

abbrev pub bad_line_message : ℕ → List ℕ
bad_line_message k = codes "firefly: bad line " ++ decimal k ++ codes "\n"

-- so many files were found, and fewer are allowed
abbrev pub stopped_message : ℕ → ℕ → List ℕ
stopped_message found allowed =
    codes "firefly: stopped, " ++ decimal found ++ codes " files found, " ++ decimal allowed ++ codes " allowed\n"

-- the job at this place has stopped all others
abbrev pub stopped_by_message : ℕ → List ℕ
stopped_by_message job = codes "firefly: stopped by job " ++ decimal job ++ codes "\n"

abbrev pub memory_message : List ℕ
memory_message = codes "firefly: out of memory\n"

abbrev pub too_many_message : List ℕ
too_many_message = codes "firefly: 1000001 directories found, 1000000 allowed\n"

-- a path, spelt as in an index text
abbrev pub unreadable_message : List ℕ → List ℕ
unreadable_message path = codes "firefly: " ++ escaped path ++ codes " could not be read\n"

abbrev pub too_long_message : List ℕ
too_long_message = codes "firefly: input too long\n"
