-- The parts of a cell.
use Rattle.std.specs.Prelude.{ℕ, Option as Opt, None}
use Rattle.barrier_once.specs.declared.cell.Cell.{Cell}
use Rattle.barrier_once.specs.declared.cell.Cell.TheVariants.{Bar, Sum, Once}

abbrev pub round_of : Cell → ℕ
round_of (Bar round arrived) = round
round_of _ = 0

abbrev pub arrived_of : Cell → ℕ
arrived_of (Bar round arrived) = arrived
arrived_of _ = 0

abbrev pub sum_of : Cell → ℕ
sum_of (Sum n) = n
sum_of _ = 0

abbrev pub once_of : Cell → Opt ℕ
once_of (Once value) = value
once_of _ = None
