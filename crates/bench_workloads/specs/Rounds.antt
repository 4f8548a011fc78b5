-- Rounds of a thread that holds the mutex except while it waits.
use Rattle.std.specs.Prelude.{◌≡◌, ℕ}
use Rattle.bench_workloads.specs.declared.rounds.Round.{Round}
use Rattle.bench_workloads.specs.declared.rounds.Round.TheVariants.{Begins}
use Rattle.bench_workloads.specs.Workloads.{HasRaised, Worker}

-- how many waits alerts have ended in `times` rounds
abbrev pub alerts_in : Round → ℕ → ℕ
alerts_in Begins times = times
alerts_in _ times = 0

-- the thread has held `times` rounds, and counted them
abbrev pub HasHeld : Round → ℕ → ℕ → Worker → Type 0
HasHeld round times counted t = (counted ≡ times) × HasRaised (alerts_in round times) t
