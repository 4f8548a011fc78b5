-- The numbers of the statuses.
use Rattle.std.specs.Prelude.{ℕ}
use Rattle.command_endings.specs.Statuses as endings
use Rattle.command_explore.specs.declared.stuck.ExploreStatus.{ExploreStatus}
use Rattle.command_explore.specs.declared.stuck.ExploreStatus.TheVariants.{Stuck, As}

abbrev pub number_of : ExploreStatus → ℕ
number_of Stuck = 10
number_of (As status) = endings.number_of status
