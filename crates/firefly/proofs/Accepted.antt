-- The trace of a run is accepted, and is a whole play.
use Rattle.command_check.proofs.Accepted.{closed_accepted}
use Rattle.script_plays.proofs.Runs.{runs_are_whole}
use Rattle.firefly.specs.Laws.{AcceptsRuns, AcceptsIndexRuns, AcceptsRounds, RunsAreWholePlays}

pub accepts_runs : AcceptsRuns
accepts_runs l xs bytes t = closed_accepted l _ t.events bytes t.trace

pub accepts_index_runs : AcceptsIndexRuns
accepts_index_runs o old new bytes t = closed_accepted _ _ t.events bytes t.trace

pub accepts_rounds : AcceptsRounds
accepts_rounds threads rounds bytes t = closed_accepted _ _ t.events bytes t.trace

pub runs_are_whole_plays : RunsAreWholePlays
runs_are_whole_plays input bytes run =
    runs_are_whole run.layout run.lines run.trace.events run.read.rules run.trace.trace.closed run.trace.trace.reads.named run.trace.visited
