use Rattle.std.proofs.Common.{◌<◌, length}
use Rattle.script_search.specs.Founds.{moments_of}
use Rattle.script_search.proofs.Tracing.{LeadBack}
use Rattle.script_search.proofs.trace.trace.Given as goal

abbrev pub invariant-loop-at : goal.invariant-loop-at
invariant-loop-at l = record {
  there : l.at < length (moments_of l.found);
  back : LeadBack l.plan.layout l.plan.lines l.found l.at l.place l.events.items;
}

abbrev pub decreases-loop-at : goal.decreases-loop-at
decreases-loop-at l = l.at
