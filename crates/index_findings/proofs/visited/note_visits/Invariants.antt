use Rattle.std.proofs.Common.{◌≡◌, ◌++◌, All, length}
use Rattle.std.specs.Vec.Iter.{into_iter_items, into_iter_len}
use Rattle.firefly_outside.specs.Trees.{Contents}
use Rattle.walker.specs.Listings.{IsReportedBy}
use Rattle.walker.specs.Walk.{IsWalkOf}
use Rattle.index_findings.specs.Visits.{HasNoted}
use Rattle.index_findings.proofs.visited.note_visits.Given as goal

abbrev pub invariant-loop-visit : goal.invariant-loop-visit
invariant-loop-visit l =
    record {
      whole : l.yielded ++ into_iter_items l.visit-iterator ≡ into_iter_items l.initial.visit-iterator;
      left : into_iter_len l.visit-iterator ≡ length (into_iter_items l.visit-iterator);
      noted : HasNoted l.initial.walked.root l.yielded l.walked;
      reported : (t : Contents) → IsWalkOf l.initial.walked t → All (λ v. IsReportedBy t v.dir v.listing) (into_iter_items l.initial.visit-iterator) → IsWalkOf l.walked t × All (λ v. IsReportedBy t v.dir v.listing) (into_iter_items l.visit-iterator);
    }
