use Rattle.std.proofs.Common.{sym, subst}
use Rattle.firefly_outside.specs.Trees.{Path}
use Rattle.walker.specs.Listings.{IsListingOf, IsReportedBy}
use Rattle.index_findings.proofs.visited.note_visit.Goals as goal

pub note-requires-clause-lawful : goal.note-requires-clause-lawful
note-requires-clause-lawful c = subst (λ (d : Path). IsListingOf d c.args.visit.listing) (sym c.as_str.ensures) c.requires.lawful

pub returns-in-Ok-clause-reported : goal.returns-in-Ok-clause-reported
returns-in-Ok-clause-reported c = λ t walk reported.
    c.in-Ok.ensures.reported t walk (subst (λ (d : Path). IsReportedBy t d c.args.visit.listing) (sym c.as_str.ensures) reported)
