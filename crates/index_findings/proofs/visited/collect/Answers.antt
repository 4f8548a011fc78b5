use Rattle.std.proofs.Common.{ap, subst, sym, ◌∙◌}
use Rattle.walker.specs.Walk.{Walk, new_walk}
use Rattle.firefly_outside.specs.Trees.{Path}
use Rattle.index_findings.specs.Visits.{AreVisits}
use Rattle.index_findings.proofs.visited.collect.Goals as goal

pub note_visits-requires-clause-first : goal.note_visits-requires-clause-first
note_visits-requires-clause-first c = c.in_ok-walked.ensures.new ∙ ap new_walk (sym (ap (λ (w : Walk). w.root) c.in_ok-walked.ensures.new))

pub note_visits-requires-clause-visits : goal.note_visits-requires-clause-visits
note_visits-requires-clause-visits c = subst (λ (r : Path). AreVisits r c.args.visits.items) (sym (ap (λ (w : Walk). w.root) c.in_ok-walked.ensures.new)) c.requires.visits

pub returns-in-Ok-clause-root : goal.returns-in-Ok-clause-root
returns-in-Ok-clause-root c = c.in-Ok.ensures.noted.same ∙ ap (λ (w : Walk). w.root) c.in_ok-walked.ensures.new

pub returns-in-Ok-clause-reported : goal.returns-in-Ok-clause-reported
returns-in-Ok-clause-reported c = λ t all. c.in-Ok.ensures.reported t (c.in_ok-walked.ensures.reported t) all

pub returns-in-Ok-clause-listed : goal.returns-in-Ok-clause-listed
returns-in-Ok-clause-listed c = c.in-Ok.ensures.noted.listed

pub returns-in-Ok-clause-files : goal.returns-in-Ok-clause-files
returns-in-Ok-clause-files c = c.in-Ok.ensures.noted.files
