use Rattle.std.proofs.Common.{rules}
use Rattle.script_search.proofs.board.Board.take.Goals as goal

pub returns-clause-p : goal.returns-clause-p
returns-clause-p c = ((record { live = search rules; order = search rules; requires_met = search rules; when_met = search rules; choice_met = search rules }, c.set_available.ensures.spec), c.set_available.ensures.keeps)

pub returns-clause-alert_p : goal.returns-clause-alert_p
returns-clause-alert_p c = ((record { live = search rules; order = search rules; requires_met = search rules; when_met = search rules; choice_met = search rules }, c.set_available.ensures.spec), c.set_available.ensures.keeps)
