use Rattle.nub_rule.proofs.Consequences.{enters-to-signal, follows, fork-changes}
use Rattle.nub_rule.proofs.laws.the_rule_excludes.Goals as goal

pub returns-clause-follows : goal.returns-clause-follows
returns-clause-follows g c = λ l traced w words homes views r. follows l traced (g.U.Uses.holds w) words homes views r

pub returns-clause-fork : goal.returns-clause-fork
returns-clause-fork g c = λ l traced w words words' homes homes' views views' n t r r' e.
    fork-changes l traced (g.U.Uses.holds w) words words' homes homes' views views' n t r r' e

pub returns-clause-signal : goal.returns-clause-signal
returns-clause-signal g c = enters-to-signal
