use Rattle.nub_rule.proofs.History.{same-history, step-log, step-state}
use Rattle.nub_rule.proofs.Law.{rule-of, are-views}
use Rattle.nub_rule.proofs.Seated.{are-idle}
use Rattle.nub_rule.proofs.laws.the_rule_says.Goals as goal

pub returns-clause-items : goal.returns-clause-items
returns-clause-items g c = λ l traced w s k. (k.all, are-views l traced w g.U.Uses.begin g.U.Uses.holds s k, rule-of l traced w g.U.Uses.holds s.words s.homes k.all k.core (are-idle l traced w g.U.Uses.begin g.U.Uses.holds s k))

pub returns-clause-one_history : goal.returns-clause-one_history
returns-clause-one_history g c = λ l traced w words words' homes homes' views r r'. same-history l r.log r'.log r.state r'.state views r.history r'.history r.run r'.run

pub returns-clause-each_step : goal.returns-clause-each_step
returns-clause-each_step g c = λ l traced w words words' homes homes' views views' n p q es s r r'.
    let e = step-log l r.log r'.log views views' n p q es s r.history r'.history in
    (e, step-state l.version r.log r'.log r.state r'.state es r.run r'.run e)
