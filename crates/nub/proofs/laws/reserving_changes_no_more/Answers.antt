use Rattle.nub.proofs.Roomy.{rest_roomy, idle_roomy, holding_roomy, first_roomy, right_roomy}
use Rattle.nub.proofs.laws.reserving_changes_no_more.Goals as goal

pub returns-clause-rest : goal.returns-clause-rest
returns-clause-rest g c = λ p room k. rest_roomy p room k

pub returns-clause-idle : goal.returns-clause-idle
returns-clause-idle g c = λ p room k. idle_roomy p room k

pub returns-clause-holding : goal.returns-clause-holding
returns-clause-holding g c = λ p room k. holding_roomy p room k

pub returns-clause-first : goal.returns-clause-first
returns-clause-first g c = λ p room k. first_roomy p room k g.U.Uses.begin

pub returns-clause-right : goal.returns-clause-right
returns-clause-right g c = λ p room k. right_roomy p room k g.U.Uses.begin
