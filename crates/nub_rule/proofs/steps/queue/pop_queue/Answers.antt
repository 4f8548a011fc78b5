use Rattle.std.proofs.Common.{subst, sym}
use Rattle.nub_rule.specs.Objects.{IsCond}
use Rattle.nub_rule.proofs.Requeueing.{gate_at, no_cond, may_pop_gate, may_pop_cond, gate_popped, cond_popped}
use Rattle.nub_rule.proofs.steps.queue.pop_queue.Goals as goal

pub pop-requires-clause-may : goal.pop-requires-clause-may
pop-requires-clause-may g c κs within = may_pop_gate c.args.me.now c.args.at (gate_at c.args.at c.in-Mutex.is) c.requires.named c.requires.inside

pub pop-requires-in-Cond-clause-may : goal.pop-requires-in-Cond-clause-may
pop-requires-in-Cond-clause-may g c κs within = may_pop_cond c.args.me.now c.args.at (subst IsCond (sym c.in-Cond.is) tt) c.requires.named c.requires.inside c.requires.may

pub returns-in-Mutex : goal.returns-in-Mutex
returns-in-Mutex g c = let u = gate_popped c.args.at c.pop.result c.args.me.now c.pop.new.me c.pop.ensures in record { none = u.0.none; owes = u.0.owes; first = u.0.first; gate = λ _. u.1; cond = λ is. absurd (no_cond c.args.at (gate_at c.args.at c.in-Mutex.is) is) }

pub returns-in-Cond-clause-owes : goal.returns-in-Cond-clause-owes
returns-in-Cond-clause-owes g c = (cond_popped c.args.at c.pop-in-Cond.result c.args.me.now c.pop-in-Cond.new.me c.pop-in-Cond.ensures).0.owes

pub returns-in-Cond-clause-first : goal.returns-in-Cond-clause-first
returns-in-Cond-clause-first g c = (cond_popped c.args.at c.pop-in-Cond.result c.args.me.now c.pop-in-Cond.new.me c.pop-in-Cond.ensures).0.first

pub returns-in-Cond-clause-cond : goal.returns-in-Cond-clause-cond
returns-in-Cond-clause-cond g c = λ _. (cond_popped c.args.at c.pop-in-Cond.result c.args.me.now c.pop-in-Cond.new.me c.pop-in-Cond.ensures).1
