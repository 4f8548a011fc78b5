use Rattle.std.proofs.Common.{subst, sym, ◌++◌, ◌∷◌, [], Some}
use Rattle.nub_rule.specs.declared.view.Stage.TheVariants.{Pushed, Tested}
use Rattle.nub_rule.specs.Objects.{object_of, IsCond}
use Rattle.nub_rule.specs.Plays.{unread}
use Rattle.nub_rule.proofs.Requeueing.{gate_at, no_cond, may_push_gate, may_push_cond}
use Rattle.nub_rule.proofs.steps.queue.push_queue.Goals as goal

pub push-requires-clause-may : goal.push-requires-clause-may
push-requires-clause-may g c κs within = may_push_gate c.args.me.now c.args.at (gate_at c.args.at c.in-Mutex.is) c.requires.named c.requires.inside c.requires.outside

pub push-requires-in-Cond-clause-may : goal.push-requires-in-Cond-clause-may
push-requires-in-Cond-clause-may g c κs within = may_push_cond c.args.me.now c.args.at (subst IsCond (sym c.in-Cond.is) tt) c.requires.named c.requires.inside c.requires.outside c.requires.may

pub returns-in-Mutex : goal.returns-in-Mutex
returns-in-Mutex g c = record {
  gate = λ _. c.push.ensures (λ n p. record p { queue = p.queue ++ n ∷ []; left = p.left ++ n ∷ []; stand = Some record { at = object_of c.args.at; stage = Pushed } }) (λ st me r me' word t. t (object_of c.args.at) word);
  cond = λ is. absurd (no_cond c.args.at (gate_at c.args.at c.in-Mutex.is) is);
}

pub returns-in-Cond-clause-cond : goal.returns-in-Cond-clause-cond
returns-in-Cond-clause-cond g c = λ _. c.push-in-Cond.ensures (λ n p. record p { queue = p.queue ++ n ∷ []; left = p.left ++ n ∷ []; stand = Some record { at = object_of c.args.at; stage = Tested }; wait = unread p.wait }) (λ st me r me' word t. t (object_of c.args.at) word)
