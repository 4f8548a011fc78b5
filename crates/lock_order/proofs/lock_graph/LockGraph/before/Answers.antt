use Rattle.std.proofs.Common.{rules, ap, sym, false}
use Rattle.larch_actions.proofs.Shown.{shown_at-get_or}
use Rattle.lock_order.specs.Sets.{in_mutexes}
use Rattle.lock_order.proofs.lock_graph.LockGraph.before.Goals as goal

pub returns : goal.returns
returns c = λ m. ap (λ f. f m) (sym (shown_at-get_or in_mutexes (λ _. false) c.args.self.now.outers c.args.inner.0 (record { bits = 0 }) (search rules)))
