use Rattle.std.proofs.Common.{rules, sym, true, false}
use Rattle.larch_actions.proofs.Shown.{shown_at-get_or}
use Rattle.larch_actions.proofs.state.State.is_available.Goals as goal

pub returns : goal.returns
returns c = rw (← c.self.view_is) (sym (shown_at-get_or (λ b. b) true c.self.inside.available c.args.sem.0 false (search rules)))
