use Rattle.std.proofs.Common.{rules, sym, false}
use Rattle.larch_actions.proofs.Shown.{shown_at-get_or}
use Rattle.larch_actions.specs.Sets.{in_set}
use Rattle.larch_actions.proofs.state.State.members_of.Goals as goal

pub returns : goal.returns
returns c = rw (← c.self.view_is) (sym (shown_at-get_or in_set (λ _. false) c.self.inside.members c.args.cond.0 _ (search rules)))
