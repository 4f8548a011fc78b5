use Rattle.larch_actions.proofs.state.State.holds_none.Goals as goal

pub returns : goal.returns
returns c = rw (← c.self.view_is) c.is_nowhere.ensures
