use Rattle.std.proofs.Common.{◌≡◌, subst, sym, refl, replicate}
use Rattle.larch_actions.proofs.Shown.{shown_at-replicate}
use Rattle.larch_actions.specs.State.{shown_at, pending_of, life_of, life_beyond}
use Rattle.larch_actions.specs.Actions.{lives_at_first}
use Rattle.larch_actions.specs.declared.event.Version.{Version}
use Rattle.larch_actions.specs.declared.event.Pending.TheVariants.{Nothing}
use Rattle.larch_actions.specs.declared.event.Life.TheVariants.{Live}
use Rattle.larch_actions.specs.declared.state.ThreadState.TheVariants as thread
use Rattle.larch_actions.proofs.state.first_threads.Goals as goal

pub returns-in-One-clause-pending : goal.returns-in-One-clause-pending
returns-in-One-clause-pending c = shown_at-replicate pending_of Nothing 256 thread.Running refl

pub returns-in-One-clause-life : goal.returns-in-One-clause-life
returns-in-One-clause-life c = subst (λ (v : Version). shown_at life_of (life_beyond v) (replicate 256 thread.Running) ≡ lives_at_first v) (sym c.in-One.is)
    (shown_at-replicate life_of Live 256 thread.Running refl)

pub returns-in-Two-clause-life : goal.returns-in-Two-clause-life
returns-in-Two-clause-life c = subst (λ (v : Version). shown_at life_of (life_beyond v) c.one_lives.result ≡ lives_at_first v) (sym c.in-Two.is) c.one_lives.ensures.life
