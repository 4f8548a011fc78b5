use Rattle.std.proofs.Common.{◌∙◌, ap, refl, rules, replicate}
use Rattle.larch_actions.proofs.Shown.{put-same, shown_at-set, shown_at-replicate}
use Rattle.larch_actions.specs.Actions.{put}
use Rattle.larch_actions.specs.State.{pending_of, life_of}
use Rattle.larch_actions.specs.declared.event.Pending.TheVariants.{Nothing}
use Rattle.larch_actions.specs.declared.event.Life.TheVariants.{Unborn, Live}
use Rattle.larch_actions.specs.declared.state.ThreadState.TheVariants as thread
use Rattle.larch_actions.proofs.state.one_lives.Goals as goal

pub returns-clause-pending : goal.returns-clause-pending
returns-clause-pending c = shown_at-set pending_of Nothing (replicate 256 thread.Unborn) 0 thread.Running (search rules)
    ∙ (ap (λ f. put f 0 Nothing) (shown_at-replicate pending_of Nothing 256 thread.Unborn refl) ∙ put-same (λ _. Nothing) 0 Nothing refl)

pub returns-clause-life : goal.returns-clause-life
returns-clause-life c = shown_at-set life_of Unborn (replicate 256 thread.Unborn) 0 thread.Running (search rules)
    ∙ ap (λ f. put f 0 Live) (shown_at-replicate life_of Unborn 256 thread.Unborn refl)
