use Rattle.std.proofs.Common.{ap, arith, below_more, refl}
use Rattle.larch_actions.specs.declared.event.Layout.{Layout}
use Rattle.script_plays.specs.Plays.{IsFinished}
use Rattle.script_search.specs.Boards.{moment_of, scene_of}
use Rattle.script_search.proofs.Tells.{never, fails}
use Rattle.script_search.proofs.whole.is_whole.Goals as goal

pub returns-then-not-is_finished : goal.returns-then-not-is_finished
returns-then-not-is_finished c =
    let l = c.args.plan.now.layout in
    let s = scene_of (moment_of c.args.board.now) in (
      (λ h. absurd (never h)),
      (λ all. absurd (fails c.is_finished.result (IsFinished l.version c.args.plan.now.lines s c.loop-t.t) c.is_finished.ensures c.if-not-is_finished.true
          (all c.loop-t.t (omega (arith, ap (λ (z : Layout). z.threads) c.layout-t-end.ensures.layout))))),
    )

pub loop-t-preserved : goal.loop-t-preserved
loop-t-preserved c = below_more _ _ c.loop-t.invariant (c.is_finished.ensures.0 c.if-not-is_finished.false)

pub returns : goal.returns
returns c = ((λ h t low. c.loop-t.invariant t (omega (arith, ap (λ (z : Layout). z.threads) c.layout-t-end.ensures.layout))), (λ all. refl))
