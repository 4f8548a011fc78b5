use Rattle.std.proofs.Common.{◌≡◌, arith}
use mathlib.Core.Logic.{dite}
use native.Mathlib.Decide.{ℕ_discrete}
use Rattle.script_search.specs.Boards.{moment_of}
use Rattle.script_search.proofs.Stepping.{step_none}
use Rattle.script_search.proofs.step.step.Goals as goal

pub loop-t-preserved : goal.loop-t-preserved
loop-t-preserved c = λ e low goes.
    dite (ℕ_discrete e.thread.0 c.loop-t.t)
    (λ own. step_none c.args.plan.now.layout c.args.plan.now.lines (moment_of c.args.from.now) (moment_of c.args.to.now) c.loop-t.t (λ f. f.thread.0 ≡ c.loop-t.t) c.in_ok-events.field-0 c.in_default.not-Some c.in_ok-events.ensures e own goes)
    (λ ne. c.loop-t.invariant e (omega arith) goes)
