use Rattle.std.proofs.Common.{◌≤◌, ◌<◌, ◌+◌, Bool, ap, subst, sym, arith}
use Rattle.larch_actions.specs.declared.event.Layout.{Layout}
use Rattle.script_search.specs.Boards.{moment_of}
use Rattle.script_search.specs.Tries.{Tries}
use Rattle.script_search.proofs.Expanding.{tries_further, tries_all}
use Rattle.script_search.proofs.expand.expand_all.Goals as goal

pub loop-thread-preserved : goal.loop-thread-preserved
loop-thread-preserved c =
    let l = c.args.plan.now.layout in
    let xs = c.args.plan.now.lines in
    let m = moment_of c.args.board.now in
    let more = tries_further l xs m c.args.found.now c.loop-thread.found c.expand.new.found c.loop-thread.thread c.loop-thread.moves c.in-Ok.more c.loop-thread.invariant c.in-Ok.ensures.ok in
    subst (λ (r : Bool). Tries l xs c.args.found.now c.expand.new.found m (λ e. e.thread.0 < c.loop-thread.thread + 1) r) (sym c.either-moves.ensures) more

pub returns-clause-ok : goal.returns-clause-ok
returns-clause-ok c =
    let l = c.args.plan.now.layout in
    let all : l.threads ≤ c.loop-thread.thread = omega (arith, ap (λ (z : Layout). z.threads) c.layout-thread-end.ensures.layout) in
    tries_all l c.args.plan.now.lines (moment_of c.args.board.now) c.args.found.now c.loop-thread.found c.loop-thread.thread c.loop-thread.moves all c.loop-thread.invariant
