use Rattle.std.proofs.Common.{sym, ap, ◌∙◌}
use Rattle.larch_actions.specs.Actions.{put}
use Rattle.larch_actions.specs.Sets.{in_set}
use Rattle.trace_board.specs.Causes.{cause_of}
use Rattle.trace_board.proofs.Freeing.{freed_by}
use Rattle.trace_board.proofs.causes.Causes.free_one.Goals as goal

pub returns-then-not-stays : goal.returns-then-not-stays
returns-then-not-stays c =
    let stays = sym c.has-stays.ensures ∙ c.if-not-stays.true in
    let freed = freed_by c.args.cond c.in-Awaited.k (in_set c.args.left.now c.args.t) c.args.by (cause_of c.args.self.now c.args.t) (sym c.at.ensures ∙ c.in-Awaited.is) c.if-k-cond.true stays in
    c.put.ensures ∙ ap (put (cause_of c.args.self.now) c.args.t) freed
