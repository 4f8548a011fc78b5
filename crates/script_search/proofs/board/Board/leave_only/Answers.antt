use Rattle.std.proofs.Common.{refl}
use Rattle.larch_actions.specs.Sets.{in_set}
use Rattle.script_search.specs.Boards.{moment_of}
use Rattle.script_search.proofs.Rows.{spec-thinned, played-thinned}
use Rattle.script_search.proofs.board.Board.leave_only.Goals as goal

pub returns-clause-keeps : goal.returns-clause-keeps
returns-clause-keeps c = record {
  sizes = record { second = refl; threads = c.thin_all.ensures.size; holders = refl; available = refl };
  played = played-thinned (moment_of c.args.self.now) c.args.cond (in_set c.args.left.now) c.thin_all.new.threads.items c.thin_all.ensures;
}

pub returns-clause-spec : goal.returns-clause-spec
returns-clause-spec c = spec-thinned (moment_of c.args.self.now) c.args.cond (in_set c.args.left.now) c.thin_all.new.threads.items c.thin_all.ensures
