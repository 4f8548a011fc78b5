use Rattle.std.proofs.Common.{arith}
use Rattle.script_search.specs.Boards.{moment_of}
use Rattle.script_search.proofs.Shown.{holder-set}
use Rattle.script_search.proofs.board.Board.set_holder.Goals as goal

pub returns-clause-spec : goal.returns-clause-spec
returns-clause-spec c = holder-set (moment_of c.args.self.now) c.args.mutex c.args.holder (omega (arith, c.args.self.now.holders.ok.0))
