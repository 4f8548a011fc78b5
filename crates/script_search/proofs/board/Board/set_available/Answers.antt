use Rattle.std.proofs.Common.{arith}
use Rattle.script_search.specs.Boards.{moment_of}
use Rattle.script_search.proofs.Shown.{available-set}
use Rattle.script_search.proofs.board.Board.set_available.Goals as goal

pub returns-clause-spec : goal.returns-clause-spec
returns-clause-spec c = available-set (moment_of c.args.self.now) c.args.sem c.args.available (omega (arith, c.args.self.now.available.ok.0))
