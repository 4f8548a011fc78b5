use Rattle.std.proofs.Common.{◌<◌, length, arith}
use Rattle.script_search.specs.Boards.{moment_of}
use Rattle.script_search.proofs.Shown.{available_is}
use Rattle.script_search.proofs.board.Board.is_available.Goals as goal

pub returns : goal.returns
returns c =
    let low : c.args.sem < length c.args.self.now.available.items = omega (arith, c.args.self.now.available.ok.0) in
    available_is (moment_of c.args.self.now) c.args.sem low c.index.result.now c.index.ensures
