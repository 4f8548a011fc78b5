use Rattle.std.proofs.Common.{◌<◌, length, arith, sym}
use Rattle.script_search.specs.Boards.{moment_of}
use Rattle.script_search.proofs.Shown.{played_is}
use Rattle.script_search.proofs.board.Board.played.Goals as goal

pub returns : goal.returns
returns c =
    let low : c.args.t < length c.args.self.now.threads.items = omega (arith, c.args.self.now.threads.ok.0) in
    sym (played_is (moment_of c.args.self.now) c.args.t low c.index.result.now c.index.ensures)
