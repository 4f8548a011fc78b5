use Rattle.std.proofs.Common.{◌<◌, length, arith}
use Rattle.script_search.specs.Boards.{moment_of, spec_of}
use Rattle.script_search.proofs.Shown.{iff_at, holder_is}
use Rattle.script_search.specs.Boards.{holder_of}
use mathlib.Core.Option.{none}
use Rattle.script_search.proofs.board.Board.is_free.Goals as goal

pub returns : goal.returns
returns c =
    let low : c.args.mutex < length c.args.self.now.holders.items = omega (arith, c.args.self.now.holders.ok.0) in
    iff_at c.is_nobody.result ((spec_of (moment_of c.args.self.now)).holder c.args.mutex) (holder_of c.index.result.now) none (holder_is (moment_of c.args.self.now) c.args.mutex low c.index.result.now c.index.ensures) c.is_nobody.ensures
