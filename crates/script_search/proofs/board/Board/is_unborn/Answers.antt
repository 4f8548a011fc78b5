use Rattle.std.proofs.Common.{◌<◌, length, arith}
use Rattle.script_search.specs.Boards.{moment_of, spec_of}
use Rattle.script_search.proofs.Shown.{iff_at, life_is}
use Rattle.larch_actions.specs.declared.event.Life.TheVariants.{Unborn}
use Rattle.script_search.specs.Boards.{life_of}
use Rattle.script_search.proofs.board.Board.is_unborn.Goals as goal

pub returns : goal.returns
returns c =
    let low : c.args.t < length c.args.self.now.threads.items = omega (arith, c.args.self.now.threads.ok.0) in
    iff_at c.is_unborn.result ((spec_of (moment_of c.args.self.now)).life c.args.t) (life_of c.index.result.now.place) Unborn (life_is (moment_of c.args.self.now) c.args.t low c.index.result.now c.index.ensures) c.is_unborn.ensures
