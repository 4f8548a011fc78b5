use Rattle.std.proofs.Common.{◌<◌, length, arith}
use Rattle.script_search.specs.Boards.{moment_of, spec_of}
use Rattle.script_search.proofs.Shown.{iff_at, life_is}
use Rattle.larch_actions.specs.declared.event.Life.TheVariants.{Ended}
use Rattle.script_search.specs.Boards.{life_of}
use Rattle.script_search.proofs.board.Board.has_ended.Goals as goal

pub returns : goal.returns
returns c =
    let low : c.args.t < length c.args.self.now.threads.items = omega (arith, c.args.self.now.threads.ok.0) in
    iff_at c.has_ended.result ((spec_of (moment_of c.args.self.now)).life c.args.t) (life_of c.index.result.now.place) Ended (life_is (moment_of c.args.self.now) c.args.t low c.index.result.now c.index.ensures) c.has_ended.ensures
