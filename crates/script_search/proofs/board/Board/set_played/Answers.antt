use Rattle.std.proofs.Common.{◌<◌, length, arith, ap}
use Rattle.script_search.specs.declared.board.Thread.{Thread}
use Rattle.script_search.specs.Boards.{moment_of}
use Rattle.script_search.proofs.Shown.{spec-set, played-set}
use Rattle.script_search.proofs.board.Board.set_played.Goals as goal

pub returns-clause-spec : goal.returns-clause-spec
returns-clause-spec c =
    let low : c.args.t < length c.args.self.now.threads.items = omega (arith, c.args.self.now.threads.ok.0) in
    let x : Thread = record { played = c.args.played; place = c.index-thread.result.now.place; alerted = c.index-thread.result.now.alerted } in
    spec-set (moment_of c.args.self.now) c.args.t low x c.index-thread.result.now (ap (λ (y : Thread). y.place) c.index-thread.ensures) (ap (λ (y : Thread). y.alerted) c.index-thread.ensures)

pub returns-clause-played : goal.returns-clause-played
returns-clause-played c =
    let low : c.args.t < length c.args.self.now.threads.items = omega (arith, c.args.self.now.threads.ok.0) in
    let x : Thread = record { played = c.args.played; place = c.index-thread.result.now.place; alerted = c.index-thread.result.now.alerted } in
    played-set (moment_of c.args.self.now) c.args.t low x
