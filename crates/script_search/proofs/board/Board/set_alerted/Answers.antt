use Rattle.std.proofs.Common.{◌<◌, length, length-set, arith, ap, refl}
use Rattle.script_search.specs.declared.board.Thread.{Thread}
use Rattle.script_search.specs.Boards.{moment_of}
use Rattle.script_search.proofs.Shown.{alert-set, played-same}
use Rattle.script_search.proofs.board.Board.set_alerted.Goals as goal

pub returns-clause-keeps : goal.returns-clause-keeps
returns-clause-keeps c =
    let low : c.args.t < length c.args.self.now.threads.items = omega (arith, c.args.self.now.threads.ok.0) in
    let x : Thread = record { played = c.index-thread.result.now.played; place = c.index-thread.result.now.place; alerted = c.args.alerted } in
    record {
      sizes = record { second = refl; threads = length-set c.args.self.now.threads.items c.args.t x; holders = refl; available = refl };
      played = played-same (moment_of c.args.self.now) c.args.t low x c.index-thread.result.now (ap (λ (y : Thread). y.played) c.index-thread.ensures);
    }

pub returns-clause-spec : goal.returns-clause-spec
returns-clause-spec c =
    let low : c.args.t < length c.args.self.now.threads.items = omega (arith, c.args.self.now.threads.ok.0) in
    let x : Thread = record { played = c.index-thread.result.now.played; place = c.index-thread.result.now.place; alerted = c.args.alerted } in
    alert-set (moment_of c.args.self.now) c.args.t low x c.index-thread.result.now (ap (λ (y : Thread). y.place) c.index-thread.ensures)
