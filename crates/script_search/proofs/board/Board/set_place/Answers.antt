use Rattle.std.proofs.Common.{◌<◌, length, length-set, arith, ap, sym, refl}
use Rattle.script_search.specs.declared.board.Thread.{Thread}
use Rattle.script_search.specs.Boards.{moment_of}
use Rattle.script_search.proofs.Shown.{place-set, played-same, alert_is}
use Rattle.script_search.proofs.board.Board.set_place.Goals as goal

pub returns-clause-keeps : goal.returns-clause-keeps
returns-clause-keeps c =
    let low : c.args.t < length c.args.self.now.threads.items = omega (arith, c.args.self.now.threads.ok.0) in
    let x : Thread = record { played = c.index-thread.result.now.played; place = c.args.place; alerted = c.index-thread.result.now.alerted } in
    record {
      sizes = record { second = refl; threads = length-set c.args.self.now.threads.items c.args.t x; holders = refl; available = refl };
      played = played-same (moment_of c.args.self.now) c.args.t low x c.index-thread.result.now (ap (λ (y : Thread). y.played) c.index-thread.ensures);
    }

pub returns-clause-spec : goal.returns-clause-spec
returns-clause-spec c =
    let low : c.args.t < length c.args.self.now.threads.items = omega (arith, c.args.self.now.threads.ok.0) in
    let x : Thread = record { played = c.index-thread.result.now.played; place = c.args.place; alerted = c.index-thread.result.now.alerted } in
    place-set (moment_of c.args.self.now) c.args.t low x (sym (alert_is (moment_of c.args.self.now) c.args.t low c.index-thread.result.now c.index-thread.ensures))
