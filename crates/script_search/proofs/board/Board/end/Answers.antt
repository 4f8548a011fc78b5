use Rattle.std.proofs.Common.{◌<◌, length, arith, ◌≡◌, rules, ◌∙◌}
use Rattle.larch_actions.specs.declared.event.Life.TheVariants.{Ended}
use Rattle.larch_actions.specs.declared.event.Pending.TheVariants.{Nothing}
use Rattle.script_search.specs.Boards.{moment_of, spec_of}
use Rattle.script_search.proofs.Rows.{lived, outside_idle}
use Rattle.script_search.proofs.board.Board.end.Goals as goal

pub returns : goal.returns
returns c =
    let m = moment_of c.args.self.now in
    let s = spec_of m in
    let t = c.args.t in
    let low : t < length m.threads = omega (arith, c.args.self.now.threads.ok.0) in
    let idle : s.pending t ≡ Nothing = search rules in (
      (record { live = search rules; order = search rules; requires_met = search rules; when_met = search rules; choice_met = search rules }, c.set_place.ensures.spec ∙ lived s t Ended idle (outside_idle m t low idle)),
      c.set_place.ensures.keeps,
    )
