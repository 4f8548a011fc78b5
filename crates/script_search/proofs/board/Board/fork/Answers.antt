use Rattle.std.proofs.Common.{◌<◌, length, arith, ◌≡◌, rules, ◌∙◌}
use Rattle.larch_actions.specs.declared.event.Life.TheVariants.{Unborn, Live}
use Rattle.script_search.specs.Boards.{moment_of, spec_of}
use Rattle.script_search.proofs.Rows.{lived, outside_idle, idle_unborn}
use Rattle.script_search.proofs.board.Board.fork.Goals as goal

pub returns : goal.returns
returns c =
    let m = moment_of c.args.self.now in
    let s = spec_of m in
    let who = c.args.who in
    let low : who < length m.threads = omega (arith, c.args.self.now.threads.ok.0) in
    let unborn : s.life who ≡ Unborn = search rules in
    let idle = idle_unborn m who low unborn in (
      (record { live = search rules; order = search rules; requires_met = search rules; when_met = search rules; choice_met = search rules }, c.set_place.ensures.spec ∙ lived s who Live idle (outside_idle m who low idle)),
      c.set_place.ensures.keeps,
    )
