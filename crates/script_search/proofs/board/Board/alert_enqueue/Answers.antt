use Rattle.std.proofs.Common.{◌<◌, length, arith, ◌≡◌, rules, ap, ◌∙◌}
use mathlib.Core.Option.{none}
use Rattle.larch_actions.specs.Actions.{Spec, put}
use Rattle.larch_actions.specs.declared.event.Life.TheVariants.{Live}
use Rattle.larch_actions.specs.declared.event.Pending.TheVariants.{Nothing, AlertWaiting}
use Rattle.script_search.specs.Boards.{moment_of, spec_of}
use Rattle.script_search.proofs.Rows.{entered, outside_idle, keeps_both}
use Rattle.script_search.proofs.board.Board.alert_enqueue.Goals as goal

pub returns : goal.returns
returns c =
    let m = moment_of c.args.self.now in
    let s = spec_of m in
    let t = c.args.t in
    let low : t < length m.threads = omega (arith, c.args.self.now.threads.ok.0) in
    let live : s.life t ≡ Live = search rules in
    let idle : s.pending t ≡ Nothing = search rules in
    let what = AlertWaiting (record { 0 = c.args.mutex }) (record { 0 = c.args.cond }) in
    let change = entered s t c.args.mutex c.args.cond what live (outside_idle m t low idle) in (
      (
        record { live = search rules; order = search rules; requires_met = search rules; when_met = search rules; choice_met = search rules },
        c.set_holder.ensures.spec ∙ (ap (λ (z : Spec). record z { holder = put z.holder c.args.mutex none }) c.set_place.ensures.spec ∙ change),
      ),
      keeps_both m (moment_of c.set_place.new.self) (moment_of c.set_holder.new.self) c.set_place.ensures.keeps c.set_holder.ensures.keeps,
    )
