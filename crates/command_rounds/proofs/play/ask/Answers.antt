use Rattle.std.proofs.Common.{◌≡◌, arith, refl, subst, ◌∙◌}
use Rattle.barrier_once.specs.Calls.{Enters, Visited}
use Rattle.command_rounds.proofs.Between.{has_asked, visited_sum}
use Rattle.command_rounds.proofs.play.ask.Goals as goal

pub returns : goal.returns
returns g c = λ n h.
    let p = c.args.p.now in
    let a = c.args.me.now in
    let e = c.total.new.me in
    let t = a.number in
    let took = c.total.ensures in
    let own : t ≡ 0 = omega (arith, c.number.ensures, c.if-number-ne0.false) in
    let ran = subst (λ l. Visited t l.sum.0 a e) c.places-at.ensures took.ran in
    let stint = took.stint h.share h.between.idle.share in
    let x = stint.0 in
    let one = subst (λ l. Enters t l.sum.0 x x h.share h.share a e) c.places-at.ensures stint.1 in
    let between = visited_sum p t h.share h.share x x _ a e h.between took.rest took.same ran took.held (took.share ∙ h.between.idle.share) one refl refl refl in
    (has_asked p t n a e own h between, λ z. took.answer h.share n h.between.idle.share h.arrivals)
