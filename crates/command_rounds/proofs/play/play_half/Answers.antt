use Rattle.std.proofs.Common.{◌++◌, ◌+◌, refl, subst}
use Rattle.barrier_once.specs.declared.cell.Cell.TheVariants.{Sum}
use Rattle.barrier_once.specs.Cells.{sum_of}
use Rattle.barrier_once.specs.Calls.{Arrived, Enters, Visited}
use Rattle.barrier_once.specs.Rounds.{added_share}
use Rattle.command_rounds.proofs.Between.{arrived, halfway, visited_sum}
use Rattle.command_rounds.specs.RoundEvents.{visit}
use Rattle.command_rounds.proofs.play.play_half.Goals as goal

pub returns : goal.returns
returns g c = λ n h few.
    let p = c.args.p.now in
    let a = c.args.me.now in
    let b = c.add_own.new.me in
    let e = c.arrive.new.me in
    let t = a.number in
    let at = c.places-at.ensures in
    let added = c.add_own.ensures in
    let came = c.arrive.ensures in
    let more = added_share t h.share in
    let share = added.share h.share h.between.idle.share in
    let stint = added.stint h.share h.between.idle.share in
    let one = subst (λ l. Enters t l.sum.0 stint.0 (Sum (sum_of stint.0 + (t + 1))) h.share more a b) at stint.1 in
    let between = visited_sum p t h.share more stint.0 _ h.events a b h.between added.rest added.same (subst (λ l. Visited t l.sum.0 a b) at added.ran) added.held share one refl refl refl in
    let ran = subst (λ l. Arrived b.number l.bar.0 l.cond.0 more b e) at (came.ran more share) in
    halfway p t n a e h few (arrived p t more (h.events ++ visit t 1) b e between came.rest came.same ran came.held (came.share more share))
