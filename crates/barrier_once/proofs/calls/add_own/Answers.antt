use Rattle.std.proofs.Common.{◌≡◌, ◌+◌, ℕ, Some, arith, ap, ◌∙◌}
use Rattle.barrier_once.specs.declared.cell.Cell.TheVariants.{Sum}
use Rattle.barrier_once.specs.Cells.{sum_of}
use Rattle.barrier_once.specs.Rounds.{added_share}
use Rattle.barrier_once.proofs.Visits.{entered_own, held_back}
use Rattle.barrier_once.proofs.calls.add_own.Goals as goal

pub overflow_add-sum : goal.overflow_add-sum
overflow_add-sum g c =
    let own = c.requires.share in
    let known = c.acquire.ensures.fits c.args.p.now.world own.0 c.requires.world own.1 in
    let small = (known.sum (ap (λ l. l.sum.0) c.requires.placed.world)).small in
    omega (arith, c.sum-sum.ensures, c.from-own.ensures)

pub returns-clause-held : goal.returns-clause-held
returns-clause-held g c = held_back c.args.me.now c.acquire.new.me c.release.new.me c.args.at.now.sum.0 c.acquire.result c.requires.lacks c.acquire.ensures.held c.release.ensures.held

pub returns-clause-share : goal.returns-clause-share
returns-clause-share g c = λ s mine.
    let got = c.acquire.ensures in
    c.release.ensures.share c.args.p.now.world s c.acquire.result (got.same.world ∙ c.requires.world) (got.share ∙ mine) got.holds ∙ ap (λ (n : ℕ). Some (added_share n s)) got.same.number

pub returns-clause-stint : goal.returns-clause-stint
returns-clause-stint g c = λ s mine.
    let got = c.acquire.ensures in
    let x = c.acquire.result in
    let one = c.release.ensures.stint c.args.p.now.world s x (got.same.world ∙ c.requires.world) (got.share ∙ mine) got.holds in
    let sum : _ ≡ sum_of x + (c.args.me.now.number + 1) = omega (arith, c.sum-sum.ensures, c.from-own.ensures, c.number.ensures) in
    (x, entered_own c.args.at.now.sum.0 x _ _ s (λ t. added_share t s) c.args.me.now c.acquire.new.me c.release.new.me got.same got.stints (ap Sum sum) one)
