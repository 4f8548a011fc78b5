use Rattle.std.proofs.Common.{◌≡◌, arith}
use Rattle.script_run.proofs.Pieces.{cut_regions, only_region}
use Rattle.script_run.proofs.cut.cut_in_two.Goals as goal

pub returns-then-at-gt0 : goal.returns-then-at-gt0
returns-then-at-gt0 g c =
    let b = c.boundary-at.ensures in
    let any = c.if-at-gt0.true in
    cut_regions c.args.pkg.now c.args.lines.now c.args.slots.now c.boundary-at.result c.requires.regions any (b.within any) (b.live any)

pub play_on-requires-clause-region : goal.play_on-requires-clause-region
play_on-requires-clause-region g c =
    let none : c.boundary-at.result ≡ 0 = omega (arith, c.if-at-gt0.false) in
    only_region c.args.pkg.now c.args.lines.now c.args.slots.now c.requires.regions c.requires.any (λ n any low. c.boundary-at.ensures.last n (omega (arith, none)) low)
