use Rattle.std.proofs.Common.{arith, ap, ◌∙◌, drop, length}
use Rattle.firefly_outside.proofs.WindowParts.{part-skip, length-part}
use Rattle.firefly_outside.proofs.window.Window.skip.Goals as goal

pub returns : goal.returns
returns c =
    let w = c.self.inside in
    let l = length-part w.buf w.start w.end (omega (arith, c.self.invariant.1)) in
    part-skip w.buf w.start w.end c.args.count (omega (arith, l, ap length c.self.view_is, c.self.invariant.0, c.requires)) ∙ ap (drop c.args.count) c.self.view_is
