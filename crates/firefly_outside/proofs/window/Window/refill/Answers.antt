use Rattle.std.proofs.Common.{arith, ap, ◌∙◌, ◌-◌, length}
use Rattle.firefly_outside.proofs.WindowParts.{part-grow, length-part}
use Rattle.firefly_outside.proofs.window.Window.refill.Goals as goal

pub returns-clause-bytes : goal.returns-clause-bytes
returns-clause-bytes g c =
    let w = c.self.inside in
    let kept = w.end - w.start in
    let n = c.in_ok-count.count in
    let h = c.in_ok-count.ensures in
    let l = length-part w.buf w.start w.end (omega (arith, c.self.invariant.1)) in
    part-grow c.read_after.new.buf c.args.self.now kept n c.args.most _ _ (h.front ∙ c.to_front.ensures ∙ c.self.view_is) h.within
    (omega (arith, l, ap length c.self.view_is, c.requires.room)) h.most h.bytes
