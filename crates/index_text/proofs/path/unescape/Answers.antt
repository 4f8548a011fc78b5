use Rattle.std.proofs.Common.{arith, Some, None, [], ◌∷◌}
use Rattle.index_text.proofs.Bytes.{unescape_fails, unescape_waits, unescape_puts}
use Rattle.index_text.proofs.path.unescape.Goals as goal
use Rattle.index_text.proofs.path.unescape.Goals.{in-Wait, in-Put+in_ok-push-in-Put}

pub returns-in-Fail : goal.returns-in-Fail
returns-in-Fail c =
    let f = unescape_fails c.args.bytes.now c.loop-b.out.items c.loop-b.pending c.loop-b.b-index (omega arith) c.loop-b.invariant c.in-Fail.ensures in
    (f None, f (Some (92 ∷ [])))

pub loop-b-preserved : goal.loop-b-preserved
loop-b-preserved c end =
    let bytes = c.args.bytes.now in
    let i = c.loop-b.b-index in
    elim c.match-step_of.branch [
      | in-Wait w ↦ rw (w.out-is, w.pending-is) (unescape_waits bytes c.loop-b.out.items c.loop-b.pending i (omega arith) c.loop-b.invariant w.in-Wait.ensures end)
      | in-Put+in_ok-push-in-Put w ↦ rw (w.out-is, w.pending-is, w.in_ok-push-in-Put.ensures.items) (unescape_puts bytes c.loop-b.out.items c.loop-b.pending i w.in-Put.byte (omega arith) c.loop-b.invariant w.in-Put.ensures end)
    ]
