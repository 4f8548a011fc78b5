use Rattle.std.proofs.Common.{◌≡◌, ℕ, ◌≤◌, false, refl, arith}
use Rattle.larch_actions.specs.Sets.{in_set}
use Rattle.trace_board.specs.declared.causes.Cause.{Cause}
use Rattle.trace_board.specs.Awaited.{is_awaited}
use Rattle.trace_board.specs.Causes.{take_out, cause_of}
use Rattle.trace_board.proofs.Freeing.{partly_first, partly_more, partly_all, stays_so}
use Rattle.trace_board.proofs.causes.Causes.free.Goals as goal

pub loop-t-init : goal.loop-t-init
loop-t-init c = partly_first (λ k. take_out c.args.cond (in_set c.args.left.now k) c.args.by) (cause_of c.args.self.now)

pub loop-t-preserved : goal.loop-t-preserved
loop-t-preserved c =
    let h : ℕ → Cause → Cause = λ k. take_out c.args.cond (in_set c.args.left.now k) c.args.by in
    let was = cause_of c.loop-t.self c.loop-t.t in
    partly_more h (cause_of c.args.self.now) c.loop-t.t (cause_of c.loop-t.self) (cause_of c.free_one.new.self) (h c.loop-t.t was) c.loop-t.invariant
    refl c.free_one.ensures

pub returns : goal.returns
returns c =
    let h : ℕ → Cause → Cause = λ k. take_out c.args.cond (in_set c.args.left.now k) c.args.by in
    let f = cause_of c.args.self.now in
    let done : c.args.self.now.limit ≤ c.loop-t.t = omega arith in
    let past : (k : ℕ) → c.loop-t.t ≤ k → is_awaited (f k) ≡ false = λ k l. c.args.self.now.few k (omega (arith, l, done)) in
    partly_all h f c.loop-t.t (cause_of c.loop-t.self) c.loop-t.invariant (λ k l. stays_so c.args.cond (in_set c.args.left.now k) c.args.by (f k) (past k l))
