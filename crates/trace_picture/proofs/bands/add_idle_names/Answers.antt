use Rattle.std.proofs.Common.{◌≡◌, ℕ, Bool, List, [], ◌+◌, ◌++◌, take, cond, refl, ap, sym, ◌∙◌, append-nil, add-one, arith}
use Rattle.std.specs.Prelude.{codes, ◌&&◌, nat_lt, if◌then◌else◌}
use Rattle.larch_actions.specs.State.{count_below}
use Rattle.trace_board.specs.Tracked.{tracked_of}
use Rattle.trace_shapes.specs.declared.geometry.TheConstants.{IDLE_NAMES}
use Rattle.trace_shapes.specs.Shapes.{with_number, each_below}
use Rattle.trace_shapes.proofs.Added.{each_more, each_none, added_more}
use Rattle.trace_picture.specs.Plan.{is_idle}
use Rattle.trace_picture.specs.Bands.{idle_name}
use Rattle.trace_picture.proofs.Planning.{count_more}
use Rattle.trace_picture.proofs.bands.add_idle_names.Goals as goal

pub loop-t-init : goal.loop-t-init
loop-t-init c =
    let f : ℕ → List ℕ = idle_name c.args.layout.now.version c.args.plan.now (tracked_of c.args.board.now) in
    let old = take c.args.at c.args.buf.now in
    record { text = sym (ap (λ l. old ++ l) (each_none f) ∙ append-nil old); near = omega arith; count = refl; few = omega arith }

pub loop-t-preserved : goal.loop-t-preserved
loop-t-preserved c =
    let test : ℕ → Bool = is_idle c.args.layout.now.version c.args.plan.now (tracked_of c.args.board.now) in
    let f : ℕ → List ℕ = idle_name c.args.layout.now.version c.args.plan.now (tracked_of c.args.board.now) in
    let old = take c.args.at c.args.buf.now in
    let before = take c.loop-t.last c.loop-t.buf in
    let t = c.loop-t.t in
    let idle = c.is_idle-idle.ensures in
    let count = c.loop-t.invariant.count in
    let one = count_more test t c.loop-t.before c.is_idle-idle.result c.one_if-more.result count idle c.one_if-more.ensures in
    record {
      text = added_more old before _ (each_below f t) (f t) (each_below f (t + 1)) c.loop-t.invariant.text
          (c.add_idle_name-last.ensures.text ∙ (λ i. before ++ (if (idle i) && nat_lt (count i) IDLE_NAMES then with_number (codes " t") t else []))) (sym (each_more f t));
      near = omega (arith, c.loop-t.invariant.near, c.add_idle_name-last.ensures.near);
      count = one.0;
      few = omega (arith, one.1, c.loop-t.invariant.few);
    }
