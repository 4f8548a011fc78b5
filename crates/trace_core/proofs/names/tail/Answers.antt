use Rattle.std.proofs.Common.{◌-◌, [], ◌∷◌, true, refl, arith, sym, ap, ◌∙◌, Ok}
use Rattle.trace_core.proofs.NumbersFrom.{from-found, higher}
use Rattle.trace_core.proofs.Tails.{tail-stops, tail-ends, tail-breaks, tail-goes_on}
use Rattle.trace_core.proofs.names.tail.Goals as goal

pub loop-name-init : goal.loop-name-init
loop-name-init c = record { below = c.requires.some; same = (c.args.bound, [], omega arith, c.empty-left.ensures.list, refl) }

pub returns-in-Err : goal.returns-in-Err
returns-in-Err c =
    let (fuel, seen, fits, left_is, same) = c.loop-name.invariant.same in
    sym same ∙ tail-stops seen fuel c.loop-name.least c.args.bound c.loop-name.rest.now c.in-Err.stop c.loop-name.invariant.below fits c.in-Err.ensures

pub insert-requires : goal.insert-requires
insert-requires c =
    let f = (from-found true c.loop-name.least c.args.bound c.requires.few c.loop-name.rest.now c.in-Ok.name.rest.now (c.in-Ok.name.value, c.in-Ok.name.stop) c.in-Ok.ensures).0 in
    omega (arith, f.1, c.requires.few)

pub returns-then-name-eq10 : goal.returns-then-name-eq10
returns-then-name-eq10 c =
    let (fuel, seen, fits, left_is, same) = c.loop-name.invariant.same in
    let t = c.in-Ok.name.value in
    let rest = c.in-Ok.name.rest.now in
    let read = tail-ends seen fuel c.loop-name.least c.args.bound c.loop-name.rest.now rest t c.in-Ok.name.stop c.loop-name.invariant.below fits c.in-Ok.ensures c.if-name-eq10.true in
    sym same ∙ read ∙ ap (λ s. Ok (s, rest)) (sym (c.insert.ensures.list seen left_is))

pub returns-in-Err-word : goal.returns-in-Err-word
returns-in-Err-word c =
    let (fuel, seen, fits, left_is, same) = c.loop-name.invariant.same in
    sym same
    ∙ tail-breaks seen fuel c.loop-name.least c.args.bound c.loop-name.rest.now c.in-Ok.name.rest.now c.in-Ok.name.value c.in-Ok.name.stop c.in-Err-word.stop c.loop-name.invariant.below fits c.in-Ok.ensures c.if-name-eq10.false c.in-Err-word.ensures

pub overflow_add-least : goal.overflow_add-least
overflow_add-least c =
    let f = (from-found true c.loop-name.least c.args.bound c.requires.few c.loop-name.rest.now c.in-Ok.name.rest.now (c.in-Ok.name.value, c.in-Ok.name.stop) c.in-Ok.ensures).0 in
    omega (arith, f.1, c.requires.few)

pub loop-name-smaller : goal.loop-name-smaller
loop-name-smaller c =
    let f = (from-found true c.loop-name.least c.args.bound c.requires.few c.loop-name.rest.now c.in-Ok.name.rest.now (c.in-Ok.name.value, c.in-Ok.name.stop) c.in-Ok.ensures).0 in
    omega (arith, f.0, f.1)

pub loop-name-preserved : goal.loop-name-preserved
loop-name-preserved c =
    let (fuel, seen, fits, left_is, same) = c.loop-name.invariant.same in
    let t = c.in-Ok.name.value in
    let f = (from-found true c.loop-name.least c.args.bound c.requires.few c.loop-name.rest.now c.in-Ok.name.rest.now (t, c.in-Ok.name.stop) c.in-Ok.ensures).0 in
    let step = tail-goes_on seen fuel c.loop-name.least c.args.bound c.loop-name.rest.now c.in-Ok.name.rest.now c.in-Ok-word.rest.now t c.in-Ok.name.stop c.loop-name.invariant.below fits c.in-Ok.ensures c.if-name-eq10.false c.in-Ok-word.ensures in
    record {
      below = higher c.args.bound t c.in-Ok.name.stop f.2 c.if-name-eq10.false;
      same = (fuel - 1, t ∷ seen, omega (arith, f.0, fits), c.insert.ensures.list seen left_is, step ∙ same);
    }
