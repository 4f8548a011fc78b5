use Rattle.std.proofs.Common.{◌≡◌, ◌+◌, ◌*◌, true, false, get_or, subst, sym, ◌∙◌, arith}
use Rattle.std.specs.Prelude.{◌&&◌, nat_le}
use Rattle.trace_core.specs.Names.{reaches, may_stop}
use Rattle.trace_core.proofs.NumbersFrom.{from_first, from_next, left_false, less_false}
use Rattle.trace_core.proofs.names.number_from.Goals as goal
use Rattle.trace_core.proofs.names.number_from.Goals.{else-may_stop-via-then-may_stop+else-least-value, else-may_stop-via-else-may_stop}

pub loop-rest-init : goal.loop-rest-init
loop-rest-init c =
    let r = subst (λ v. reaches c.args.least c.args.bound v ≡ true) c.from.ensures (sym c.if-not-reaches.ensures) in
    let f = from_first c.args.several c.args.least c.args.bound c.args.bytes.now c.from-value.result c.in-len1-up.len_at_least c.if-first-lt48.false c.if-first-gt57.false c.from-value.ensures r in
    record { below = f.0; same = f.1 }

pub loop-rest-preserved : goal.loop-rest-preserved
loop-rest-preserved c =
    let v = c.loop-rest.value in
    let bytes = c.loop-rest.rest.now in
    let goes_on : (may_stop c.args.several c.args.bound v (get_or bytes 0 0) && nat_le c.args.least v) ≡ false = elim c.else-may_stop.branch [
      | else-may_stop-via-then-may_stop+else-least-value w ↦ less_false _ c.args.least v w.if-least-value.false
      | else-may_stop-via-else-may_stop w ↦ left_false _ _ (sym c.may_stop.ensures ∙ w.if-may_stop.false)
    ] in
    let r = subst (λ d. reaches c.args.least c.args.bound (10 * v + d) ≡ true) c.from-in-len1-up-rest.ensures (sym c.if-not-reaches-2.ensures) in
    let f = from_next c.args.several c.args.least c.args.bound v bytes c.from-in-len1-up-rest.result c.in-len1-up-rest.len_at_least goes_on c.if-c-lt48.false c.if-c-gt57.false (omega arith) c.from-in-len1-up-rest.ensures r in
    record { below = f.0; same = f.1 ∙ c.loop-rest.invariant.same }
