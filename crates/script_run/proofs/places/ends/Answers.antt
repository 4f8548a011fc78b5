use Rattle.std.proofs.Common.{◌++◌, ◌∙◌, ap, length}
use Rattle.nub_rule.proofs.Each.{at_middle}
use Rattle.script_run.proofs.places.ends.Goals as goal

pub unreachable-requires : goal.unreachable-requires
unreachable-requires c =
    let s = c.in-Some.slot in
    let e = c.requires.over (length c.loop-slot.yielded) s (at_middle c.loop-slot.yielded c.next.new.self.rest.items c.args.slots.items s (c.loop-slot.invariant.all ∙ ap (λ l. c.loop-slot.yielded ++ l) c.in-Some.ensures.steps.0)) in
    c.in_default.not-Ended e.0 e.1
