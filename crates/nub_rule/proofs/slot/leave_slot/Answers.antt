use Rattle.std.proofs.Common.{rules, arith, ◌≡◌, ◌∙◌, ap, sym, length}
use Rattle.larch_actions.specs.Sets.{mem}
use Rattle.nub_rule.specs.declared.rule.Slot.TheVariants.{Queue}
use Rattle.nub_rule.specs.Items.{queue_of}
use Rattle.nub_rule.specs.Plays.{less}
use Rattle.nub_rule.proofs.Lessening.{less-at, some_is, queue_is}
use Rattle.nub_rule.proofs.slot.leave_slot.Goals as goal

pub remove-requires : goal.remove-requires
remove-requires g c = let f = c.place_in.ensures.first c.in_ok-i.i c.in_ok-i.was in (search rules, search rules)

pub returns-clause-out : goal.returns-clause-out
returns-clause-out g c = λ xs n is e. let f = c.place_in.ensures.first c.in_ok-i.i c.in_ok-i.was in
    let same : c.in-Queue.queue.items ≡ xs = queue_is c.in-Queue.queue xs (sym c.in-Queue.is ∙ is) in
    let r = less-at c.args.t c.in_ok-i.i c.in-Queue.queue.items f.0 f.1 f.2 in
    let now : c.remove.new.self.items ≡ less c.args.t xs = c.remove.ensures.items ∙ (r.0 ∙ ap (less c.args.t) same) in
    (ap (mem c.args.t) (sym same) ∙ r.1, (λ j. Queue (queue_of (now j))), sym (some_is c.len.result n e) ∙ (c.len.ensures.value ∙ ap (λ l. length l) now), (let fits = c.place_in.ensures.fits in let short = c.remove.ensures.len in let long = c.len.ensures.value in let z = some_is c.len.result n e in omega arith))
