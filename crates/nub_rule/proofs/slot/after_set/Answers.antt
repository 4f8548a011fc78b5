use Rattle.std.proofs.Common.{rules, ◌≡◌, ◌+◌, ◌-◌, ◌∙◌, ap, sym, get_or, length, ◌∷◌}
use Rattle.larch_actions.specs.Sets.{set_of}
use Rattle.nub_rule.proofs.Leaving.{dropped, dropped-step, dropped-all, small-at, tail_of-dropped, nil-of}
use Rattle.nub_rule.proofs.slot.after_set.Goals as goal
use Rattle.nub_rule.specs.Places.{most_threads}

pub loop-i-init : goal.loop-i-init
loop-i-init c = let e : c.len-i.result ≡ length c.args.queue.now.items = search rules in
    (search rules, c.empty-set.ensures.list ∙ ap (λ l. set_of l) (sym (ap (λ n. dropped n c.args.queue.now.items) e ∙ dropped-all c.args.queue.now.items)), λ z. nil-of c.args.queue.now.items (sym e ∙ z))

pub insert-requires : goal.insert-requires
insert-requires c = let d : c.deref.result.now ≡ c.args.queue.now.items = search rules in let s = small-at most_threads (c.loop-i.i - 1) c.args.queue.now.items c.requires (search rules) in search rules

pub loop-i-preserved : goal.loop-i-preserved
loop-i-preserved c = let d : c.deref.result.now ≡ c.args.queue.now.items = search rules in
    let i = c.loop-i.invariant in let up : (c.loop-i.i - 1) + 1 ≡ c.loop-i.i = search rules in
    let step = dropped-step (c.loop-i.i - 1) c.args.queue.now.items (search rules) in (
      search rules,
      c.insert.ensures.list (dropped c.loop-i.i c.args.queue.now.items) i.1 ∙ (λ k. set_of (c.from.ensures k ∷ dropped c.loop-i.i c.args.queue.now.items)) ∙ ap (λ l. set_of l) (sym (step ∙ (λ k. get_or (sym d k) (c.loop-i.i - 1) 0 ∷ dropped (up k) c.args.queue.now.items))),
      λ z. absurd (search rules),
    )

pub returns : goal.returns
returns c = let i = c.loop-i.invariant in i.1 ∙ ap (λ l. set_of l) (tail_of-dropped c.loop-i.i c.args.queue.now.items (search rules) i.0 i.2)
