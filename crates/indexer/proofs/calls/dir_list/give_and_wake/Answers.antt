use Rattle.std.proofs.Common.{◌∙◌}
use Rattle.indexer.proofs.Getting.{gave_makes, makes_before, makes_between, makes_idle, woke}
use Rattle.indexer.proofs.calls.dir_list.give_and_wake.Goals as goal

pub give_list-requires-clause-has : goal.give_list-requires-clause-has
give_list-requires-clause-has g c = c.requires.has

pub returns-then-wake-clause-makes : goal.returns-then-wake-clause-makes
returns-then-wake-clause-makes g c = λ a x has between.
    let p = c.args.p.now in
    let b = c.give_list.new.me in
    let gave = gave_makes p _ a b (c.give_list.ensures.called a x has between) (c.give_list.ensures.gets a x has) in
    makes_before p _ a b c.broadcast.new.me gave (makes_idle p _ _ b c.broadcast.new.me (makes_between p _ a b between gave) c.broadcast.ensures.event c.broadcast.ensures.idle)

pub returns-then-wake-clause-share : goal.returns-then-wake-clause-share
returns-then-wake-clause-share g c = λ a x has. c.broadcast.ensures.share ∙ c.give_list.ensures.share a x has

pub returns-then-wake-clause-wakes : goal.returns-then-wake-clause-wakes
returns-then-wake-clause-wakes g c = λ yes. woke c.give_list.new.me c.broadcast.new.me c.broadcast.ensures.event c.broadcast.ensures.same

pub returns-else-wake-clause-makes : goal.returns-else-wake-clause-makes
returns-else-wake-clause-makes g c = λ a x has between. gave_makes c.args.p.now _ a c.give_list.new.me (c.give_list.ensures.called a x has between) (c.give_list.ensures.gets a x has)
