use Rattle.std.proofs.Common.{◌∙◌, arith, sym}
use Rattle.nub_rule.proofs.Each.{at_within}
use Rattle.nub_rule.proofs.Ordering.{first-one, first-removed, nowhere, or-at, over-back, second-one, second-removed, unborn-back}
use Rattle.nub_rule.proofs.forked.take_number.Goals as goal

pub remove-requires : goal.remove-requires
remove-requires g c = let t = c.place_in_ended.ensures.there c.in-Some.i c.in-Some.is in
    let low = at_within c.args.ended.now.items c.in-Some.i t.0 t.1 in omega (arith, c.args.ended.now.ok.0)

pub returns-in-Some-clause-one : goal.returns-in-Some-clause-one
returns-in-Some-clause-one g c = let t = c.place_in_ended.ensures.there c.in-Some.i c.in-Some.is in
    let same = c.into_thread.ensures.same ∙ (c.remove.ensures.value ∙ or-at c.args.ended.now.items c.in-Some.i t.0 c.remove.result t.1) in
    first-one c.args.number c.args.ended.now.items c.args.unborn.now.items c.in-Some.i t.0 c.into_thread.result c.requires.one.0 t.1 t.2 same c.requires.one.1

pub returns-in-Some-clause-others : goal.returns-in-Some-clause-others
returns-in-Some-clause-others g c = λ n ne. let t = c.place_in_ended.ensures.there c.in-Some.i c.in-Some.is in
    first-removed n c.args.ended.now.items c.args.unborn.now.items c.remove.new.self.items c.in-Some.i t.0 c.remove.ensures.items t.1 (λ e. ne (sym e ∙ t.2))

pub remove-requires-in-Some-place_in_unborn : goal.remove-requires-in-Some-place_in_unborn
remove-requires-in-Some-place_in_unborn g c = let t = c.place_in_unborn.ensures.there c.in-Some-place_in_unborn.i c.in-Some-place_in_unborn.is in
    let low = at_within c.args.unborn.now.items c.in-Some-place_in_unborn.i t.0 t.1 in omega (arith, c.args.unborn.now.ok.0)

pub returns-in-Some-place_in_unborn-clause-one : goal.returns-in-Some-place_in_unborn-clause-one
returns-in-Some-place_in_unborn-clause-one g c = let i = c.in-Some-place_in_unborn.i in
    let t = c.place_in_unborn.ensures.there i c.in-Some-place_in_unborn.is in
    let same = c.into_thread-in-Some-place_in_unborn.ensures.same ∙ (c.remove-in-Some-place_in_unborn.ensures.value ∙ or-at c.args.unborn.now.items i t.0 c.remove-in-Some-place_in_unborn.result t.1) in
    second-one c.args.number c.args.ended.now.items c.args.unborn.now.items i t.0 c.into_thread-in-Some-place_in_unborn.result c.requires.one.0 (c.place_in_ended.ensures.none c.in_default.is) t.1 t.2 same c.requires.one.1

pub returns-in-Some-place_in_unborn-clause-others :
    goal.returns-in-Some-place_in_unborn-clause-others
returns-in-Some-place_in_unborn-clause-others g c = λ n ne. let i = c.in-Some-place_in_unborn.i in
    let t = c.place_in_unborn.ensures.there i c.in-Some-place_in_unborn.is in
    second-removed n c.args.ended.now.items c.args.unborn.now.items c.remove-in-Some-place_in_unborn.new.self.items i t.0 c.remove-in-Some-place_in_unborn.ensures.items t.1 (λ e. ne (sym e ∙ t.2))

pub returns-in-Some-place_in_unborn-clause-back : goal.returns-in-Some-place_in_unborn-clause-back
returns-in-Some-place_in_unborn-clause-back g c = unborn-back g.U.Uses.begin c.into_thread-in-Some-place_in_unborn.result c.into_thread-in-Some-place_in_unborn.ensures.unborn

pub returns-in-Some-clause-back : goal.returns-in-Some-clause-back
returns-in-Some-clause-back g c = over-back c.into_thread.result c.into_thread.ensures.over

pub unreachable-requires : goal.unreachable-requires
unreachable-requires g c = nowhere c.args.number c.args.ended.now.items c.args.unborn.now.items c.requires.one.0 (c.place_in_ended.ensures.none c.in_default.is) (c.place_in_unborn.ensures.none c.in_default-place_in_unborn.is) c.requires.one.1
