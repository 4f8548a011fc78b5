use Rattle.std.proofs.Common.{◌≡◌, ◌∷◌, ◌++◌, [], length, map, ap, ◌∙◌, append_assoc, arith, sym}
use Rattle.std.proofs.lemmas.List.{map-append}
use Rattle.std.specs.Vec.Iter.{into_iter_items}
use Rattle.thread_crew.proofs.Zips.{all_yielded}
use Rattle.package_crew.proofs.crews.split.Goals as goal

pub loop-pair-preserved : goal.loop-pair-preserved
loop-pair-preserved g c =
    let at = c.loop-pair in
    let x = c.in-Some.pair in
    let steps : into_iter_items at.pair-iterator ≡ x ∷ into_iter_items c.next.new.self = c.in-Some.ensures.steps.0 in
    let gone = c.in-Some.ensures.steps.1 in
    let was = at.invariant in
    let short = ap length steps in
    record {
      whole = append_assoc at.yielded (x ∷ []) _ ∙ rw (← steps) was.whole;
      left = (let left = was.left in omega arith);
      room = (let room = was.room in let cap = c.in-Ok.ensures.capacity in let len = c.in-Ok.ensures.len in omega arith);
      space = (let room = was.space in let cap = c.in-Ok-push.ensures.capacity in let len = c.in-Ok-push.ensures.len in omega arith);
      firsts = c.in-Ok.ensures.items ∙ (ap (λ l. l ++ x.0 ∷ []) was.firsts ∙ sym (map-append (λ p. p.0) at.yielded (x ∷ [])));
      seconds = c.in-Ok-push.ensures.items ∙ (ap (λ l. l ++ x.1 ∷ []) was.seconds ∙ sym (map-append (λ p. p.1) at.yielded (x ∷ [])));
    }

pub returns-clause-firsts : goal.returns-clause-firsts
returns-clause-firsts g c =
    let at = c.loop-pair in
    let all = all_yielded at.yielded _ _ at.invariant.whole (sym at.invariant.left ∙ c.in-None.ensures.steps.0) ∙ c.into_iter-pair-iterator.ensures.into_iter_gives.0 in
    at.invariant.firsts ∙ ap (λ l. map (λ x. x.0) l) all

pub returns-clause-seconds : goal.returns-clause-seconds
returns-clause-seconds g c =
    let at = c.loop-pair in
    let all = all_yielded at.yielded _ _ at.invariant.whole (sym at.invariant.left ∙ c.in-None.ensures.steps.0) ∙ c.into_iter-pair-iterator.ensures.into_iter_gives.0 in
    at.invariant.seconds ∙ ap (λ l. map (λ x. x.1) l) all
