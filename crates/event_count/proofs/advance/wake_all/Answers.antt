use Rattle.std.proofs.Common.{◌≡◌, ◌++◌, ◌∷◌, [], true, List, ℕ, length, rules, arith, ap, sym, subst, ◌∙◌}
use Rattle.larch_actions.specs.Sets.{mem}
use Rattle.nub_rule.specs.Items.{Small}
use Rattle.nub_rule.specs.Places.{most_threads}
use Rattle.nub_rule.specs.Plays.{tail_of}
use Rattle.nub.proofs.Without.{mem_own, less_owed, first_small}
use Rattle.event_count.proofs.advance.wake_all.Goals as goal

pub pop-requires-clause-may : goal.pop-requires-clause-may
pop-requires-clause-may g c κs within = let same = c.loop-t.invariant.same in (ap (λ k. k.wait) same ∙ c.requires.no_wait, λ t off. ap (mem t) (ap (λ k. k.left) same ∙ c.requires.taken))

pub wake_from_condition-requires-clause-owed : goal.wake_from_condition-requires-clause-owed
wake_from_condition-requires-clause-owed g c κs within =
    let t = c.in-Some.t.0 in
    let first = c.pop.ensures.first c.in-Some.t c.in-Some.is in
    let none : c.loop-t.me.owed ≡ [] = ap (λ k. k.owed) c.loop-t.invariant.same ∙ c.requires.owes_none in
    let owed : c.pop.new.me.owed ≡ t ∷ [] = first.1 ∙ ap (λ (l : List ℕ). l ++ t ∷ []) none in
    subst (λ (l : List ℕ). mem t l ≡ true) (sym owed) (mem_own t [])

pub wake_from_condition-requires-clause-named : goal.wake_from_condition-requires-clause-named
wake_from_condition-requires-clause-named g c κs within =
    let first = c.pop.ensures.first c.in-Some.t c.in-Some.is in
    first_small most_threads c.in-Some.t.0 (tail_of c.loop-t.me.queue) c.loop-t.me.queue first.0 c.loop-t.invariant.small

pub loop-t-smaller : goal.loop-t-smaller
loop-t-smaller g c =
    let t = c.in-Some.t.0 in
    let first = c.pop.ensures.first c.in-Some.t c.in-Some.is in
    let now : c.wake_from_condition.new.me.queue ≡ tail_of c.loop-t.me.queue = ap (λ k. k.queue) c.wake_from_condition.ensures ∙ ap (λ k. k.queue) (c.pop.ensures.cond tt) in
    let long : length c.loop-t.me.queue ≡ length (t ∷ tail_of c.loop-t.me.queue) = ap (λ l. length l) first.0 in
    let short : length c.wake_from_condition.new.me.queue ≡ length (tail_of c.loop-t.me.queue) = ap (λ l. length l) now in
    omega arith

pub loop-t-preserved : goal.loop-t-preserved
loop-t-preserved g c =
    let t = c.in-Some.t.0 in
    let first = c.pop.ensures.first c.in-Some.t c.in-Some.is in
    let was = c.loop-t.invariant in
    let none : c.loop-t.me.owed ≡ [] = ap (λ k. k.owed) was.same ∙ c.requires.owes_none in
    let owed : c.pop.new.me.owed ≡ t ∷ [] = first.1 ∙ ap (λ (l : List ℕ). l ++ t ∷ []) none in
    let gone : c.wake_from_condition.new.me.owed ≡ c.args.me.now.owed = ap (λ k. k.owed) c.wake_from_condition.ensures ∙ (less_owed t c.pop.new.me.owed owed ∙ sym c.requires.owes_none) in
    let now : c.wake_from_condition.new.me.queue ≡ tail_of c.loop-t.me.queue = ap (λ k. k.queue) c.wake_from_condition.ensures ∙ ap (λ k. k.queue) (c.pop.ensures.cond tt) in
    let popped = c.pop.ensures.cond tt in
    let small : Small most_threads (t ∷ tail_of c.loop-t.me.queue) = subst (λ (l : List ℕ). Small most_threads l) first.0 was.small in
    record { same = search rules; small = subst (λ (l : List ℕ). Small most_threads l) (sym now) small.1 }
