use Rattle.std.proofs.Common.{ap, sym, ◌∙◌}
use lib.ListN.{get_elem?}
use Rattle.nub_rule.proofs.Ends.{no_slots}
use Rattle.nub_rule.proofs.Seats.{joins}
use Rattle.nub_rule.proofs.closing.gather.Goals as goal

pub take_back-requires-clause-bare : goal.take_back-requires-clause-bare
take_back-requires-clause-bare g c κs within = let f = c.requires.thread in let v = c.thread.view_is in
    no_slots c.thread.inside.seat.me.0.part c.thread.inside.seat.me.1 c.thread.invariant.hands c.thread.invariant.below c.thread.invariant.wide (ap (λ k. k.spin) v ∙ f.1) (λ m x h. f.3 m x (ap (λ k. get_elem? k.held m) (sym v) ∙ h))

pub take_back-requires-clause-joins : goal.take_back-requires-clause-joins
take_back-requires-clause-joins g c κs within = let v = c.thread.view_is in
    joins _ _ _ _ _ _ _ _ _ c.requires.kind c.thread.invariant.member (ap (λ k. k.child) v ∙ c.requires.thread.2) (c.thread.invariant.numbered ∙ (ap (λ k. k.number) v ∙ c.requires.next))
