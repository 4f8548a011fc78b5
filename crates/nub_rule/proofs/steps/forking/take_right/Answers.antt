use Rattle.std.proofs.Common.{◌∙◌, ap, arith, sym}
use lib.ListN.{get_elem?}
use Rattle.nub_rule.specs.Parts.{unborn}
use Rattle.nub_rule.specs.Rule.{begun}
use Rattle.nub_rule.proofs.Ends.{no_slots, none-got}
use Rattle.nub_rule.proofs.Seats.{takes}
use Rattle.nub_rule.proofs.steps.forking.take_right.Goals as goal

pub join_seat-requires : goal.join_seat-requires
join_seat-requires g c =
    let m = c.me.view_is in
    let v = c.child.view_is in
    let own = c.child.inside.seat.me.0 in
    let of = sym (ap (λ s. s.table_id) c.p.view_is) in
    let u = v ∙ c.requires.unborn.is in
    let words = c.p.invariant.words in (
      ap (λ k. k.table_id) m ∙ (c.requires.of ∙ of),
      ap (λ k. k.table_id) v ∙ (c.requires.from ∙ of),
      no_slots own.part c.child.inside.seat.me.1 c.child.invariant.hands c.child.invariant.below c.child.invariant.wide (ap (λ k. k.spin) u) (λ n x h. none-got 64 n x (ap (λ k. get_elem? k.held n) (sym u) ∙ h)),
      omega arith,
      takes _ _ _ _ _ _ _ _ _ c.me.invariant.member (ap (λ k. k.life) m ∙ c.requires.live) (ap (λ k. k.child) m ∙ c.requires.free) c.child.invariant.member (ap (λ k. k.child) u)
          (ap (λ k. k.part) u ∙ sym (λ i. unborn (ap (λ k. k.version) v i) (begun g.U.Uses.begin ((c.child.invariant.numbered ∙ ap (λ k. k.number) v) i) (ap (λ k. k.world) u i)))),
    )
