use Rattle.std.proofs.Common.{◌∙◌, [], ap, arith, sym}
use Rattle.larch_actions.specs.declared.event.Life.TheVariants.{Live}
use Rattle.nub_rule.specs.declared.view.Child.TheVariants.{Forked}
use Rattle.nub_rule.specs.Rule.{begun, handed_view}
use Rattle.nub_rule.proofs.Ends.{fresh_fits}
use Rattle.nub_rule.proofs.Seats.{hands}
use Rattle.nub_rule.proofs.steps.forking.hand_out.Goals as goal

pub split_seat-seat-requires : goal.split_seat-seat-requires
split_seat-seat-requires g c =
    let m = c.me.view_is in
    let words = c.p.invariant.words in (
      ap (λ k. k.table_id) m ∙ (c.requires.of ∙ sym (ap (λ s. s.table_id) c.p.view_is)),
      omega arith,
      hands _ _ _ _ _ _ _ c.args.body c.requires.forked.0 c.me.invariant.member (ap (λ k. k.child) m ∙ c.requires.forked.1),
    )

pub invariant_of-result : goal.invariant_of-result
invariant_of-result g c =
    let v = c.me.inside.seat.me.0 in
    let t = c.args.body in
    let seen = c.requires.forked.0 in
    let forked = ap (λ k. k.child) c.me.view_is ∙ c.requires.forked.1 in
    let some_number = c.body.invariant.1 in
    fresh_fits (handed_view g.U.Uses.begin v (Forked t seen)) v.part.version Live seen (begun g.U.Uses.begin t v.world) _ c.split_seat-seat.result.me c.body.inside.number c.new.result _ _
    (c.split_seat-seat.ensures.4 ∙ (λ i. (handed_view g.U.Uses.begin v (forked i), []))) c.me.invariant.member (sym c.body.view_is) c.new.ensures c.new-room.ensures.items (λ z. absurd (omega arith)) c.body.invariant.2
