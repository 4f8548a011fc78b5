use Rattle.std.proofs.Common.{[], ◌∷◌, ◌+◌, None, slice_set, ap, ◌∙◌, refl, inl, arith}
use lib.ListN.{get_elem?}
use Rattle.nub.proofs.Users.{same_on}
use Rattle.nub_rule.specs.Plays.{event, broadcast_action}
use Rattle.barrier_once.proofs.Visits.{entered_woken, woke_after}
use Rattle.barrier_once.proofs.calls.pass_last.Goals as goal

pub returns : goal.returns
returns g c = λ s b.
    let a = c.args.me.now in
    let z = c.broadcast.new.me in
    let m = c.args.at.now.bar.0 in
    let o = c.args.at.now.cond.0 in
    let w = c.args.p.now.world in
    let recorded = c.broadcast.ensures in
    let gave = c.release.ensures in
    let wake = event a.number (broadcast_action o []) in
    let holds = ap (λ h. get_elem? h m) recorded.held ∙ b.holds in
    let one = gave.stint w s c.args.bar (recorded.same.world ∙ b.world) (recorded.share ∙ b.share) holds in
    record {
      rest = gave.rest;
      same = same_on a z c.release.new.me recorded.same gave.same;
      ran = (wake ∷ [], inl refl, woke_after m o a z c.release.new.me recorded.same recorded.event gave.event, entered_woken m o (s.arrivals + 1) s.left a z c.release.new.me _ recorded.stints one refl (omega arith) refl);
      held = gave.held ∙ ap (λ h. slice_set h m None) recorded.held;
      share = gave.share w s c.args.bar (recorded.same.world ∙ b.world) (recorded.share ∙ b.share) holds;
    }
