use Rattle.std.proofs.Common.{◌≡◌, [], ◌∷◌, Some, refl, ap, subst, ◌∙◌}
use lib.ListN.{get_elem?}
use Rattle.nub_rule.specs.Plays.{acquire_event, event, broadcast_action, release_event}
use Rattle.nub.proofs.Adding.{added}
use Rattle.nub.proofs.Holding.{held_back}
use Rattle.nub.proofs.Users.{idle_again, same_on}
use Rattle.bounded_buffer.proofs.Ending.{then_added, then_adds}
use Rattle.bounded_buffer.proofs.shuts.shut.Goals as goal

pub give-requires-clause-may : goal.give-requires-clause-may
give-requires-clause-may g c κs within =
    let has = c.acquire_ring-ring.ensures.has in (
      has.0,
      ap (λ l. get_elem? l c.args.at.now.mutex.0) (c.broadcast-2.ensures.held ∙ c.broadcast.ensures.held) ∙ has.1,
      λ s y own is. (g.met.B.BufferUse.shut_allowed c.args.p.now.world c.args.at.now c.requires.buffer c.broadcast-2.new.me.number has.0 y s c.acquire_ring-ring.result c.shut.new.self has.3 is c.shut.ensures).0,
    )

pub returns : goal.returns
returns g c =
    let w = c.args.p.now.world in
    let at = c.args.at.now in
    let m = at.mutex.0 in
    let a = c.args.me.now in
    let one = c.acquire_ring-ring.new.me in
    let two = c.broadcast.new.me in
    let three = c.broadcast-2.new.me in
    let e = c.give.new.me in
    let got = c.acquire_ring-ring.ensures in
    let has = got.has in
    let gave = c.give.ensures in
    let y = gave.share.0 in
    let same_two = same_on a one two got.same c.broadcast.ensures.same in
    let same_three = same_on a two three same_two c.broadcast-2.ensures.same in
    let same = same_on a three e same_three gave.same in
    let stays = c.broadcast-2.ensures.held ∙ c.broadcast.ensures.held in
    let held = held_back a three e m has.0 c.requires.lacks (stays ∙ has.2) gave.held in
    let first = added [] (acquire_event a.number m) a one got.event in
    let second = then_added (acquire_event a.number m ∷ []) (λ n. []) (λ n. event n (broadcast_action at.room.0 [])) a one two got.same first c.broadcast.ensures.event in
    let third = then_added (acquire_event a.number m ∷ event a.number (broadcast_action at.room.0 []) ∷ []) (λ n. []) (λ n. event n (broadcast_action at.more.0 [])) a two three same_two second c.broadcast-2.ensures.event in
    record {
      rest = gave.rest;
      same = same;
      held = held;
      idle = λ n s r i own. idle_again c.args.p.now n s r a e i gave.rest same held own;
      shut = λ s own.
          let law = g.met.B.BufferUse.shut_allowed w at c.requires.buffer a.number has.0 y s c.acquire_ring-ring.result c.shut.new.self has.3 gave.share.1 c.shut.ensures in
          let holds = ap (λ l. get_elem? l m) stays ∙ has.1 in
          record {
            events = then_adds (acquire_event a.number m ∷ event a.number (broadcast_action at.room.0 []) ∷ event a.number (broadcast_action at.more.0 []) ∷ []) (λ n. []) (λ n. release_event n m) a three e same_three third gave.event.1;
            share = g.B.Shut.Change.after w m a.number has.0 y s;
            is_share = subst (λ n. e.share ≡ Some (g.B.Shut.Change.after w m n has.0 y s)) same_three.number (gave.share.2 s has.0 (c.broadcast-2.ensures.share ∙ (c.broadcast.ensures.share ∙ (got.share ∙ own))) holds);
            here = law.1.here;
            elsewhere = law.1.elsewhere;
            looked = (has.0, y, c.acquire_ring-ring.result, c.shut.new.self, has.3, gave.share.1, c.shut.ensures, refl);
          };
    }
