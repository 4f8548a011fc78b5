-- A thread that has reserved room for its events is as it was.
use Rattle.std.proofs.Common.{ℕ}
use Rattle.nub_rule.specs.Known.{Known, Shape, with_room_for}
use Rattle.nub.specs.Ended.{IsFirst}
use Rattle.nub.specs.Forks.{IsRight}
use Rattle.nub.specs.Holding.{IsHolding}
use Rattle.nub.specs.Idle.{IsIdle}
use Rattle.nub.specs.Rest.{AtRest}

module _ {T H W : Type 0} (p : Shape W) (room : ℕ) (k : Known T H W) where
  pub rest_roomy : AtRest p k → AtRest p (with_room_for room k)
  rest_roomy r = record {
    of = r.of;
    named = r.named;
    outside = record {
      spin = r.outside.spin;
      queue = r.outside.queue;
      owed = r.outside.owed;
      left = r.outside.left;
      stand = r.outside.stand;
      pen = r.outside.pen;
      live = r.outside.live;
    };
    wait = r.wait;
    raised = r.raised;
    calling = r.calling;
    turns = r.turns;
    cleared = r.cleared;
    looked = r.looked;
    taken = r.taken;
    stored = r.stored;
    child = r.child;
    version = r.version;
  }

  pub idle_roomy : (n : ℕ) (s : H) → IsIdle p n s k → IsIdle p n s (with_room_for room k)
  idle_roomy n s i = record {
    number = i.number;
    rest = rest_roomy i.rest;
    world = i.world;
    lacks = i.lacks;
    lacks_named = i.lacks_named;
    none = i.none;
    share = i.share;
  }

  pub holding_roomy : (n m : ℕ) (s : H) (x : T) → IsHolding p n m s x k → IsHolding p n m s x (with_room_for room k)
  holding_roomy n m s x h = record {
    number = h.number;
    rest = rest_roomy h.rest;
    world = h.world;
    holds = h.holds;
    lacks = h.lacks;
    lacks_named = h.lacks_named;
    none = h.none;
    share = h.share;
  }

  pub first_roomy : (begin : W → ℕ → H) (n : ℕ) → IsFirst p begin n k → IsFirst p begin n (with_room_for room k)
  first_roomy begin n f = record {
    number = f.number;
    rest = rest_roomy f.rest;
    world = f.world;
    seen = f.seen;
    mine = f.mine;
    few = f.few;
    lacks = f.lacks;
    size = f.size;
    none = f.none;
    share = f.share;
    stints = f.stints;
  }

  pub right_roomy : (begin : W → ℕ → H) (n : ℕ) → IsRight p begin n k → IsRight p begin n (with_room_for room k)
  right_roomy begin n r = record {
    number = r.number;
    left = record { of = r.left.of; named = r.left.named; stored = r.left.stored };
    world = r.world;
    seen = r.seen;
    mine = r.mine;
    share = r.share;
    stints = r.stints;
  }
