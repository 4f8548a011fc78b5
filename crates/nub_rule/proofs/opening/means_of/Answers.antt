use Rattle.nub_rule.proofs.opening.means_of.Goals as goal

pub returns : goal.returns
returns g c = let t = c.in_ok-threads.ensures in let p = c.in_ok-parkers.ensures in let r = c.in_ok-room.ensures in let s = c.in_ok-shelf.ensures in
    (t.items, t.capacity, p.0, p.1, r.items, r.capacity, s.items, s.capacity)
