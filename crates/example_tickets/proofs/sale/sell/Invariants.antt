use Rattle.std.proofs.Common.{◌≡◌}
use Rattle.firefly_threads.specs.Idle.{IsIdle}
use Rattle.example_tickets.specs.declared.uses.Sold.{Sold}
use Rattle.example_tickets.proofs.sale.sell.Given as goal

abbrev pub invariant-loop : goal.invariant-loop
invariant-loop g l = (s : Sold) × IsIdle l.p l.initial.me.number s l.me × (s.count ≡ l.sold)
