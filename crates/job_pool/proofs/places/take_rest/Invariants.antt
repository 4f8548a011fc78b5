use Rattle.std.proofs.Common.{[], List}
use Rattle.job_pool.specs.declared.item.Item.{Item}
use Rattle.job_pool.specs.Batches.{IsPlaced}
use Rattle.job_pool.specs.Slots.{MayBeWorked}
use Rattle.job_pool.specs.Working.{HasMoved, takes_of}
use Rattle.job_pool.proofs.places.take_rest.Given as goal

abbrev pub invariant-loop : goal.invariant-loop
invariant-loop g l =
    record {
      moved : (taken : List (Item _)) × HasMoved l.p [] taken l.initial.me l.me;
      placed : IsPlaced (MayBeWorked g.J.Job.state g.J.Job.gives g.J.Job.next) (takes_of l.me) l.places;
    }
