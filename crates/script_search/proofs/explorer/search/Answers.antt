use Rattle.std.proofs.Common.{length}
use Rattle.script_search.specs.Founds.{moments_of}
use Rattle.script_search.proofs.Searching.{searched_all}
use Rattle.script_search.proofs.Tells.{not_below}
use Rattle.script_search.proofs.explorer.search.Goals as goal

pub returns-clause-ok : goal.returns-clause-ok
returns-clause-ok c =
    searched_all c.args.plan.now.layout c.args.plan.now.lines c.requires.script c.args.limit c.loop-alloc.found c.loop-alloc.place c.loop-alloc.invariant
    (not_below c.has.result c.loop-alloc.place (length (moments_of c.loop-alloc.found)) c.has.ensures c.loop-alloc-test.false)
