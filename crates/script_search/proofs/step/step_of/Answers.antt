use Rattle.std.proofs.Common.{◌≡◌, None, refl, arith, get_or, subst}
use Rattle.script_text.specs.Runs.{event}
use Rattle.script_plays.specs.declared.choice.Choice.{Choice}
use Rattle.script_search.specs.Boards.{moment_of}
use Rattle.script_search.specs.Ways.{Leads}
use Rattle.script_search.proofs.Stepping.{choice_there, way_there, none_more, no_step, step_none}
use Rattle.script_search.proofs.Trying.{some_same}
use Rattle.script_search.proofs.step.step_of.Goals as goal
use Rattle.script_search.proofs.step.step_of.Goals.{in-Some+in_ok-events+in_default-2, in_default}

pub loop-k-init : goal.loop-k-init
loop-k-init c = λ j d low way. omega arith

pub leads-requires-clause-may : goal.leads-requires-clause-may
leads-requires-clause-may c =
    c.ways-ways.ensures.may c.loop-k.k c.in-Some.choice
    (choice_there c.args.plan.now.layout c.args.plan.now.lines (moment_of c.args.from.now) (moment_of c.args.to.now) c.args.t c.ways-ways.result c.loop-k.k c.in-Some.choice c.ways-ways.ensures c.loop-k-test.true c.in-Some.is)

pub loop-k-preserved : goal.loop-k-preserved
loop-k-preserved c =
    let l = c.args.plan.now.layout in
    let xs = c.args.plan.now.lines in
    let m = moment_of c.args.from.now in
    let n = moment_of c.args.to.now in
    let t = c.args.t in
    let cs = c.ways-ways.result in
    none_more l xs m n t cs c.loop-k.k c.loop-k.invariant (λ d way.
    let there = way_there l xs m n t cs c.loop-k.k d c.ways-ways.ensures c.loop-k-test.true way in
    elim c.match-ways-k.branch [
      | in-Some+in_ok-events+in_default-2 w ↦
          let own = w.in-Some.choice in
          let is = some_same d own (get_or cs c.loop-k.k None) there w.in-Some.is in
          step_none l xs m n t (λ e. e ≡ event t own.action) w.in_ok-events.field-0 w.in_default-2.not-Some w.in_ok-events.ensures (event t own.action) refl
          (subst (λ (z : Choice). Leads l xs m n (event t z.action)) is way.1)
      | in_default w ↦ w.in_default.not-Some d there
    ])

pub returns : goal.returns
returns c = no_step c.args.plan.now.layout c.args.plan.now.lines (moment_of c.args.from.now) (moment_of c.args.to.now) c.args.t c.ways-ways.result c.loop-k.k c.ways-ways.ensures c.loop-k-test.false c.loop-k.invariant
