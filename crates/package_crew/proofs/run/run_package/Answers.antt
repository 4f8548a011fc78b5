use denote.Param.Send.{sendable}
use Rattle.std.proofs.Common.{ap, rules, sym, subst, ◌∙◌}
use Rattle.nub.specs.Ended.{IsDone}
use Rattle.nub.proofs.Users.{first_own, idle_done}
use Rattle.package_crew.specs.Runs.{HasDone}
use Rattle.package_crew.proofs.Working.{have_worked}
use Rattle.package_crew.proofs.run.run_package.Goals as goal

pub at_once-requires-after_bounds : goal.at_once-requires-after_bounds
at_once-requires-after_bounds g c κs within = λ n t at.
    let opened = c.in_ok-p.ensures in
    let asks : g.W.Work.asks c.args.work.now c.in_ok-p.p.layout c.in_ok-p.p.world = rw (opened.package.0, opened.package.2) c.requires.asks in
    let first = first_own c.in_ok-p.p (g.U.Uses.begin) n t (opened.threads n t at) in
    ((asks, first), let b = c.type_bounds in search (sendable, b) depth 20)

pub close_package-requires-clause-count : goal.close_package-requires-clause-count
close_package-requires-clause-count g c κs within =
    c.in_ok-threads.ensures.threads ∙ (c.in_ok-p.ensures.count ∙ sym (ap (λ l. l.threads) c.in_ok-p.ensures.package.0))

pub close_package-requires-clause-version : goal.close_package-requires-clause-version
close_package-requires-clause-version g c κs within = ap (λ l. l.version) c.in_ok-p.ensures.package.0 ∙ c.requires.version

pub close_package-requires-clause-threads : goal.close_package-requires-clause-threads
close_package-requires-clause-threads g c κs within = λ n t at.
    let p = c.in_ok-p.p in
    let back = c.in_ok-threads.ensures.each n t at in
    let goes = back.goes in
    let own : HasDone p (g.W.Work.did c.args.work.now p.world) back.was.number t back.left = search rules in
    let number = (c.in_ok-p.ensures.threads n back.was back.is_was).number in
    subst (λ k. IsDone p k t) number (idle_done p back.was.number own.0 t own.1)

pub returns-clause-worked : goal.returns-clause-worked
returns-clause-worked g c =
    let p = c.in_ok-p.p in
    let opened = c.in_ok-p.ensures in
    let back = c.in_ok-threads.ensures in
    let did = g.W.Work.did c.args.work.now p.world in
    let worked = have_worked p (g.U.Uses.holds p.world) did c.in_ok-p.threads.items c.in_ok-threads.threads.items c.in_ok-closed.closed.values c.in_ok-threads.left.items
    (λ n t at. (opened.threads n t at).number)
    (λ n t at.
    let b = back.each n t at in
    let goes = b.goes in
    let own : HasDone p did b.was.number t b.left = search rules in
    record { was = b.was; is_was = b.is_was; left = b.left; is_left = b.is_left; goes = own })
    (back.results ∙ sym back.threads)
    c.in_ok-closed.ensures.values.1 in
    rw (← c.in_ok-closed.ensures.threads, opened.package.2) at worked
