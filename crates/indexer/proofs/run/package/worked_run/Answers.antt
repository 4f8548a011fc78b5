use Rattle.std.proofs.Common.{List, None, [], ap, sym, subst, ◌+◌, ◌∙◌, ◌≤◌, arith, length}
use lib.ListN.{get_elem?}
use Rattle.larch_actions.specs.declared.event.Layout.{Layout}
use Rattle.nub.specs.Ended.{IsWhole, KeepsLocks}
use Rattle.indexer.specs.Plans.{layout_of}
use Rattle.indexer.specs.Turns.{Worker}
use Rattle.index_rule.specs.Work.{KeepsWork}
use Rattle.firefly_outside.specs.Trees.{Path}
use Rattle.index_findings.specs.Visits.{AreFound, AreVisits}
use Rattle.indexer.specs.Once.{IsWorkedOnce}
use Rattle.indexer.proofs.Together.{pieces_of, visits_of}
use Rattle.indexer.proofs.RunOnce.{all_apart, all_found, all_visits_once, worked_once}
use Rattle.indexer.proofs.RunLaws.{first_fresh, all_many, one_fewer, all_done, all_found_by, all_pieces}
use Rattle.indexer.proofs.TreesLaws.{left_found, on_err_if}
use Rattle.indexer.proofs.run.package.worked_run.Goals as goal

pub run_workers-requires-clause-threads : goal.run_workers-requires-clause-threads
run_workers-requires-clause-threads g c κs within = λ n x at. first_fresh c.in_ok-p.p n x (c.in_ok-p.ensures.threads n x at)

pub run_workers-requires-clause-root : goal.run_workers-requires-clause-root
run_workers-requires-clause-root g c κs within = sym c.in_ok-p.ensures.package.2

pub run_workers-requires-clause-caller : goal.run_workers-requires-clause-caller
run_workers-requires-clause-caller g c κs within = let count = c.in_ok-p.ensures.count in omega arith

pub close_package-requires-clause-count : goal.close_package-requires-clause-count
close_package-requires-clause-count g c κs =
    let crew = c.in-Ok.ensures.crew in
    all_many c.in_ok-p.threads.items crew.back c.in-Ok.all.items crew.last (layout_of c.args.plan.now).threads crew.is_all crew.many c.in_ok-p.ensures.count (omega arith)
    ∙ sym (ap (λ (l : Layout). l.threads) c.in_ok-p.ensures.package.0)

pub close_package-requires-clause-version : goal.close_package-requires-clause-version
close_package-requires-clause-version g c κs = ap (λ (l : Layout). l.version) c.in_ok-p.ensures.package.0

pub close_package-requires-clause-threads : goal.close_package-requires-clause-threads
close_package-requires-clause-threads g c κs =
    let S = g.S.Tree in
    let plan = c.args.plan.now in
    let crew = c.in-Ok.ensures.crew in
    let done = all_done S.tree S.may_fail S.faults S.calls c.args.root.now c.in_ok-p.p plan.walkers (plan.walkers + plan.parsers) c.in_ok-p.threads.items crew.caller crew.last crew.back c.in-Ok.findings.items c.args.trees.now c.run_workers.new.trees
    c.in_ok-p.ensures.threads crew.is_caller (crew.called.called None [] 0) crew.worked in
    λ n x at. done n x (ap (λ (l : List Worker). get_elem? l n) (sym crew.is_all) ∙ at)

pub returns-clause-run : goal.returns-clause-run
returns-clause-run g c =
    let S = g.S.Tree in
    let p = c.in_ok-p.p in
    let threads = c.in_ok-p.threads.items in
    let plan = c.args.plan.now in
    let root = c.args.root.now in
    let old = c.args.trees.now in
    let new = c.run_workers.new.trees in
    let crew = c.in-Ok.ensures.crew in
    let findings = c.in-Ok.findings.items in
    let opened = c.in_ok-p.ensures.package in
    let firsts = c.in_ok-p.ensures.threads in
    let closed = c.in_ok-closed.closed in
    let ended = c.in_ok-closed.ensures in
    let n = plan.walkers + plan.parsers in
    let three = ended.values.0 ∙ ap (λ (l : Layout). l.mutexes) opened.0 in
    let locks = subst (λ (l : List Worker). KeepsLocks (KeepsWork p.world) l closed.values) crew.is_all ended.values.1 in
    record {
      layout = ended.layout ∙ opened.0;
      untraced = λ no. (ended.untraced (opened.1 ∙ no)).1;
      traced = λ yes.
          let whole = ended.traced (opened.1 ∙ yes) in
          (whole.0, whole.1, subst (λ (l : Layout). IsWhole l closed.threads whole.0) opened.0 (subst (λ (l : List Worker). IsWhole p.layout l whole.0) (sym ended.threads) whole.2));
      count = one_fewer threads findings (layout_of plan).threads (crew.found ∙ crew.many) c.in_ok-p.ensures.count (omega arith);
      found = all_found_by S.tree S.may_fail S.faults S.calls root p plan.walkers (plan.walkers + plan.parsers) threads crew.last crew.back closed.threads findings old new firsts crew.found (ended.threads ∙ crew.is_all) crew.worked;
      pieces = λ o shows. all_pieces S.tree S.may_fail S.faults S.calls root p o plan.walkers (plan.walkers + plan.parsers) threads crew.caller crew.last crew.back findings old new shows firsts crew.is_caller (crew.called.called o root 0) crew.worked
          closed.values (ended.values.0 ∙ ap (λ (l : Layout). l.mutexes) opened.0) (subst (λ (l : List Worker). KeepsLocks (KeepsWork p.world) l closed.values) crew.is_all ended.values.1) crew.found;
      visits = subst (λ (r : Path). AreVisits r (visits_of findings)) opened.2 (all_visits_once S.tree S.may_fail S.faults S.calls root p plan.walkers n threads crew.caller crew.last crew.back findings old new firsts crew.is_caller crew.called crew.worked closed.values three locks crew.found);
      apart = all_apart S.tree S.may_fail S.faults S.calls root p plan.walkers n threads crew.caller crew.last crew.back findings old new firsts crew.is_caller crew.called crew.worked closed.values three locks crew.found;
      covered = subst (λ (r : Path). AreFound r (visits_of findings) (pieces_of findings)) opened.2 (all_found S.tree S.may_fail S.faults S.calls root p plan.walkers n threads crew.caller crew.last crew.back findings old new firsts crew.is_caller crew.called crew.worked closed.values three locks crew.found);
      once = λ t shows kept. subst (λ (r : Path). IsWorkedOnce S.calls r n old new (visits_of findings) (pieces_of findings)) opened.2
          (worked_once S.tree S.may_fail S.faults S.calls root p plan.walkers n threads crew.caller crew.last crew.back findings old new firsts crew.is_caller crew.called crew.worked closed.values three locks crew.found t shows kept
          (let count = one_fewer threads findings (layout_of plan).threads (crew.found ∙ crew.many) c.in_ok-p.ensures.count (omega arith) in let some = c.requires.plan.mergers in omega arith));
      others = crew.others;
    }

pub returns-in_err-closed-clause-left : goal.returns-in_err-closed-clause-left
returns-in_err-closed-clause-left g c =
    let S = g.S.Tree in
    let plan = c.args.plan.now in
    let n = plan.walkers + plan.parsers in
    let threads = c.in_ok-p.threads.items in
    let crew = c.in-Ok.ensures.crew in
    let findings = c.in-Ok.findings.items in
    let old = c.args.trees.now in
    let new = c.run_workers.new.trees in
    let count = one_fewer threads findings (layout_of plan).threads (crew.found ∙ crew.many) c.in_ok-p.ensures.count (omega arith) in
    let many : n ≤ length findings = omega arith in
    on_err_if c.from_residual-in_err-closed.result
    (left_found S.tree S.may_fail S.faults S.calls c.args.root.now plan.walkers n c.in-Ok.all.items findings old new many
    (all_found_by S.tree S.may_fail S.faults S.calls c.args.root.now c.in_ok-p.p plan.walkers n threads crew.last crew.back c.in-Ok.all.items findings old new c.in_ok-p.ensures.threads crew.found crew.is_all crew.worked)
    crew.others)
