use Rattle.std.proofs.Common.{◌≡◌, ◌+◌, ℕ, Option, Err, IfSome, refl, sym, ap, subst, ◌∙◌, arith}
use Rattle.std.specs.Option.{unwrap_or}
use Rattle.firefly_outside.specs.Trees.{Path, Contents}
use Rattle.firefly_outside.specs.Under.{AreMany}
use Rattle.firefly_outside.specs.declared.tree.Kind.TheVariants.{File, Dir}
use Rattle.walker.specs.Closing.{IsWhole, most_dirs}
use Rattle.command_line.specs.Tasks.{options_of}
use Rattle.indexer.specs.declared.answer.IndexAnswer.TheVariants as index
use Rattle.indexer.specs.declared.plan.Plan.{Plan}
use Rattle.indexer.specs.Says as says
use Rattle.command_endings.specs.Changes.{Notes, change_of}
use Rattle.firefly.specs.IndexRun.{NoIndex}
use Rattle.firefly.specs.Looks.{look_of, looks_of}
use Rattle.command_endings.specs.Messages.{stopped_message, unreadable_message}
use Rattle.command_endings.specs.declared.status.Status.{Status}
use Rattle.firefly.proofs.Places.{all_show, first_shows, keeps, looks_many, owns, there}
use Rattle.firefly.proofs.TreeLooks.{kept_own}
use Rattle.indexer.specs.Once.{EachOnce}
use Rattle.firefly.proofs.IndexRuns.{all_back, all_own, all_still, asked_once, failed_at, no_rise, shows_work, still_spared}
use Rattle.firefly.proofs.index_run.index_by.Goals as goal

pub index-requires-clause-trees : goal.index-requires-clause-trees
index-requires-clause-trees g c κs within =
    let plan = c.plan_by-plan.ensures.lawful in
    let enough = c.requires.enough in
    omega (arith, plan.walkers.1, plan.parsers.1)

pub index-requires-clause-there : goal.index-requires-clause-there
index-requires-clause-there g c κs within = λ k low.
    let plan = c.plan_by-plan.ensures.lawful in
    let enough = c.requires.enough in
    there (look_of g.S.Tree.tree g.S.Tree.may_fail g.S.Tree.calls g.S.Tree.faults) c.requires.agree.0 c.args.trees.now c.requires.agree.1 k (omega (arith, plan.walkers.1, plan.parsers.1))

pub index-requires-clause-shows : goal.index-requires-clause-shows
index-requires-clause-shows g c κs within =
    (c.requires.agree.0, all_show (look_of g.S.Tree.tree g.S.Tree.may_fail g.S.Tree.calls g.S.Tree.faults) c.requires.agree.0 c.args.trees.now c.requires.agree.1)

pub returns-in-Stopped : goal.returns-in-Stopped
returns-in-Stopped g c =
    let S = g.S.Tree in
    let look = look_of S.tree S.may_fail S.calls S.faults in
    let o = options_of c.args.options.now in
    let reported = c.requires.agree.0 in
    let old = c.args.trees.now in
    let new = c.index.new.trees in
    let enough = c.requires.enough in
    let plan = c.plan_by-plan.ensures.plan in
    let answer = index.Stopped c.in-Stopped.found in
    let w = subst (λ (p : Plan). says.IndexSays reported o.directory p answer) plan (c.in-Stopped.ensures.says reported (all_show look reported old c.requires.agree.1)) in
    let back = subst (λ (p : Plan). says.TreesAfter S.tree S.may_fail S.faults S.calls p.walkers (p.walkers + p.parsers) old new answer) plan c.in-Stopped.ensures.trees in
    let first = first_shows reported (looks_of look old) c.requires.agree.1 (omega (arith, looks_many look old)) in
    let n = w.0.0 in
    let allowed : c.unwrap_or.result ≡ n = c.unwrap_or.ensures ∙ ap (λ (x : Option ℕ). unwrap_or x 0) w.0.1 in
    let notes = change_of g.N.Sink.held g.N.Sink.faults c.args.notes.now c.ends.new.notes in
    let many = subst (λ (k : ℕ). IfSome reported (λ t. AreMany t o.directory File k)) w.0.2 w.1 in
    let said = subst (λ (k : ℕ). Notes notes (stopped_message k n)) w.0.2 (subst (λ (k : ℕ). Notes notes (stopped_message c.in-Stopped.found k)) allowed c.ends.ensures.notes) in
    record {
      is_index = tt;
      none_rose = tt;
      once = tt;
      run = tt;
      work = tt;
      quiet = tt;
      refused = subst (λ (s : Status). NoIndex o (looks_of look old) (looks_of look new) notes s) (sym c.ends.ensures.status) (n, w.0.1, subst (λ (q : Option Contents). IfSome q (λ t. AreMany t o.directory File (n + 1))) (sym first) many, said);
      kept = λ ne. keeps look reported old new c.requires.agree.1 (omega (arith, c.index.auto.trees)) (all_back S.tree S.may_fail S.faults S.calls (o.walkers + o.parsers) old new back);
      own = kept_own (looks_of look old) (looks_of look new) (keeps look reported old new c.requires.agree.1 (omega (arith, c.index.auto.trees)) (all_back S.tree S.may_fail S.faults S.calls (o.walkers + o.parsers) old new back));
      spared = still_spared S.tree S.may_fail S.faults S.calls o old new back.others;
    }

pub returns-in-ReadFault : goal.returns-in-ReadFault
returns-in-ReadFault g c =
    let S = g.S.Tree in
    let look = look_of S.tree S.may_fail S.calls S.faults in
    let o = options_of c.args.options.now in
    let reported = c.requires.agree.0 in
    let old = c.args.trees.now in
    let new = c.index.new.trees in
    let plan = c.plan_by-plan.ensures.plan in
    let path = c.in-ReadFault.path in
    let back = subst (λ (p : Plan). says.TreesAfter S.tree S.may_fail S.faults S.calls p.walkers (p.walkers + p.parsers) old new (index.ReadFault path)) plan c.in-ReadFault.ensures.trees in
    let keep = keeps look reported old new c.requires.agree.1 (omega (arith, c.index.auto.trees)) (all_back S.tree S.may_fail S.faults S.calls (o.walkers + o.parsers) old new back) in
    let notes = change_of g.N.Sink.held g.N.Sink.faults c.args.notes.now c.ends-in-ReadFault.new.notes in
    let said = subst (λ (x : Path). Notes notes (unreadable_message x)) c.as_str.ensures c.ends-in-ReadFault.ensures.notes in
    record {
      is_index = tt;
      none_rose = tt;
      once = tt;
      run = tt;
      work = tt;
      quiet = tt;
      refused = subst (λ (s : Status). NoIndex o (looks_of look old) (looks_of look new) notes s) (sym c.ends-in-ReadFault.ensures.status) (path, failed_at S.tree S.may_fail S.faults S.calls o old new path keep c.in-ReadFault.ensures.cause, said);
      kept = λ ne. keep;
      own = kept_own (looks_of look old) (looks_of look new) keep;
      spared = still_spared S.tree S.may_fail S.faults S.calls o old new back.others;
    }

pub returns-in-TooMany : goal.returns-in-TooMany
returns-in-TooMany g c =
    let S = g.S.Tree in
    let look = look_of S.tree S.may_fail S.calls S.faults in
    let o = options_of c.args.options.now in
    let reported = c.requires.agree.0 in
    let old = c.args.trees.now in
    let new = c.index.new.trees in
    let enough = c.requires.enough in
    let plan = c.plan_by-plan.ensures.plan in
    let answer = index.TooMany c.in-TooMany.field-0 in
    let w = subst (λ (p : Plan). says.IndexSays reported o.directory p answer) plan (c.in-TooMany.ensures.says reported (all_show look reported old c.requires.agree.1)) in
    let back = subst (λ (p : Plan). says.TreesAfter S.tree S.may_fail S.faults S.calls p.walkers (p.walkers + p.parsers) old new answer) plan c.in-TooMany.ensures.trees in
    let first = first_shows reported (looks_of look old) c.requires.agree.1 (omega (arith, looks_many look old)) in
    let notes = change_of g.N.Sink.held g.N.Sink.faults c.args.notes.now c.ends-in-TooMany.new.notes in
    let many = subst (λ (k : ℕ). IfSome reported (λ t. AreMany t o.directory Dir k)) w.0 w.1 in
    record {
      is_index = tt;
      none_rose = tt;
      once = tt;
      run = tt;
      work = tt;
      quiet = tt;
      refused = subst (λ (s : Status). NoIndex o (looks_of look old) (looks_of look new) notes s) (sym c.ends-in-TooMany.ensures.status) (subst (λ (q : Option Contents). IfSome q (λ t. AreMany t o.directory Dir (most_dirs + 1))) (sym first) many, c.ends-in-TooMany.ensures.notes);
      kept = λ ne. keeps look reported old new c.requires.agree.1 (omega (arith, c.index.auto.trees)) (all_back S.tree S.may_fail S.faults S.calls (o.walkers + o.parsers) old new back);
      own = kept_own (looks_of look old) (looks_of look new) (keeps look reported old new c.requires.agree.1 (omega (arith, c.index.auto.trees)) (all_back S.tree S.may_fail S.faults S.calls (o.walkers + o.parsers) old new back));
      spared = still_spared S.tree S.may_fail S.faults S.calls o old new back.others;
    }

pub returns-in-Memory : goal.returns-in-Memory
returns-in-Memory g c =
    let S = g.S.Tree in
    let look = look_of S.tree S.may_fail S.calls S.faults in
    let o = options_of c.args.options.now in
    let old = c.args.trees.now in
    let new = c.index.new.trees in
    let left = subst (λ (p : Plan). says.TreesAfter S.tree S.may_fail S.faults S.calls p.walkers (p.walkers + p.parsers) old new index.Memory) c.plan_by-plan.ensures.plan c.in-Memory.ensures.trees in
    let notes = change_of g.N.Sink.held g.N.Sink.faults c.args.notes.now c.ends-in-Memory.new.notes in
    record {
      is_index = tt;
      none_rose = tt;
      once = tt;
      run = tt;
      work = tt;
      quiet = tt;
      refused = subst (λ (s : Status). NoIndex (options_of c.args.options.now) (looks_of look c.args.trees.now) (looks_of look c.index.new.trees) notes s) (sym c.ends-in-Memory.ensures.status) c.ends-in-Memory.ensures.notes;
      kept = λ ne. absurd (ne (ap (λ (s : Status). Err s) c.ends-in-Memory.ensures.status));
      own = owns look old new (omega (arith, c.index.auto.trees)) (all_own S.tree S.may_fail S.faults S.calls (o.walkers + o.parsers) old new left);
      spared = still_spared S.tree S.may_fail S.faults S.calls o old new left.others;
    }

pub returns-in-Done : goal.returns-in-Done
returns-in-Done g c =
    let S = g.S.Tree in
    let look = look_of S.tree S.may_fail S.calls S.faults in
    let o = options_of c.args.options.now in
    let reported = c.requires.agree.0 in
    let old = c.args.trees.now in
    let new = c.index.new.trees in
    let enough = c.requires.enough in
    let plan = c.plan_by-plan.ensures.plan in
    let lawful = c.plan_by-plan.ensures.lawful in
    let answer = index.Done c.in-Done.piece c.in-Done.closed in
    let w = subst (λ (p : Plan). says.IndexSays reported o.directory p answer) plan (c.in-Done.ensures.says reported (all_show look reported old c.requires.agree.1)) in
    let trees = subst (λ (p : Plan). says.TreesAfter S.tree S.may_fail S.faults S.calls p.walkers (p.walkers + p.parsers) old new answer) plan c.in-Done.ensures.trees in
    let first = first_shows reported (looks_of look old) c.requires.agree.1 (omega (arith, looks_many look old)) in
    record {
      is_index = subst (λ (q : Option Contents). IfSome q (λ t. IsWhole t o.directory o.stop_after c.in-Done.piece)) (sym first) w.0;
      none_rose = no_rise S.tree S.may_fail S.faults S.calls old new (all_still S.tree S.may_fail S.faults S.calls o.walkers (o.walkers + o.parsers) c.in-Done.closed.threads old new trees.0 trees.1);
      once = asked_once S.tree S.may_fail S.faults S.calls o reported old new first (omega (arith, looks_many look old, lawful.walkers.1, lawful.parsers.1, ap (λ (p : Plan). p.walkers + p.parsers) plan)) (still_spared S.tree S.may_fail S.faults S.calls o old new trees.0.others) (subst (λ (p : Plan). EachOnce S.calls reported o.directory (p.walkers + p.parsers) old new answer) plan (c.in-Done.ensures.once reported (all_show look reported old c.requires.agree.1)));
      run = w.1;
      work = shows_work S.tree S.may_fail S.faults S.calls o c.args.traced c.in-Done.closed old new w.1 trees.1;
      quiet = refl;
      refused = tt;
      kept = λ ne. keeps look reported old new c.requires.agree.1 (omega (arith, c.index.auto.trees)) (all_back S.tree S.may_fail S.faults S.calls (o.walkers + o.parsers) old new trees.0);
      own = kept_own (looks_of look old) (looks_of look new) (keeps look reported old new c.requires.agree.1 (omega (arith, c.index.auto.trees)) (all_back S.tree S.may_fail S.faults S.calls (o.walkers + o.parsers) old new trees.0));
      spared = still_spared S.tree S.may_fail S.faults S.calls o old new trees.0.others;
    }
