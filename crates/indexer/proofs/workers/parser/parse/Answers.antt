use Rattle.std.proofs.Common.{[], ◌≡◌, ◌++◌, ◌∙◌, List, Bool, not, false, ◌||◌, None, Option, sym, subst}
use Rattle.std.specs.Prelude.{IfSome}
use Rattle.std.proofs.lemmas.Option.{same_Some}
use Rattle.word_index.specs.Index.{Index}
use Rattle.index_findings.specs.Visits.{dirs_listed}
use Rattle.index_findings.specs.declared.read_files.ReadFile.{ReadFile}
use Rattle.index_rule.specs.Shares.{blank}
use Rattle.indexer.specs.States.{HasGathered, lot_paths}
use Rattle.indexer.proofs.ParseShares.{gathered_left, gathered_none, nothing_read, read_on}
use Rattle.indexer.proofs.WalkSteps.{reads_only}
use Rattle.firefly_outside.specs.Trees.{Contents}
use Rattle.firefly_outside.specs.declared.tree.Kind.TheVariants.{File}
use Rattle.index_findings.specs.declared.findings.Fault.{Fault}
use Rattle.index_findings.specs.ReadFiles.{AreRead}
use Rattle.indexer.specs.Walks.{HasDone, fault_in, is_lost}
use Rattle.indexer.proofs.ReadFileLaws.{parsed_all, parsed_between, parsed_none, parsed_on}
use Rattle.indexer.proofs.workers.parser.parse.Goals as goal

pub loop-init : goal.loop-init
loop-init g c =
    let S = g.S.Tree in
    let w = c.args.p.now.world in
    record {
      parsed = parsed_none S.tree S.may_fail S.faults S.calls c.args.root.now c.args.p.now c.args.tree.now c.new-loaded.result.files.items c.new-kept.result.items c.args.me.now c.new-loaded.ensures.files c.new-kept.ensures.items;
      files = [];
      share = λ u at.
          subst (λ (fs : List ReadFile). HasGathered w (lot_paths fs) c.new-kept.result.items [] false u) (sym c.new-loaded.ensures.files)
          (subst (λ (ps : List Index). HasGathered w [] ps [] false u) (sym c.new-kept.ensures.items) (subst (HasGathered w [] [] [] false) (same_Some blank u (sym c.requires.ready.1.share ∙ at)) (gathered_none w)));
      read = nothing_read (S.tree c.args.tree.now) (S.calls c.args.tree.now);
    }

pub parse_once-requires-clause-between : goal.parse_once-requires-clause-between
parse_once-requires-clause-between g c κs within =
    let S = g.S.Tree in
    parsed_between S.tree S.may_fail S.faults S.calls c.args.root.now c.args.p.now c.args.tree.now c.loop.tree c.loop.loaded.files.items [] c.loop.kept.items c.args.me.now c.loop.me None false (c.requires.ready.0, blank, c.requires.ready.1) c.loop.invariant.parsed

pub parse_once-requires-clause-read : goal.parse_once-requires-clause-read
parse_once-requires-clause-read g c κs within = subst (λ (o : Option Contents). AreRead o c.loop.loaded.files.items) (sym c.loop.invariant.parsed.tree_stays) c.loop.invariant.parsed.read

pub loop-preserved : goal.loop-preserved
loop-preserved g c =
    let S = g.S.Tree in
    let was = c.loop.invariant in
    let more = c.in-Ok.ensures.share was.files was.share in
    record {
      parsed = parsed_on S.tree S.may_fail S.faults S.calls c.args.root.now c.args.p.now c.args.tree.now c.loop.tree c.parse_once.new.tree c.loop.loaded.files.items c.parse_once.new.loaded.files.items
          [] c.loop.kept.items c.parse_once.new.kept.items c.args.me.now c.loop.me c.parse_once.new.me None false was.parsed c.in-Ok.ensures.parsed;
      files = was.files ++ more.0;
      share = more.1;
      read = read_on (S.tree c.loop.tree) (S.tree c.args.tree.now) (S.calls c.args.tree.now) (S.calls c.loop.tree) (S.calls c.parse_once.new.tree) was.files more.0 was.parsed.tree_stays was.read more.2;
    }

pub end_pieces-all_given-requires-clause-read : goal.end_pieces-all_given-requires-clause-read
end_pieces-all_given-requires-clause-read g c = (g.S.Tree.tree c.loop.tree, c.in-Err.ensures.parsed.read)

pub end_pieces-all_given-requires-clause-between : goal.end_pieces-all_given-requires-clause-between
end_pieces-all_given-requires-clause-between g c =
    let S = g.S.Tree in
    parsed_between S.tree S.may_fail S.faults S.calls c.args.root.now c.args.p.now c.args.tree.now c.parse_once.new.tree c.parse_once.new.loaded.files.items [] c.parse_once.new.kept.items c.args.me.now c.parse_once.new.me (fault_in c.in-Err.end) (is_lost c.in-Err.end) (c.requires.ready.0, blank, c.requires.ready.1)
    (parsed_on S.tree S.may_fail S.faults S.calls c.args.root.now c.args.p.now c.args.tree.now c.loop.tree c.parse_once.new.tree c.loop.loaded.files.items c.parse_once.new.loaded.files.items
    [] c.loop.kept.items c.parse_once.new.kept.items c.args.me.now c.loop.me c.parse_once.new.me (fault_in c.in-Err.end) (is_lost c.in-Err.end) c.loop.invariant.parsed c.in-Err.ensures.parsed)

pub returns-in-Err : goal.returns-in-Err
returns-in-Err g c =
    let S = g.S.Tree in
    let first = c.args.tree.now in
    let then = c.parse_once.new in
    let end = c.in-Err.end in
    let wants = not c.end_pieces-all_given.result in
    let turns = parsed_on S.tree S.may_fail S.faults S.calls c.args.root.now c.args.p.now first c.loop.tree then.tree c.loop.loaded.files.items then.loaded.files.items
    [] c.loop.kept.items then.kept.items c.args.me.now c.loop.me then.me (fault_in end) (is_lost end) c.loop.invariant.parsed c.in-Err.ensures.parsed in
    let all = parsed_all S.tree S.may_fail S.faults S.calls c.args.root.now c.args.p.now first then.tree then.loaded.files.items then.kept.items c.end_pieces-all_given.new.kept.items c.args.me.now then.me c.end_pieces-all_given.new.me (fault_in end) (is_lost end) wants c.new.result.items
    turns (c.end_pieces-all_given.ensures.given (S.tree first) 1 turns.read) c.new.ensures.items in
    let was = c.loop.invariant in
    let more = c.in-Err.ensures.share was.files was.share in
    let files = was.files ++ more.0 in
    let left = c.end_pieces-all_given.ensures.share files (is_lost end) more.1 in
    let read = read_on (S.tree c.loop.tree) (S.tree first) (S.calls first) (S.calls c.loop.tree) (S.calls then.tree) was.files more.0 was.parsed.tree_stays was.read more.2 in (
      all.0,
      all.1,
      subst (λ (o : Option Fault). HasDone File (S.tree first) c.args.root.now (S.may_fail first) (S.faults first) (S.faults then.tree) (S.calls first) (S.calls then.tree) c.args.p.now 0 c.args.me.now c.end_pieces-all_given.new.me c.new.result.items c.end_pieces-all_given.new.kept.items o (c.parts-fault.result.1 || wants)) (sym c.parts-fault.ensures.fault)
          (subst (λ (b : Bool). HasDone File (S.tree first) c.args.root.now (S.may_fail first) (S.faults first) (S.faults then.tree) (S.calls first) (S.calls then.tree) c.args.p.now 0 c.args.me.now c.end_pieces-all_given.new.me c.new.result.items c.end_pieces-all_given.new.kept.items (fault_in end) (b || wants)) (sym c.parts-fault.ensures.lost) all.2),
      (
        files,
        (λ u at. gathered_left c.args.p.now.world _ files u c.new.ensures.items
            (subst (λ (b : Bool). HasGathered c.args.p.now.world [] c.end_pieces-all_given.new.kept.items files (b || wants) u) (sym c.parts-fault.ensures.lost) (left u at))),
        subst (λ (b : Bool). IfSome (S.tree first) (λ t. ((S.calls then.tree).files_read ≡ (S.calls first).files_read ++ files) × ((b || wants) ≡ false → (S.calls then.tree).listed ≡ (S.calls first).listed ++ dirs_listed c.new.result.items))) (sym c.parts-fault.ensures.lost)
            (reads_only (S.tree first) (S.may_fail first) (S.calls first) (S.calls then.tree) c.new.result.items (fault_in end) (is_lost end || wants) 0 c.args.me.now c.end_pieces-all_given.new.me files c.new.ensures.items all.2.reported read),
      ),
    )

pub parse_once-requires-clause-share : goal.parse_once-requires-clause-share
parse_once-requires-clause-share g c κs within = (c.loop.invariant.files, c.loop.invariant.share)

pub end_pieces-all_given-requires-clause-share : goal.end_pieces-all_given-requires-clause-share
end_pieces-all_given-requires-clause-share g c =
    let was = c.loop.invariant in
    let more = c.in-Err.ensures.share was.files was.share in
    (was.files ++ more.0, is_lost c.in-Err.end, more.1)
