use Rattle.std.proofs.Common.{[], List, None, not, ◌||◌, refl, subst}
use Rattle.index_findings.specs.declared.read_files.ReadFile.{ReadFile}
use Rattle.indexer.specs.Gets.{OfShare, nothing}
use Rattle.indexer.specs.States.{HasGathered, lot_paths}
use Rattle.indexer.proofs.Getting.{gets_after}
use Rattle.indexer.proofs.ParseShares.{share_took}
use Rattle.indexer.proofs.ReadFileLaws.{given_called}
use Rattle.indexer.proofs.Turning.{called_then, still_between}
use Rattle.indexer.proofs.workers.parser.end_pieces.Goals as goal

pub end_parser-requires-clause-between : goal.end_parser-requires-clause-between
end_parser-requires-clause-between g c =
    let o = c.requires.read.0 in
    still_between o c.args.root.now [] c.args.p.now c.args.me.now c.pass_files-all_given.new.me c.requires.between (c.pass_files-all_given.ensures.passed o 0 c.requires.read.1).given.called.back

pub shut_pieces-requires-clause-between : goal.shut_pieces-requires-clause-between
shut_pieces-requires-clause-between g c =
    let o = c.requires.read.0 in
    still_between None [] [] c.args.p.now c.pass_files-all_given.new.me c.end_parser.new.me
    (still_between o c.args.root.now [] c.args.p.now c.args.me.now c.pass_files-all_given.new.me c.requires.between (c.pass_files-all_given.ensures.passed o 0 c.requires.read.1).given.called.back)
    (c.end_parser.ensures.called None [] 0).back

pub returns-then-end_parser-clause-given : goal.returns-then-end_parser-clause-given
returns-then-end_parser-clause-given g c = λ o m read.
    let root = c.args.root.now in
    let p = c.args.p.now in
    given_called o root p m c.args.kept.now.items c.pass_files-all_given.new.kept.items c.args.me.now c.pass_files-all_given.new.me c.shut_pieces.new.me (c.pass_files-all_given.ensures.passed o m read).given
    (called_then o root p m c.pass_files-all_given.new.me c.end_parser.new.me c.shut_pieces.new.me (c.end_parser.ensures.called o root m) (c.shut_pieces.ensures.called o root m))

pub returns-else-end_parser-clause-given : goal.returns-else-end_parser-clause-given
returns-else-end_parser-clause-given g c = λ o m read.
    given_called o c.args.root.now c.args.p.now m c.args.kept.now.items c.pass_files-all_given.new.kept.items c.args.me.now c.pass_files-all_given.new.me c.end_parser.new.me (c.pass_files-all_given.ensures.passed o m read).given
    (c.end_parser.ensures.called o c.args.root.now m)

pub returns-then-end_parser-clause-share : goal.returns-then-end_parser-clause-share
returns-then-end_parser-clause-share g c = λ files lost was.
    let p = c.args.p.now in
    let w = p.world in
    let b = c.pass_files-all_given.new.me in
    let kept = c.pass_files-all_given.new.kept.items in
    let o = c.requires.read.0 in
    let all = lost || not c.pass_files-all_given.result in
    let between = still_between o c.args.root.now [] p c.args.me.now b c.requires.between (c.pass_files-all_given.ensures.passed o 0 c.requires.read.1).given.called.back in
    let here = subst (λ (fs : List ReadFile). OfShare b (HasGathered w (lot_paths fs) kept files all)) (c.pass_files-all_given.ensures.empty refl) (c.pass_files-all_given.ensures.share files lost was) in
    share_took p [] kept files all b c.shut_pieces.new.me between [] (gets_after p nothing b c.end_parser.new.me c.shut_pieces.new.me c.end_parser.ensures.gets c.shut_pieces.ensures.gets) here

pub returns-else-end_parser-clause-share : goal.returns-else-end_parser-clause-share
returns-else-end_parser-clause-share g c = λ files lost was.
    let p = c.args.p.now in
    let w = p.world in
    let b = c.pass_files-all_given.new.me in
    let kept = c.pass_files-all_given.new.kept.items in
    let o = c.requires.read.0 in
    let all = lost || not c.pass_files-all_given.result in
    let between = still_between o c.args.root.now [] p c.args.me.now b c.requires.between (c.pass_files-all_given.ensures.passed o 0 c.requires.read.1).given.called.back in
    let here = subst (λ (fs : List ReadFile). OfShare b (HasGathered w (lot_paths fs) kept files all)) (c.pass_files-all_given.ensures.empty refl) (c.pass_files-all_given.ensures.share files lost was) in
    share_took p [] kept files all b c.end_parser.new.me between [] c.end_parser.ensures.gets here
