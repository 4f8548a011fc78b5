use Rattle.std.proofs.Common.{List, false, not, ◌||◌, sym, subst}
use Rattle.std.proofs.lemmas.List.Elements.{All-nil}
use Rattle.index_findings.specs.declared.read_files.ReadFile.{ReadFile}
use Rattle.index_findings.specs.ReadFiles.{AreRead, IsRead}
use Rattle.indexer.specs.Gets.{OfShare}
use Rattle.indexer.specs.States.{HasGathered, lot_paths}
use Rattle.indexer.proofs.ReadFileLaws.{given_called, given_none}
use Rattle.indexer.proofs.ParseShares.{made_of, may_pass, not_due, share_passed, share_still, share_without}
use Rattle.indexer.proofs.workers.parser.pass_files.Goals as goal

pub give_pieces-requires-clause-pieces : goal.give_pieces-requires-clause-pieces
give_pieces-requires-clause-pieces g c =
    let o = c.requires.read.0 in
    (o, c.args.root.now, c.in-Ok.ensures.files o (subst (AreRead o) (sym c.take_all.ensures.files) c.requires.read.1))

pub give_pieces-requires-clause-may : goal.give_pieces-requires-clause-may
give_pieces-requires-clause-may g c s at =
    let w = c.args.p.now.world in
    let own = c.requires.share in
    let was = own.2 s at in
    may_pass w (lot_paths c.args.loaded.now.files.items) c.args.kept.now.items own.0 own.1 s c.in-Ok.pieces.items was
    (made_of w c.args.root.now c.args.loaded.now.files.items c.take_all.result.items c.in-Ok.pieces.items c.args.kept.now.items own.0 own.1 s c.requires.root c.take_all.ensures.files c.in-Ok.ensures.files c.in-Ok.ensures.covers c.in-Ok.ensures.apart was)

pub returns-in-Ok-clause-share : goal.returns-in-Ok-clause-share
returns-in-Ok-clause-share g c = λ files lost was.
    let p = c.args.p.now in
    let w = p.world in
    let loaded = lot_paths c.args.loaded.now.files.items in
    let kept = c.args.kept.now.items in
    let more = c.give_pieces.ensures.gets in
    subst (λ (fs : List ReadFile). OfShare c.give_pieces.new.me (HasGathered w (lot_paths fs) c.give_pieces.new.kept.items files (lost || not c.give_pieces.result))) (sym c.take_all.ensures.empty)
    (share_passed p loaded kept files lost c.args.me.now c.give_pieces.new.me c.requires.between c.give_pieces.new.kept.items more.0 c.give_pieces.result c.in-Ok.pieces.items
    (λ s h. made_of w c.args.root.now c.args.loaded.now.files.items c.take_all.result.items c.in-Ok.pieces.items kept files lost s c.requires.root c.take_all.ensures.files c.in-Ok.ensures.files c.in-Ok.ensures.covers c.in-Ok.ensures.apart h)
    more.1 more.2 was)

pub returns-in-Ok-clause-empty : goal.returns-in-Ok-clause-empty
returns-in-Ok-clause-empty g c = λ last. c.take_all.ensures.empty

pub returns-in-Ok-clause-passed : goal.returns-in-Ok-clause-passed
returns-in-Ok-clause-passed g c = λ o m read. record {
  read = subst (AreRead o) (sym c.take_all.ensures.empty) (All-nil (λ (r : ReadFile). IsRead o r.path r.file));
  given = c.give_pieces.ensures.given o c.args.root.now m (c.in-Ok.ensures.files o (subst (AreRead o) (sym c.take_all.ensures.files) read));
}

pub returns-in-Err-clause-share : goal.returns-in-Err-clause-share
returns-in-Err-clause-share g c = λ files lost was.
    let p = c.args.p.now in
    subst (λ (fs : List ReadFile). OfShare c.cancel.new.me (HasGathered p.world (lot_paths fs) c.args.kept.now.items files (lost || not false))) (sym c.take_all.ensures.empty)
    (share_without p (lot_paths c.args.loaded.now.files.items) c.args.kept.now.items files lost c.args.me.now c.cancel.new.me c.requires.between c.cancel.ensures.gets was)

pub returns-in-Err-clause-empty : goal.returns-in-Err-clause-empty
returns-in-Err-clause-empty g c = λ last. c.take_all.ensures.empty

pub returns-in-Err-clause-passed : goal.returns-in-Err-clause-passed
returns-in-Err-clause-passed g c = λ o m read. record {
  read = subst (AreRead o) (sym c.take_all.ensures.empty) (All-nil (λ (r : ReadFile). IsRead o r.path r.file));
  given = given_called o c.args.root.now c.args.p.now m c.args.kept.now.items c.args.kept.now.items c.args.me.now c.args.me.now c.cancel.new.me
      (given_none o c.args.root.now c.args.p.now m c.args.kept.now.items c.args.me.now) (c.cancel.ensures.called o c.args.root.now m);
}

pub returns-then-not-is_due-clause-share : goal.returns-then-not-is_due-clause-share
returns-then-not-is_due-clause-share g c = λ files lost was.
    share_still c.args.p.now (lot_paths c.args.loaded.now.files.items) c.args.kept.now.items files lost c.args.me.now c.args.me.now c.requires.between was

pub returns-then-not-is_due-clause-empty : goal.returns-then-not-is_due-clause-empty
returns-then-not-is_due-clause-empty g c = λ last. not_due c.args.loaded.now c.args.last c.is_due.result c.if-not-is_due.true c.is_due.ensures last

pub returns-then-not-is_due-clause-passed : goal.returns-then-not-is_due-clause-passed
returns-then-not-is_due-clause-passed g c = λ o m read. record { read = read; given = given_none o c.args.root.now c.args.p.now m c.args.kept.now.items c.args.me.now }
