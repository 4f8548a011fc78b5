use Rattle.std.proofs.Common.{◌≡◌, ◌∙◌, ℕ, List, [], length, refl, sym, subst, arith}
use Rattle.word_index.specs.Index.{Index}
use Rattle.std.specs.Prelude.{Ok, Err}
use Rattle.walker.specs.Pile.{IsPileOf, AreApart, AreKept, HasRead}
use Rattle.walker.proofs.ListLemmas.{AllPairs-nil}
use Rattle.walker.proofs.PileLemmas.{NoMeet}
use Rattle.walker.proofs.ReadLemmas.{HasRead-all, HasRead-none, HasRead-kept, covers_all, reads_lost, kept_none, read_stopped, moved_read}
use Rattle.walker.proofs.Steps.{stays_then}
use Rattle.walker.proofs.read.read_files.Goals as goal

pub returns-then-files-files_found-clause-apart : goal.returns-then-files-files_found-clause-apart
returns-then-files-files_found-clause-apart g c = subst AreApart (sym c.requires.empty) (AllPairs-nil NoMeet)

pub returns-then-files-files_found-clause-read : goal.returns-then-files-files_found-clause-read
returns-then-files-files_found-clause-read g c =
    let o = g.S.Tree.tree c.args.tree.now in
    let walked = c.args.walked.now in
    let piece = c.args.piece.now in
    let many : length piece.paths ≡ length walked.files = sym c.files.ensures ∙ (c.if-files-files_found.true ∙ c.files_found.ensures.many) in
    HasRead-all o walked piece.paths (g.S.Tree.calls c.args.tree.now) (IsPileOf c.args.pile.now.items) (subst (λ (l : List Index). IsPileOf l []) (sym c.requires.empty) refl) (covers_all o walked piece c.requires.part many)

pub returns-then-files-files_found-clause-stays : goal.returns-then-files-files_found-clause-stays
returns-then-files-files_found-clause-stays g c = record { tree = refl; weak = refl; count = refl }

pub loop-at-init : goal.loop-at-init
loop-at-init g c = record {
  tree = refl;
  weak = refl;
  count = refl;
  apart = subst AreApart (sym c.requires.empty) (AllPairs-nil NoMeet);
  read = HasRead-none (g.S.Tree.tree c.args.tree.now) c.args.walked.now c.args.piece.now.paths (g.S.Tree.calls c.args.tree.now) (AreKept c.args.pile.now.items c.new-batch.result) (kept_none c.args.pile.now.items c.new-batch.result c.requires.empty c.new-batch.ensures.none);
}

pub returns-in-Err-clause-read : goal.returns-in-Err-clause-read
returns-in-Err-clause-read g c = read_stopped (g.S.Tree.tree c.args.tree.now) c.args.walked.now c.args.piece.now.paths c.loop-at.at (g.S.Tree.may_fail c.args.tree.now) (g.S.Tree.calls c.args.tree.now) (g.S.Tree.calls c.loop-at.tree) (g.S.Tree.calls c.read_at.new.tree)
    (AreKept c.loop-at.pile.items c.loop-at.batch) (AreKept c.read_at.new.pile.items) c.in-Err.answer c.requires.reported c.loop-at.invariant.read
    (moved_read (g.S.Tree.tree c.loop-at.tree) (g.S.Tree.tree c.args.tree.now) c.args.walked.now c.args.piece.now.paths c.loop-at.at (g.S.Tree.may_fail c.loop-at.tree) (g.S.Tree.may_fail c.args.tree.now) (g.S.Tree.calls c.loop-at.tree) (g.S.Tree.calls c.read_at.new.tree)
    (AreKept c.loop-at.pile.items c.loop-at.batch) (AreKept c.read_at.new.pile.items) (Err c.in-Err.answer) c.loop-at.invariant.tree c.loop-at.invariant.weak c.in-Err.ensures.step)

pub loop-at-preserved : goal.loop-at-preserved
loop-at-preserved g c = record {
  tree = c.in-Ok.ensures.stays.tree ∙ c.loop-at.invariant.tree;
  weak = c.in-Ok.ensures.stays.weak ∙ c.loop-at.invariant.weak;
  count = c.in-Ok.ensures.stays.count ∙ c.loop-at.invariant.count;
  apart = c.in-Ok.ensures.apart;
  read = moved_read (g.S.Tree.tree c.loop-at.tree) (g.S.Tree.tree c.args.tree.now) c.args.walked.now c.args.piece.now.paths c.loop-at.at (g.S.Tree.may_fail c.loop-at.tree) (g.S.Tree.may_fail c.args.tree.now) (g.S.Tree.calls c.loop-at.tree) (g.S.Tree.calls c.read_at.new.tree)
      (AreKept c.loop-at.pile.items c.loop-at.batch) (AreKept c.read_at.new.pile.items) (Ok c.in-Ok.next) c.loop-at.invariant.tree c.loop-at.invariant.weak c.in-Ok.ensures.step (g.S.Tree.calls c.args.tree.now) c.loop-at.invariant.read;
}

pub put_batch-requires-clause-kept : goal.put_batch-requires-clause-kept
put_batch-requires-clause-kept g c = let h = c.loop-at.invariant.read in (h.files, h.kept, h.once)

pub returns-in-Ok-put_batch-clause-read : goal.returns-in-Ok-put_batch-clause-read
returns-in-Ok-put_batch-clause-read g c =
    let end : c.loop-at.at ≡ length c.args.walked.now.files = omega (arith, c.loop-at.auto.at-end, c.loop-at-test.false, c.files_found-at-end.ensures.many) in
    subst (λ (k : ℕ). HasRead (g.S.Tree.tree c.args.tree.now) c.args.walked.now c.args.piece.now.paths (g.S.Tree.calls c.args.tree.now) (g.S.Tree.calls c.loop-at.tree) k (IsPileOf c.put_batch.new.pile.items)) end
    (HasRead-kept (g.S.Tree.tree c.args.tree.now) c.args.walked.now c.args.piece.now.paths (g.S.Tree.calls c.args.tree.now) (g.S.Tree.calls c.loop-at.tree) c.loop-at.at (AreKept c.loop-at.pile.items c.loop-at.batch) (IsPileOf c.put_batch.new.pile.items)
    c.in-Ok-put_batch.ensures.index c.loop-at.invariant.read)

pub returns-in-Err-put_batch-clause-read : goal.returns-in-Err-put_batch-clause-read
returns-in-Err-put_batch-clause-read g c =
    let end : c.loop-at.at ≡ length c.args.walked.now.files = omega (arith, c.loop-at.auto.at-end, c.loop-at-test.false, c.files_found-at-end.ensures.many) in
    reads_lost (g.S.Tree.tree c.args.tree.now) c.args.walked.now c.args.piece.now.paths (g.S.Tree.may_fail c.args.tree.now) (g.S.Tree.calls c.args.tree.now) (g.S.Tree.calls c.loop-at.tree) c.loop-at.at (AreKept c.loop-at.pile.items c.loop-at.batch) end c.loop-at.invariant.read

pub returns-in-Err-clause-stays : goal.returns-in-Err-clause-stays
returns-in-Err-clause-stays g c = stays_then c.loop-at.invariant.tree c.loop-at.invariant.weak c.loop-at.invariant.count c.in-Err.ensures.stays

pub returns-in-Ok-put_batch-clause-stays : goal.returns-in-Ok-put_batch-clause-stays
returns-in-Ok-put_batch-clause-stays g c = let i = c.loop-at.invariant in record { tree = i.tree; weak = i.weak; count = i.count }

pub returns-in-Err-put_batch-clause-stays : goal.returns-in-Err-put_batch-clause-stays
returns-in-Err-put_batch-clause-stays g c = let i = c.loop-at.invariant in record { tree = i.tree; weak = i.weak; count = i.count }
