use Rattle.std.proofs.Common.{◌∙◌, sym, refl}
use Rattle.walker.specs.declared.answer.WalkAnswer.TheVariants.{Memory}
use Rattle.word_index.specs.Read.{read_file}
use Rattle.walker.specs.Pile.{AreKept}
use Rattle.walker.proofs.Lookups.{never}
use Rattle.walker.proofs.ReadLemmas.{HasRead-covered, HasRead-next, stops_next, read_lost}
use Rattle.walker.proofs.Steps.{stays_then}
use Rattle.walker.proofs.read.read_at.Goals as goal

pub returns-then-covers-clause-step : goal.returns-then-covers-clause-step
returns-then-covers-clause-step g c = λ start h. HasRead-covered (g.S.Tree.tree c.args.tree.now) c.args.walked.now c.args.piece.now.paths start (g.S.Tree.calls c.args.tree.now) c.args.at (AreKept c.args.pile.now.items c.args.batch)
    c.file_at-name.result.now c.file_at-name.ensures (c.covers.ensures.0 c.if-covers.true) h

pub returns-in-Err-clause-step : goal.returns-in-Err-clause-step
returns-in-Err-clause-step g c = λ start h. stops_next (g.S.Tree.tree c.args.tree.now) c.args.walked.now c.args.piece.now.paths start (g.S.Tree.calls c.args.tree.now) c.args.at (AreKept c.args.pile.now.items c.args.batch)
    c.file_at-name.result.now c.requires.sound c.file_at-name.ensures (λ k. never (sym c.if-covers.false ∙ c.covers.ensures.1 k)) h
    c.in-Err.answer (g.S.Tree.may_fail c.args.tree.now) (g.S.Tree.calls c.read_next.new.tree) c.in-Err.ensures.reported

pub keep_file-requires-clause-kept : goal.keep_file-requires-clause-kept
keep_file-requires-clause-kept g c = let h = c.requires.read.1 in (h.files, h.kept, h.once)

pub returns-in-Ok-keep_file-clause-step : goal.returns-in-Ok-keep_file-clause-step
returns-in-Ok-keep_file-clause-step g c = λ start h. HasRead-next (g.S.Tree.tree c.args.tree.now) c.args.walked.now c.args.piece.now.paths start (g.S.Tree.calls c.args.tree.now) c.args.at (AreKept c.args.pile.now.items c.args.batch)
    c.file_at-name.result.now c.requires.sound c.file_at-name.ensures (λ k. never (sym c.if-covers.false ∙ c.covers.ensures.1 k)) h
    (g.S.Tree.calls c.read_next.new.tree) (AreKept c.keep_file.new.pile.items c.in-Ok-keep_file.batch) (read_file c.file_at-name.result.now c.in-Ok.file) refl c.in-Ok.ensures.file c.in-Ok-keep_file.ensures.kept c.in-Ok.ensures.reported

pub returns-clause-step : goal.returns-clause-step
returns-clause-step g c = λ start h. stops_next (g.S.Tree.tree c.args.tree.now) c.args.walked.now c.args.piece.now.paths start (g.S.Tree.calls c.args.tree.now) c.args.at (AreKept c.args.pile.now.items c.args.batch)
    c.file_at-name.result.now c.requires.sound c.file_at-name.ensures (λ k. never (sym c.if-covers.false ∙ c.covers.ensures.1 k)) h
    Memory (g.S.Tree.may_fail c.args.tree.now) (g.S.Tree.calls c.read_next.new.tree)
    (read_lost (g.S.Tree.tree c.args.tree.now) c.args.walked.now.root c.file_at-name.result.now (g.S.Tree.may_fail c.args.tree.now) (g.S.Tree.calls c.args.tree.now) (g.S.Tree.calls c.read_next.new.tree) c.in-Ok.file c.in-Ok.ensures.reported)

pub returns-then-covers-clause-stays : goal.returns-then-covers-clause-stays
returns-then-covers-clause-stays g c = record { tree = refl; weak = refl; count = refl }

pub returns-in-Err-clause-stays : goal.returns-in-Err-clause-stays
returns-in-Err-clause-stays g c = stays_then refl refl refl c.in-Err.ensures.stays

pub returns-in-Ok-keep_file-clause-stays : goal.returns-in-Ok-keep_file-clause-stays
returns-in-Ok-keep_file-clause-stays g c = let s = c.in-Ok.ensures.stays in record { tree = s.tree; weak = s.weak; count = s.count }

pub returns-clause-stays : goal.returns-clause-stays
returns-clause-stays g c = let s = c.in-Ok.ensures.stays in record { tree = s.tree; weak = s.weak; count = s.count }
