use Rattle.std.proofs.Common.{sym, subst}
use Rattle.firefly_outside.specs.Trees.{Path}
use Rattle.walker.specs.Walk.{Walk, IsUnlisted}
use Rattle.walker.specs.Progress.{Grows}
use Rattle.walker.specs.Listings.{Notes}
use Rattle.walker.proofs.Steps.{Grows-refl, Grows-noted, below_next, reported_ok, reported_unnoted, reported_memory, reported_fault}
use Rattle.walker.proofs.close.list_next.Goals as goal

pub returns-in-Ok-note-clause-grows : goal.returns-in-Ok-note-clause-grows
returns-in-Ok-note-clause-grows g c = Grows-noted c.args.walked.now c.note.new.self c.as_str-path.result.now c.in-Ok.listing c.in-Ok-note.ensures.ok

pub returns-in-Ok-note-clause-below : goal.returns-in-Ok-note-clause-below
returns-in-Ok-note-clause-below g c = λ at here. below_next c.args.walked.now c.note.new.self c.args.dir c.in-Ok.listing at
    (subst (λ (p : Path). Notes c.args.walked.now c.note.new.self p c.in-Ok.listing) c.as_str-path.ensures c.in-Ok-note.ensures.ok) here

pub returns-in-Ok-note-clause-reported : goal.returns-in-Ok-note-clause-reported
returns-in-Ok-note-clause-reported g c = reported_ok (g.S.Tree.tree c.args.tree.now) c.args.walked.now c.note.new.self c.args.dir c.as_str-path.result.now (g.S.Tree.may_fail c.args.tree.now) (g.S.Tree.calls c.args.tree.now) (g.S.Tree.calls c.list_dir.new.tree)
    c.requires c.as_str-path.ensures c.in-Ok.listing c.in-Ok.ensures.reported c.in-Ok-note.ensures.ok c.in-Ok-note.ensures.reported

pub returns-in-Ok-clause-reported : goal.returns-in-Ok-clause-reported
returns-in-Ok-clause-reported g c = reported_unnoted (g.S.Tree.tree c.args.tree.now) c.args.walked.now c.note.new.self c.args.dir c.as_str-path.result.now (g.S.Tree.may_fail c.args.tree.now) (g.S.Tree.calls c.args.tree.now) (g.S.Tree.calls c.list_dir.new.tree)
    c.requires c.as_str-path.ensures c.in-Ok.listing c.in-Ok.ensures.reported

pub returns-in-Err-Memory-clause-reported : goal.returns-in-Err-Memory-clause-reported
returns-in-Err-Memory-clause-reported g c = reported_memory (g.S.Tree.tree c.args.tree.now) c.args.walked.now c.args.walked.now c.args.dir c.as_str-path.result.now (g.S.Tree.may_fail c.args.tree.now) (g.S.Tree.calls c.args.tree.now) (g.S.Tree.calls c.list_dir.new.tree)
    c.requires c.as_str-path.ensures (rw c.in-Err-Memory.field-0-is at c.in-Err-Memory.ensures.reported)

pub returns-clause-reported : goal.returns-clause-reported
returns-clause-reported g c = reported_fault (g.S.Tree.tree c.args.tree.now) c.args.walked.now c.args.walked.now c.args.dir c.as_str-path.result.now (g.S.Tree.may_fail c.args.tree.now) (g.S.Tree.calls c.args.tree.now) (g.S.Tree.calls c.list_dir.new.tree)
    c.requires c.as_str-path.ensures (rw c.in-Err-Failed.field-0-is at c.in-Err-Failed.ensures.reported)

pub note-requires-clause-unlisted : goal.note-requires-clause-unlisted
note-requires-clause-unlisted g c = subst (λ (p : Path). IsUnlisted c.args.walked.now p) (sym c.as_str-path.ensures) c.requires

pub returns-in-Ok-clause-grows : goal.returns-in-Ok-clause-grows
returns-in-Ok-clause-grows g c = subst (λ (w : Walk). Grows c.args.walked.now w) (sym c.in-Err.ensures.err.1) (Grows-refl c.args.walked.now)

pub returns-in-Ok-note-clause-stays : goal.returns-in-Ok-note-clause-stays
returns-in-Ok-note-clause-stays g c = record { tree = c.list_dir.ensures.tree_stays; weak = c.list_dir.ensures.weak_stays; count = c.in-Ok.ensures.count }

pub returns-in-Ok-clause-stays : goal.returns-in-Ok-clause-stays
returns-in-Ok-clause-stays g c = record { tree = c.list_dir.ensures.tree_stays; weak = c.list_dir.ensures.weak_stays; count = c.in-Ok.ensures.count }

pub returns-in-Err-Memory-clause-stays : goal.returns-in-Err-Memory-clause-stays
returns-in-Err-Memory-clause-stays g c = record { tree = c.list_dir.ensures.tree_stays; weak = c.list_dir.ensures.weak_stays; count = rw c.in-Err-Memory.field-0-is at c.in-Err-Memory.ensures.count }

pub returns-clause-stays : goal.returns-clause-stays
returns-clause-stays g c = record { tree = c.list_dir.ensures.tree_stays; weak = c.list_dir.ensures.weak_stays; count = rw c.in-Err-Failed.field-0-is at c.in-Err-Failed.ensures.count }
