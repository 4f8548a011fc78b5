use Rattle.std.proofs.Common.{length}
use Rattle.walker.proofs.ReadLemmas.{apart_first, rest_done, rest_lost}
use Rattle.walker.proofs.read.read_rest.Goals as goal

pub whole_of-whole-requires : goal.whole_of-whole-requires
whole_of-whole-requires g c = apart_first (g.S.Tree.tree c.args.tree.now) c.args.walked.now c.args.piece (g.S.Tree.calls c.args.tree.now) (g.S.Tree.calls c.read_files.new.tree) (length c.args.walked.now.files) c.read_files.new.pile.items c.in-Ok.ensures.read c.in-Ok.ensures.apart

pub returns-in-Ok-whole-clause-reported : goal.returns-in-Ok-whole-clause-reported
returns-in-Ok-whole-clause-reported g c = rest_done (g.S.Tree.tree c.args.tree.now) c.args.walked.now c.args.piece c.in-Ok-whole.index (g.S.Tree.may_fail c.args.tree.now) (g.S.Tree.calls c.args.tree.now) (g.S.Tree.calls c.read_files.new.tree) c.read_files.new.pile.items
    c.requires.reported c.requires.listed c.requires.part c.in-Ok.ensures.read c.in-Ok-whole.ensures

pub returns-in-Err-whole-clause-reported : goal.returns-in-Err-whole-clause-reported
returns-in-Err-whole-clause-reported g c = rest_lost (g.S.Tree.tree c.args.tree.now) c.args.walked.now c.args.piece.paths (g.S.Tree.may_fail c.args.tree.now) (g.S.Tree.calls c.args.tree.now) (g.S.Tree.calls c.read_files.new.tree) c.read_files.new.pile.items c.in-Ok.ensures.read
