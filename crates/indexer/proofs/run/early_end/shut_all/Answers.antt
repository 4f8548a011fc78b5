use Rattle.indexer.specs.Gets.{nothing}
use Rattle.indexer.proofs.Getting.{makes_after, makes_between}
use Rattle.indexer.proofs.run.early_end.shut_all.Goals as goal

pub shut_files-requires-clause-between : goal.shut_files-requires-clause-between
shut_files-requires-clause-between g c = makes_between c.args.p.now nothing c.args.me.now c.shut_dirs.new.me c.requires.between c.shut_dirs.ensures.made

pub shut_pieces-requires-clause-between : goal.shut_pieces-requires-clause-between
shut_pieces-requires-clause-between g c =
    makes_between c.args.p.now nothing c.args.me.now c.shut_files.new.me c.requires.between
    (makes_after c.args.p.now nothing c.args.me.now c.shut_dirs.new.me c.shut_files.new.me c.shut_dirs.ensures.made c.shut_files.ensures)

pub returns : goal.returns
returns g c =
    makes_after c.args.p.now nothing c.args.me.now c.shut_files.new.me c.shut_pieces.new.me
    (makes_after c.args.p.now nothing c.args.me.now c.shut_dirs.new.me c.shut_files.new.me c.shut_dirs.ensures.made c.shut_files.ensures)
    c.shut_pieces.ensures
