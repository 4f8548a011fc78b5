use Rattle.indexer.specs.Gets.{nothing}
use Rattle.indexer.proofs.Getting.{makes_after, makes_between}
use Rattle.indexer.proofs.workers.lister.end_files.Goals as goal

pub shut_files-requires-clause-between : goal.shut_files-requires-clause-between
shut_files-requires-clause-between g c = makes_between c.args.p.now nothing c.args.me.now c.shut_dirs.new.me c.requires.between c.shut_dirs.ensures.made

pub returns : goal.returns
returns g c = makes_after c.args.p.now nothing c.args.me.now c.shut_dirs.new.me c.shut_files.new.me c.shut_dirs.ensures.made c.shut_files.ensures
