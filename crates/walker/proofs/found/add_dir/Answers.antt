use Rattle.std.proofs.Common.{◌∙◌, ap, false}
use Rattle.std.specs.String.{string_eq}
use Rattle.indexmap.proofs.CallerLemmas.{insert_entry-new}
use Rattle.walker.specs.Walk.{pairs_of}
use Rattle.walker.proofs.FoundLemmas.{absent-lookup, pairs-push}
use Rattle.walker.proofs.found.add_dir.Goals as goal

pub returns-clause-added : goal.returns-clause-added
returns-clause-added c =
    ap pairs_of (c.in-Ok.ensures.entries ∙ insert_entry-new string_eq c.args.dirs.now c.args.dir false (absent-lookup c.args.dirs.now.entries c.args.dir c.requires.new))
    ∙ pairs-push c.args.dirs.now.entries c.args.dir false
