use Rattle.walker.proofs.Children.{reported_listing}
use Rattle.walker.proofs.listing.list_dir.Goals as goal

pub returns-in-Ok-listing_of-clause-reported : goal.returns-in-Ok-listing_of-clause-reported
returns-in-Ok-listing_of-clause-reported g c = reported_listing (g.S.Tree.tree c.args.tree.now) (g.S.Tree.may_fail c.args.tree.now) c.args.dir.now (g.S.Tree.calls c.args.tree.now) (g.S.Tree.calls c.list.new.self)
    c.in-Ok.entries c.in-Ok-listing_of.listing c.in-Ok.ensures.reported c.in-Ok-listing_of.ensures.dirs c.in-Ok-listing_of.ensures.files
