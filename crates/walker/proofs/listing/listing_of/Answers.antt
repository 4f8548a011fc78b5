use Rattle.walker.proofs.Children.{lawful_listing}
use Rattle.walker.proofs.listing.listing_of.Goals as goal

pub returns-clause-lawful : goal.returns-clause-lawful
returns-clause-lawful c = lawful_listing c.args.dir.now c.args.entries.now.items _ c.requires
    c.in_ok-dirs.ensures.sorted c.in_ok-dirs.ensures.named c.in_ok-dirs.ensures.distinct
    c.in_ok-files.ensures.sorted c.in_ok-files.ensures.named c.in_ok-files.ensures.distinct
