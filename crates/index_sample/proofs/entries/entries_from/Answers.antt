use Rattle.std.proofs.Common.{◌∙◌, ◌++◌, ◌∷◌, [], ◌+◌, ap, refl}
use Rattle.index_sample.specs.Listings.{sample_entry}
use Rattle.index_sample.proofs.EntryLemmas.{entries_more}
use Rattle.index_sample.proofs.entries.entries_from.Goals as goal

pub loop-n-preserved : goal.loop-n-preserved
loop-n-preserved c =
    entries_more (sample_entry c.args.kind) c.args.from c.loop-n.n (c.args.from + c.loop-n.n) c.loop-n.entries.items c.push.new.self.items refl c.loop-n.invariant
    (c.in_ok-push.ensures.items ∙ ap (λ e. c.loop-n.entries.items ++ e ∷ []) c.in_ok-entry_of.ensures)
