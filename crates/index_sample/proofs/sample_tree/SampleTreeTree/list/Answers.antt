use Rattle.std.proofs.Common.{◌∙◌, ◌++◌, ◌∷◌, [], ap, List, Vec, Global}
use Rattle.firefly_outside.specs.declared.tree.Entry.{Entry}
use Rattle.firefly_outside.specs.Trees.{Path, Calls}
use Rattle.index_sample.proofs.EntryLemmas.{lawful_entries, listed_some, listed_none}
use Rattle.index_sample.proofs.ReportedLemmas.{dir_reported, no_dir_reported}
use Rattle.index_sample.proofs.Failing.{lists_fault}
use Rattle.index_sample.proofs.sample_tree.SampleTreeTree.list.Goals as goal

pub returns-in_default-found-clause-reported : goal.returns-in_default-found-clause-reported
returns-in_default-found-clause-reported c = lists_fault {V = Vec Entry Global} (λ (v : Vec Entry Global). v.items) c.args.self.now c.fail.new.self c.args.dir.now c.in-Ok.path c.fail.result c.fail.ensures c.in-Ok.ensures
    (no_dir_reported c.args.self.now.seed c.args.self.now.files c.args.self.now.few c.args.dir.now
    (listed_none c.args.self.now.files c.args.dir.now c.in-Ok-listed_at.found c.in-Ok-listed_at.ensures c.in_default-found.is))

pub returns-in-Ok-push-clause-lawful : goal.returns-in-Ok-push-clause-lawful
returns-in-Ok-push-clause-lawful c = lawful_entries c.args.self.now.files c.args.dir.now c.in-Some.entries.items c.args.self.now.few
    (listed_some c.args.self.now.files c.args.dir.now c.in-Ok-listed_at.found c.in-Some.entries c.in-Ok-listed_at.ensures c.in-Some.is)

pub returns-in-Ok-push-clause-reported : goal.returns-in-Ok-push-clause-reported
returns-in-Ok-push-clause-reported c = (
  record {
    entries = c.in-Some.entries.items;
    here = dir_reported c.args.self.now.seed c.args.self.now.files c.args.self.now.few c.args.dir.now c.in-Some.entries.items
        (listed_some c.args.self.now.files c.args.dir.now c.in-Ok-listed_at.found c.in-Some.entries c.in-Ok-listed_at.ensures c.in-Some.is);
    same = λ e. (λ h. h, λ h. h);
  },
  ap with_listed (c.in-Ok-push.ensures.items ∙ ap (λ (p : Path). c.args.self.now.listed.items ++ p ∷ []) c.in-Ok.ensures),
)
  where
    with_listed : List Path → Calls
    with_listed l = record { listed = l; files_read = c.args.self.now.files_read.items; failed = c.args.self.now.failed.items }
