use Rattle.std.proofs.Common.{◌∙◌, ◌++◌, ◌∷◌, [], ap, subst, List, ℕ}
use Rattle.firefly_outside.specs.Trees.{Path, Calls, IsShown}
use Rattle.firefly_outside.specs.Samples.{sample_bytes}
use Rattle.index_sample.proofs.ReportedLemmas.{file_reported, no_file_reported}
use Rattle.index_sample.proofs.Failing.{reads_fault}
use Rattle.index_sample.proofs.sample_tree.SampleTreeTree.read.Goals as goal

pub returns-in_default-file_number-clause-reported : goal.returns-in_default-file_number-clause-reported
returns-in_default-file_number-clause-reported c = reads_fault c.args.self.now c.fail.new.self c.args.path.now c.in-Ok.text c.fail.result c.fail.ensures c.in-Ok.ensures
    (no_file_reported c.args.self.now.seed c.args.self.now.files c.args.self.now.few c.args.path.now c.in_default-file_number.ensures.none)

pub returns-in-Ok-push-clause-reported : goal.returns-in-Ok-push-clause-reported
returns-in-Ok-push-clause-reported c = (
  record {
    bytes = sample_bytes c.args.self.now.seed c.in-Some.file;
    here = file_reported c.args.self.now.seed c.args.self.now.files c.args.self.now.few c.args.path.now c.in-Some.file c.in-Some.ensures.some.0 c.in-Some.ensures.some.1;
    shown = subst (λ (b : List ℕ). IsShown b c.shown_bytes.result) c.in-Ok-file_bytes.ensures c.shown_bytes.ensures;
  },
  ap with_read (c.in-Ok-push.ensures.items ∙ ap (λ (p : Path). c.args.self.now.files_read.items ++ p ∷ []) c.in-Ok.ensures),
)
  where
    with_read : List Path → Calls
    with_read l = record { listed = c.args.self.now.listed.items; files_read = l; failed = c.args.self.now.failed.items }
