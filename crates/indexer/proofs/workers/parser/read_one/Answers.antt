use Rattle.std.proofs.Common.{◌≡◌, ◌∙◌, ◌⊎◌, [], ◌∷◌, ◌++◌, inl, inr, subst, sym, Err}
use Rattle.std.specs.Prelude.{IfSome}
use Rattle.firefly_outside.specs.Trees.{Calls, Counts, Path, IsFault, IsFile, Bytes, Reads}
use Rattle.std.proofs.Common.{ℕ, List, Some, ap, refl, append-nil}
use Rattle.std.proofs.lemmas.List.{map-append}
use Rattle.index_findings.specs.declared.read_files.ReadFile.{ReadFile}
use Rattle.indexer.specs.States.{lot_paths}
use Rattle.firefly_outside.specs.declared.tree.FileBytes.{FileBytes}
use Rattle.firefly_outside.specs.declared.tree.Kind.TheVariants.{File}
use Rattle.firefly_outside.specs.declared.tree.TreeError.{TreeError}
use Rattle.index_findings.specs.declared.findings.Fault.TheVariants.{File as FileFault}
use Rattle.index_findings.specs.ReadFiles.{AreRead}
use Rattle.index_findings.proofs.ReportedLaws.{reported_on}
use Rattle.index_findings.proofs.ReadFileLaws.{read_more}
use Rattle.indexer.specs.Walks.{MayFail, calls_with}
use Rattle.indexer.proofs.WalkSteps.{done_more, done_lost, done_fault, calls_read}
use Rattle.indexer.proofs.workers.parser.read_one.Goals as goal

pub returns-in-Err-Failed-clause-done : goal.returns-in-Err-Failed-clause-done
returns-in-Err-Failed-clause-done g c = (
  c.read.ensures.tree_stays,
  c.read.ensures.weak_stays,
  λ root count before p a b h.
      let old = c.args.tree.now in
      let new = c.read.new.self in
      let tree = g.S.Tree.tree old in
      let weak = g.S.Tree.may_fail old in
      let text = c.as_str.result.now in
      let path = c.args.path in
      let calls = g.S.Tree.calls old in
      let calls' = g.S.Tree.calls new in
      let rose = subst (λ (e : TreeError). Counts {T = FileBytes} (g.S.Tree.faults old) (g.S.Tree.faults new) (Err e)) c.in-Err-Failed.field-0-is c.in-Err-Failed.ensures.count in
      let reported = subst (λ (e : TreeError). IfSome tree (Reads weak text calls calls' (Err e))) c.in-Err-Failed.field-0-is c.in-Err-Failed.ensures.reported in
      let reported_path = subst (λ (d : Path). IfSome tree (λ t. IsFault weak d ((bs : List ℕ) × (t d ≡ Some (Bytes bs))) calls calls')) c.as_str.ensures reported in
      done_fault File tree root weak count before p a (g.S.Tree.faults old) (g.S.Tree.faults new) calls calls' b [] (FileFault path) h rose
      (reported_on tree (λ t. IsFault weak path ((bs : List ℕ) × (t path ≡ Some (Bytes bs))) calls calls') (λ t. (calls' ≡ record calls { failed = calls.failed ++ path ∷ [] }) × MayFail weak t (FileFault path)) (λ t q. (q.noted, q.may)) reported_path),
)

pub returns-in-Ok-add-clause-done : goal.returns-in-Ok-add-clause-done
returns-in-Ok-add-clause-done g c = (
  c.read.ensures.tree_stays,
  c.read.ensures.weak_stays,
  λ root count before p a b h.
      let old = c.args.tree.now in
      let new = c.read.new.self in
      let tree = g.S.Tree.tree old in
      let text = c.as_str.result.now in
      let calls = g.S.Tree.calls old in
      let calls' = g.S.Tree.calls new in
      done_more File tree root (g.S.Tree.may_fail old) count before p a (g.S.Tree.faults old) (g.S.Tree.faults new) calls calls' b [] [] text h c.in-Ok.ensures.count (λ each. each) (λ ps kept. tt)
      (reported_on tree (λ t. IsFile t text c.in-Ok.file × (calls' ≡ record calls { files_read = calls.files_read ++ text ∷ [] })) (λ t. calls' ≡ calls_with File (text ∷ []) [] calls) (λ t q. q.1 ∙ calls_read calls text) c.in-Ok.ensures.reported),
)

pub returns-in-Err-clause-done : goal.returns-in-Err-clause-done
returns-in-Err-clause-done g c = (
  c.read.ensures.tree_stays,
  c.read.ensures.weak_stays,
  λ root count before p a b h.
      let old = c.args.tree.now in
      let new = c.read.new.self in
      let tree = g.S.Tree.tree old in
      let text = c.as_str.result.now in
      let calls = g.S.Tree.calls old in
      let calls' = g.S.Tree.calls new in
      done_lost File tree root (g.S.Tree.may_fail old) count before p a (g.S.Tree.faults old) (g.S.Tree.faults new) calls calls' b [] text h c.in-Ok.ensures.count
      (reported_on tree (λ t. IsFile t text c.in-Ok.file × (calls' ≡ record calls { files_read = calls.files_read ++ text ∷ [] })) (λ t. (calls' ≡ calls) ⊎ (calls' ≡ calls_with File (text ∷ []) [] calls)) (λ t q. inr (q.1 ∙ calls_read calls text)) c.in-Ok.ensures.reported),
)

pub returns-in-Err-Memory-clause-done : goal.returns-in-Err-Memory-clause-done
returns-in-Err-Memory-clause-done g c = (
  c.read.ensures.tree_stays,
  c.read.ensures.weak_stays,
  λ root count before p a b h.
      let old = c.args.tree.now in
      let new = c.read.new.self in
      let tree = g.S.Tree.tree old in
      let weak = g.S.Tree.may_fail old in
      let text = c.as_str.result.now in
      let calls = g.S.Tree.calls old in
      let calls' = g.S.Tree.calls new in
      let same = subst (λ (e : TreeError). Counts {T = FileBytes} (g.S.Tree.faults old) (g.S.Tree.faults new) (Err e)) c.in-Err-Memory.field-0-is c.in-Err-Memory.ensures.count in
      let reported = subst (λ (e : TreeError). IfSome tree (Reads weak text calls calls' (Err e))) c.in-Err-Memory.field-0-is c.in-Err-Memory.ensures.reported in
      done_lost File tree root weak count before p a (g.S.Tree.faults old) (g.S.Tree.faults new) calls calls' b [] text h same
      (reported_on tree (λ t. calls' ≡ calls) (λ t. (calls' ≡ calls) ⊎ (calls' ≡ calls_with File (text ∷ []) [] calls)) (λ t q. inl q) reported),
)

pub returns-in-Ok-add-clause-read : goal.returns-in-Ok-add-clause-read
returns-in-Ok-add-clause-read g c = λ read.
    let tree = g.S.Tree.tree c.args.tree.now in
    let text = c.as_str.result.now in
    let calls = g.S.Tree.calls c.args.tree.now in
    read_more tree c.args.loaded.now.files.items c.add.new.self.files.items c.args.path text c.in-Ok.file c.in-Ok-add.ensures.added c.as_str.ensures
    (reported_on tree (λ t. IsFile t text c.in-Ok.file × (g.S.Tree.calls c.read.new.self ≡ record calls { files_read = calls.files_read ++ text ∷ [] })) (λ t. IsFile t text c.in-Ok.file) (λ t q. q.0) c.in-Ok.ensures.reported) read

pub returns-in-Err-clause-read : goal.returns-in-Err-clause-read
returns-in-Err-clause-read g c = λ read. subst (AreRead (g.S.Tree.tree c.args.tree.now)) (sym c.in-Err.ensures.refused.0) read

pub returns-in-Ok-add-clause-loaded : goal.returns-in-Ok-add-clause-loaded
returns-in-Ok-add-clause-loaded g c =
    let tree = g.S.Tree.tree c.args.tree.now in
    let text = c.as_str.result.now in
    let calls = g.S.Tree.calls c.args.tree.now in
    let calls' = g.S.Tree.calls c.read.new.self in
    let one : ReadFile = record { path = c.args.path; file = c.in-Ok.file } in (
      c.args.path ∷ [],
      inl (refl, ap lot_paths c.in-Ok-add.ensures.added ∙ map-append (λ (f : ReadFile). f.path) c.args.loaded.now.files.items (one ∷ [])),
      subst (λ (d : Path). IfSome tree (λ t. calls'.files_read ≡ calls.files_read ++ d ∷ [])) c.as_str.ensures
          (reported_on tree (λ t. IsFile t text c.in-Ok.file × (calls' ≡ record calls { files_read = calls.files_read ++ text ∷ [] })) (λ t. calls'.files_read ≡ calls.files_read ++ text ∷ []) (λ t q. ap (λ (d : Calls). d.files_read) q.1) c.in-Ok.ensures.reported),
    )

pub returns-in-Err-clause-loaded : goal.returns-in-Err-clause-loaded
returns-in-Err-clause-loaded g c =
    let tree = g.S.Tree.tree c.args.tree.now in
    let text = c.as_str.result.now in
    let calls = g.S.Tree.calls c.args.tree.now in
    let calls' = g.S.Tree.calls c.read.new.self in (
      c.args.path ∷ [],
      inr (ap lot_paths c.in-Err.ensures.refused.0, inr (refl, refl)),
      subst (λ (d : Path). IfSome tree (λ t. calls'.files_read ≡ calls.files_read ++ d ∷ [])) c.as_str.ensures
          (reported_on tree (λ t. IsFile t text c.in-Ok.file × (calls' ≡ record calls { files_read = calls.files_read ++ text ∷ [] })) (λ t. calls'.files_read ≡ calls.files_read ++ text ∷ []) (λ t q. ap (λ (d : Calls). d.files_read) q.1) c.in-Ok.ensures.reported),
    )

pub returns-in-Err-Memory-clause-loaded : goal.returns-in-Err-Memory-clause-loaded
returns-in-Err-Memory-clause-loaded g c =
    let tree = g.S.Tree.tree c.args.tree.now in
    let text = c.as_str.result.now in
    let calls = g.S.Tree.calls c.args.tree.now in
    let calls' = g.S.Tree.calls c.read.new.self in
    let reported = subst (λ (e : TreeError). IfSome tree (Reads (g.S.Tree.may_fail c.args.tree.now) text calls calls' (Err e))) c.in-Err-Memory.field-0-is c.in-Err-Memory.ensures.reported in
    ([], inr (refl, inl refl), reported_on tree (λ t. calls' ≡ calls) (λ t. calls'.files_read ≡ calls.files_read ++ []) (λ t q. ap (λ (d : Calls). d.files_read) q ∙ sym (append-nil calls.files_read)) reported)

pub returns-in-Err-Failed-clause-loaded : goal.returns-in-Err-Failed-clause-loaded
returns-in-Err-Failed-clause-loaded g c =
    let tree = g.S.Tree.tree c.args.tree.now in
    let text = c.as_str.result.now in
    let calls = g.S.Tree.calls c.args.tree.now in
    let calls' = g.S.Tree.calls c.read.new.self in
    let reported = subst (λ (e : TreeError). IfSome tree (Reads (g.S.Tree.may_fail c.args.tree.now) text calls calls' (Err e))) c.in-Err-Failed.field-0-is c.in-Err-Failed.ensures.reported in
    ([], inr (refl, inl refl), reported_on tree (λ t. IsFault (g.S.Tree.may_fail c.args.tree.now) text ((bs : List ℕ) × (t text ≡ Some (Bytes bs))) calls calls') (λ t. calls'.files_read ≡ calls.files_read ++ []) (λ t q. ap (λ (d : Calls). d.files_read) q.noted ∙ sym (append-nil calls.files_read)) reported)
