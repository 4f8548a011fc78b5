use Rattle.std.proofs.Common.{◌≡◌, ◌∙◌, ◌<◌, ◌≤◌, ◌++◌, ◌∷◌, [], sym, ap, arith, ℕ}
use Rattle.std.proofs.lemmas.Bool.{false≢true}
use Rattle.std.proofs.lemmas.Bool.Decides.{Decides-eqb}
use Rattle.std.proofs.lemmas.Slice.Eq.{slice_eq-Decides}
use Rattle.firefly_outside.specs.Samples.{sample_root, dir_path, dir_count}
use Rattle.index_sample.proofs.PathNumbers.{none_some, some_same}
use Rattle.index_sample.proofs.paths.dir_number.Goals as goal
use Rattle.index_sample.proofs.paths.dir_number.Goals.{else-dir-files-via-then-dir-files+else-eq, else-dir-files-via-else-dir-files}

small : (k files : ℕ) → k < dir_count files → files ≤ 20000 → k < 20000
small k files below few = omega (arith, below, few)

pub returns-in_default-clause-none : goal.returns-in_default-clause-none
returns-in_default-clause-none c = λ k below is. none_some k (c.in_default.ensures.some (sample_root ++ 47 ∷ []) k (small k c.args.files below c.requires) is)

pub returns-clause-none : goal.returns-clause-none
returns-clause-none c = λ k below is.
    let same : c.in-Some.dir ≡ k = some_same c.in-Some.dir k (c.in-Some.ensures.some (sample_root ++ 47 ∷ []) k (small k c.args.files below c.requires) is) in
    elim c.else-dir-files.branch [
      | else-dir-files-via-then-dir-files+else-eq w ↦
          let text = w.as_str.ensures.value ∙ w.dir_text.ensures.bytes ∙ ap dir_path same ∙ sym is in
          false≢true (sym w.if-eq.false ∙ (slice_eq-Decides Decides-eqb w.as_str.result.now c.args.path.now w.eq.result w.eq.ensures).1 text)
      | else-dir-files-via-else-dir-files w ↦ omega (arith, w.if-dir-files.false, below, same)
    ]
