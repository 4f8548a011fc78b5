use Rattle.std.proofs.Common.{◌≡◌, ◌∙◌, ◌<◌, ◌≤◌, ◌/◌, ◌++◌, ◌∷◌, [], sym, ap, arith, ℕ, List, decimal, append_assoc}
use Rattle.std.proofs.lemmas.Bool.{false≢true}
use Rattle.std.proofs.lemmas.Bool.Decides.{Decides-eqb}
use Rattle.std.proofs.lemmas.Slice.Eq.{slice_eq-Decides}
use Rattle.firefly_outside.specs.Samples.{dir_path, file_path}
use Rattle.index_sample.proofs.PathNumbers.{none_some, some_same}
use Rattle.index_sample.proofs.paths.file_number.Goals as goal
use Rattle.index_sample.proofs.paths.file_number.Goals.{else-file-files-via-then-file-files+else-eq, else-file-files-via-else-file-files}

small : (i files : ℕ) → i < files → files ≤ 20000 → i < 20000
small i files below few = omega (arith, below, few)

letter_last : (i : ℕ) (path : List ℕ) → path ≡ file_path i → path ≡ (dir_path (i / 100) ++ 47 ∷ []) ++ 102 ∷ decimal i
letter_last i path is = is ∙ sym (append_assoc (dir_path (i / 100)) (47 ∷ []) (102 ∷ decimal i))

pub returns-in_default-clause-none : goal.returns-in_default-clause-none
returns-in_default-clause-none c = λ i below is.
    none_some i (c.in_default.ensures.some (dir_path (i / 100) ++ 47 ∷ []) i (small i c.args.files below c.requires) (letter_last i c.args.path.now is))

pub returns-clause-none : goal.returns-clause-none
returns-clause-none c = λ i below is.
    let same : c.in-Some.file ≡ i = some_same c.in-Some.file i (c.in-Some.ensures.some (dir_path (i / 100) ++ 47 ∷ []) i (small i c.args.files below c.requires) (letter_last i c.args.path.now is)) in
    elim c.else-file-files.branch [
      | else-file-files-via-then-file-files+else-eq w ↦
          let text = w.as_str.ensures.value ∙ w.file_text.ensures ∙ ap file_path same ∙ sym is in
          false≢true (sym w.if-eq.false ∙ (slice_eq-Decides Decides-eqb w.as_str.result.now c.args.path.now w.eq.result w.eq.ensures).1 text)
      | else-file-files-via-else-file-files w ↦ omega (arith, w.if-file-files.false, below, same)
    ]
