use Rattle.std.proofs.Common.{List, ◌++◌, ◌∙◌, append-nil, sym, subst}
use Rattle.word_index.specs.Index.{File, IsIndexOf}
use Rattle.walker.proofs.PileLemmas.{no_files}
use Rattle.walker.proofs.read.merge_first.Goals as goal

pub returns-then-files-eq0 : goal.returns-then-files-eq0
returns-then-files-eq0 c = λ fs gs first rest. subst (λ (l : List File). IsIndexOf (l ++ gs) c.args.rest) (sym (no_files fs c.args.first (sym c.files.ensures ∙ c.if-files-eq0.true) first)) rest

pub returns-then-files-eq0-2 : goal.returns-then-files-eq0-2
returns-then-files-eq0-2 c = λ fs gs first rest. subst (λ (l : List File). IsIndexOf (fs ++ l) c.args.first) (sym (no_files gs c.args.rest (sym c.files-2.ensures ∙ c.if-files-eq0-2.true) rest)) (subst (λ (l : List File). IsIndexOf l c.args.first) (sym (append-nil fs)) first)
