use Rattle.std.proofs.Common.{◌∙◌, ap, sym, subst, arith}
use Rattle.index_table.specs.Paths.{texts, IsRanked}
use Rattle.index_table.specs.Rows.{Drafted, AreOrdered, ArePathsOf}
use Rattle.index_table.proofs.Drafts.{written, sorted_rows, sorted_columns, sorted_paths}
use Rattle.index_table.proofs.draft.Draft.finish.Goals as goal

pub invariant_of-result : goal.invariant_of-result
invariant_of-result c =
    let old = c.self.inside in
    let es = old.paths.entries in
    let new = c.sort_paths.new.paths.entries in
    let ms = c.sort_paths.new.numbers in
    let r = subst (λ l. IsRanked es new l ms) c.deref_mut.ensures.value c.in-Ok.ensures in
    let none = ap (λ (d : Drafted). d.hits) c.self.view_is ∙ c.requires.ended in
    let are = c.self.invariant.2 in
    let rows = sorted_rows r are none in
    let whole = written old.numbers.len ms old.numbers.items (omega (arith, c.sort_paths.auto.numbers, c.deref_mut.ensures.len, old.numbers.ok.0)) (omega (arith, old.numbers.ok.0)) in
    rw whole (
      sorted_columns r are none,
      subst AreOrdered (sym (rows ∙ ap (λ (d : Drafted). d.rows) c.self.view_is)) c.requires.ordered,
      subst (λ l. ArePathsOf l (texts new)) (sym rows) (sorted_paths r are none c.self.invariant.1),
    )

pub returns-in-Ok : goal.returns-in-Ok
returns-in-Ok c =
    let old = c.self.inside in
    let es = old.paths.entries in
    let new = c.sort_paths.new.paths.entries in
    let ms = c.sort_paths.new.numbers in
    let r = subst (λ l. IsRanked es new l ms) c.deref_mut.ensures.value c.in-Ok.ensures in
    let none = ap (λ (d : Drafted). d.hits) c.self.view_is ∙ c.requires.ended in
    let whole = written old.numbers.len ms old.numbers.items (omega (arith, c.sort_paths.auto.numbers, c.deref_mut.ensures.len, old.numbers.ok.0)) (omega (arith, old.numbers.ok.0)) in
    rw whole (sorted_rows r c.self.invariant.2 none ∙ ap (λ (d : Drafted). d.rows) c.self.view_is, ap (λ (d : Drafted). d.skipped) c.self.view_is)
