use Rattle.std.proofs.Common.{◌∙◌, ap, arith, Some}
use Rattle.index_table.specs.Paths.{texts}
use Rattle.index_table.proofs.Drafts.{last_word_is}
use Rattle.index_table.proofs.draft.Draft.last_word.Goals as goal

pub returns-else-many-eq0 : goal.returns-else-many-eq0
returns-else-many-eq0 c =
    let old = c.self.inside in
    rw (← c.self.view_is) (ap Some c.get.ensures ∙ last_word_is (texts old.paths.entries) c.self.invariant.2 c.len-many.result c.len-many.ensures (omega arith))
