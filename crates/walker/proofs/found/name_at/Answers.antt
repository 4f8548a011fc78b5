use Rattle.std.proofs.Common.{◌∙◌, arith, sym}
use Rattle.walker.proofs.FoundLemmas.{name_found}
use Rattle.walker.proofs.found.name_at.Goals as goal

pub returns : goal.returns
returns c = name_found c.args.root.now c.args.files.now.items c.args.at c.index.result.now c.name_below.result.now c.requires.within (sym c.index.ensures) (c.name_below.ensures ∙ c.as_str.ensures)
