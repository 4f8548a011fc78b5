use Rattle.std.proofs.Common.{◌∙◌, sym}
use Rattle.script_search.proofs.Keyed.{as_many}
use Rattle.script_search.proofs.found.Found.len.Goals as goal

pub returns : goal.returns
returns c = c.len.ensures.len ∙ sym (as_many c.args.self.now)
