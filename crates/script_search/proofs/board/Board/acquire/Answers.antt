use Rattle.std.proofs.Common.{rules}
use Rattle.script_search.proofs.board.Board.acquire.Goals as goal

pub returns : goal.returns
returns c = ((record { live = search rules; order = search rules; requires_met = search rules; when_met = search rules; choice_met = search rules }, c.set_holder.ensures.spec), c.set_holder.ensures.keeps)
