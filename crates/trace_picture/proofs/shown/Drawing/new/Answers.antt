use Rattle.trace_picture.proofs.Showing.{same_drawn}
use Rattle.trace_picture.proofs.shown.Drawing.new.Goals as goal

pub returns : goal.returns
returns c = same_drawn _ _ _ _ _ _ c.new-board.ensures c.new-shown.ensures c.none-page.ensures
