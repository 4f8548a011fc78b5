use Rattle.trace_picture.proofs.Signals as signals
use Rattle.trace_picture.proofs.laws.signals_are_drawn.Goals as goal

pub returns : goal.returns
returns c = signals.signals_are_drawn
