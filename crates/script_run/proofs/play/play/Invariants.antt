use Rattle.std.proofs.Common.{take}
use Rattle.script_run.specs.Playing.{IsPlaying}
use Rattle.script_run.proofs.play.play.Given as goal

abbrev pub invariant-loop-line : goal.invariant-loop-line
invariant-loop-line g l = IsPlaying l.pkg l.number (take l.line-index l.lines) l.numbers l.me
