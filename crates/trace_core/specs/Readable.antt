-- What is known of a line that may come next.
use Rattle.std.specs.Prelude.{◌<◌, length}
use Rattle.exact_text.specs.Codes.{IsCode}
use Rattle.exact_text.specs.Prefixes.{IsLine}
use Rattle.trace_core.specs.declared.line.Line.{Line}
use Rattle.trace_core.specs.declared.line.Expect.{Expect}
use Rattle.trace_core.specs.Lines.{IsPossible, IsAllowed, line_text, line_at}

-- It can come, is read exactly, and is a line of some length; and there is one.
pub record IsReadable (x : Expect) : Type 0 where
  pub possible : IsPossible x
  pub exact : IsCode (IsAllowed x) (line_text x) (line_at x)
  pub lines : (y : Line) → IsAllowed x y → IsLine (line_text x y) × (length (line_text x y) < 65536)
  pub some : (y : Line) × IsAllowed x y
