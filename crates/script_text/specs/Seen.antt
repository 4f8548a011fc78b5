-- What callers see of a script.
use Rattle.std.specs.Prelude.{List}
use Rattle.larch_actions.specs.declared.event.Layout.{Layout}
use Rattle.script_text.specs.declared.line.Line.{Line}

pub record Seen : Type 0 where
  pub layout : Layout
  pub lines : List Line
