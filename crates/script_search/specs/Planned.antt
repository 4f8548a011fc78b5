-- A script by its threads.
use Rattle.std.specs.Prelude.{◌≡◌, ℕ, ◌<◌, List, length, slice_index_or}
use Rattle.std.proofs.Common.{Vec, Global}
use Rattle.larch_actions.specs.declared.event.Layout.{Layout}
use Rattle.script_text.specs.declared.line.Line.{Line}
use Rattle.script_text.specs.Text.{IsScript}
use Rattle.script_text.specs.Runs.{lines_of}

-- the lists are the lines of the threads of a script
pub record IsPlan (l : Layout) (xs : List Line) (lists : List (Vec Line Global)) : Type 0 where
  pub script : IsScript l xs
  pub few : length xs < 100000
  pub size : length lists ≡ l.threads
  pub each : (t : ℕ) (d : Vec Line Global) → t < l.threads → (slice_index_or lists t d).items ≡ lines_of t xs
