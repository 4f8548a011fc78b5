use Rattle.exact_text.proofs.Shown.{one_answer}
use Rattle.exact_text.specs.Exact.{lines_room}
use Rattle.script_text.specs.Text.{IsScriptText}
use Rattle.script_text.specs.Texts.{most_lines}
use Rattle.script_text.proofs.Scripts.{one_script}
use Rattle.script_text.proofs.laws.one_answer.Goals as goal

pub returns : goal.returns
returns c = record { one_answer = one_answer IsScriptText (lines_room most_lines); one_script = one_script }
