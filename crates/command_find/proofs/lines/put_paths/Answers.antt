use Rattle.std.proofs.Common.{◌≡◌, ◌<◌, ◌++◌, ℕ, List, [], length, get_or, ◌∙◌, subst, arith}
use Rattle.std.proofs.lemmas.List.{get_or_read}
use Rattle.firefly_outside.specs.Causes.{AppendsPrefix}
use Rattle.text_output.specs.Sent.{Sends}
use Rattle.text_output.proofs.Pieces.{puts_failed, sends_more, fails_more, cause_on}
use Rattle.command_find.specs.Lines.{path_line}
use Rattle.command_find.proofs.lines.put_paths.Goals as goal

pub returns-in_err-put_path_line-clause-text : goal.returns-in_err-put_path_line-clause-text
returns-in_err-put_path_line-clause-text g c =
    let paths = c.args.paths.now in
    let i = c.loop-path.path-index in
    let here : i < length paths = omega arith in
    let same : c.as_bytes.result.now ≡ get_or paths i [] = c.as_bytes.ensures.value ∙ c.as_str.ensures ∙ get_or_read paths i c.path-item.result here c.path-item.is [] in
    puts_failed c.from_residual.result (g.O.Sink.held c.args.out.now) _ c.args.held.now.items _ _ c.from_residual.ensures.0
    (fails_more path_line paths i [] here _ _ _ _ _ c.loop-path.invariant.sent
    (subst (λ (x : List ℕ). AppendsPrefix (g.O.Sink.held c.loop-path.out) (g.O.Sink.held c.put_path_line.new.out) (c.loop-path.held.items ++ path_line x)) same c.in_err-put_path_line.ensures.text))

pub returns-in_err-put_path_line-clause-cause : goal.returns-in_err-put_path_line-clause-cause
returns-in_err-put_path_line-clause-cause g c = cause_on c.from_residual.result c.loop-path.invariant.later c.in_err-put_path_line.ensures.cause

pub loop-path-preserved : goal.loop-path-preserved
loop-path-preserved g c =
    let paths = c.args.paths.now in
    let i = c.loop-path.path-index in
    let here : i < length paths = omega arith in
    let same : c.as_bytes.result.now ≡ get_or paths i [] = c.as_bytes.ensures.value ∙ c.as_str.ensures ∙ get_or_read paths i c.path-item.result here c.path-item.is [] in
    record {
      sent = sends_more path_line paths i [] here _ _ _ _ _ c.loop-path.invariant.sent _
          (subst (λ (x : List ℕ). Sends (g.O.Sink.held c.loop-path.out) c.loop-path.held.items (path_line x) (g.O.Sink.held c.put_path_line.new.out) c.put_path_line.new.held.items) same c.in_ok-put_path_line.ensures.text);
      later = omega (arith, c.in_ok-put_path_line.ensures.cause.later);
    }
