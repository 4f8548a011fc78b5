use Rattle.std.proofs.Common.{◌≡◌, ◌-◌, [], ◌∷◌, ◌++◌, length, length-append, append-nil, ap, sym, subst, ◌∙◌, arith}
use Rattle.std.specs.Prelude.{is_ok, not, true}
use Rattle.std.specs.List.{AllByRecursion, flat_map}
use Rattle.std.specs.Io.KnownBytes.{Consumes}
use Rattle.std.proofs.KnownBytes.{Consumes-trans}
use Rattle.std.proofs.lemmas.List.Concat.{flat_map-append}
use Rattle.exact_text.specs.Exact.{HasReason, lines_room}
use Rattle.exact_text.specs.Intake.{rest_of}
use Rattle.exact_text.proofs.LinesOf.{reach_lines, lines_before, all_append}
use Rattle.exact_text.proofs.Stuck.{all_read}
use Rattle.exact_text.proofs.Texts.{or_memory, reason_after}
use Rattle.command_jobs.specs.JobLines.{IsJobs, IsLawful, line_text, most_lines}
use Rattle.command_jobs.specs.JobReading.{job_code, job_is_line}
use Rattle.command_jobs.proofs.JobTexts.{read_as}
use Rattle.command_jobs.proofs.job_read.read_jobs.Goals as goal

pub loop-line-preserved : goal.loop-line-preserved
loop-line-preserved g c =
    let was = c.loop-line.invariant in
    let line = c.in-Ok-Some.line in
    let lines = c.loop-line.lines.items in
    let e = c.in-Ok-Some.ensures in
    let taken = rw c.in-Ok-Some.field-0-is at e.line in
    let counted = rw c.in-Ok-Some.field-0-is at e.counted in
    let room = rw c.in-Ok-Some.field-0-is at e.room in
    let ok : is_ok c.push.result ≡ true = c.is_err.ensures.negation ∙ ap not c.if-is_err.false in
    let items : c.push.new.self.items ≡ lines ++ line ∷ [] = rw ok at c.push.ensures.items in
    let one : flat_map line_text (line ∷ []) ≡ line_text line = append-nil (line_text line) in
    record {
      lawful = subst (AllByRecursion IsLawful) (sym items) (all_append IsLawful lines (line ∷ []) was.lawful (taken.0, tt));
      few = omega (arith, ap length items, length-append lines (line ∷ []), counted.0, was.counted);
      counted = omega (arith, ap length items, length-append lines (line ∷ []), counted.1, was.counted);
      room = omega (arith, ap length items, length-append lines (line ∷ []), room, was.room);
      consumed =
          subst (Consumes (g.I.Source.left c.args.input.now) (rest_of c.another_line.new.intake (g.I.Source.left c.another_line.new.input))) (sym (ap (flat_map line_text) items ∙ flat_map-append line_text lines (line ∷ []) ∙ ap (λ l. flat_map line_text lines ++ l) one))
          (Consumes-trans (g.I.Source.left c.args.input.now) (rest_of c.loop-line.intake (g.I.Source.left c.loop-line.input)) _ (flat_map line_text lines) (line_text line) was.consumed taken.1);
      unfailed = e.reported.unfailed ∙ was.unfailed;
    }

pub returns-in-Err-clause-fault : goal.returns-in-Err-clause-fault
returns-in-Err-clause-fault g c =
    let was = c.loop-line.invariant in
    let xs = c.loop-line.lines.items in
    or_memory (HasReason IsJobs (lines_room most_lines) 0 (g.I.Source.left c.args.input.now) (g.I.Source.left c.another_line.new.input) (g.I.Source.faults c.args.input.now) (g.I.Source.faults c.another_line.new.input)) c.in-Err.fault
    (reason_after (flat_map line_text xs) (lines_before job_code (λ x h. (job_is_line x h).0) xs was.lawful 100000 (100000 - c.loop-line.intake.lines) (omega (arith, was.few, was.counted))) (reach_lines job_code (λ x h. (job_is_line x h).0) xs was.lawful) (g.I.Source.left c.args.input.now)
    (rest_of c.loop-line.intake (g.I.Source.left c.loop-line.input)) (g.I.Source.left c.another_line.new.input) 0 c.loop-line.intake.lines _ _ _ c.in-Err.fault was.consumed (omega (arith, was.counted)) (omega (arith, was.unfailed)) c.in-Err.ensures.fault)

pub returns-in-Ok-None-clause-lines : goal.returns-in-Ok-None-clause-lines
returns-in-Ok-None-clause-lines g c =
    let was = c.loop-line.invariant in
    let end = rw c.in-Ok-None.field-0-is at c.in-Ok-None.ensures.end in
    read_as (g.I.Source.left c.args.input.now) c.loop-line.lines.items was.lawful
    (all_read (g.I.Source.left c.args.input.now) (rest_of c.loop-line.intake (g.I.Source.left c.loop-line.input)) (flat_map line_text c.loop-line.lines.items) [] (flat_map line_text c.loop-line.lines.items) was.consumed end.0 (append-nil (flat_map line_text c.loop-line.lines.items)))
