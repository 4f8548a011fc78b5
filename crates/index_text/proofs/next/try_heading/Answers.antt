use Rattle.std.proofs.Common.{◌≡◌, ℕ, List, Option, Ok, refl, subst}
use Rattle.std.specs.Option.{option_copied}
use Rattle.exact_text.specs.Reading.{as_value}
use Rattle.index_text.specs.Lines.{Heading, capped_heading, heading_at}
use Rattle.index_text.specs.Steps.{Stops}
use Rattle.index_text.proofs.LineCodes.{heading_code}
use Rattle.index_text.proofs.LineReads.{under_ok, under_stops}
use Rattle.index_text.proofs.States.{rows_grammar}
use Rattle.index_text.proofs.Stopping.{rest_shorter, passed, used_some, used_within}
use Rattle.index_text.proofs.next.try_heading.Goals as goal

heading_of_read : (last : Option (List ℕ)) (bytes rest : List ℕ) (z : Heading) → as_value capped_heading (heading_at last) bytes ≡ Ok (z, rest) → (x : Heading) × (heading_at last bytes ≡ Ok (x, rest)) × (capped_heading x ≡ z)
heading_of_read last bytes rest z e = under_ok capped_heading (heading_at last) bytes z rest e

pub overflow_sub-used : goal.overflow_sub-used
overflow_sub-used c = let r = heading_of_read (option_copied c.args.last) c.bytes-bytes.result.now c.in-Ok.rest.now _ c.in-Ok.ensures in rest_shorter (heading_code (option_copied c.args.last) c.requires) c.bytes-bytes.result.now c.args.intake.now.window c.in-Ok.rest.now r.0 c.bytes-bytes.ensures r.1

pub pass_line-requires-clause-some : goal.pass_line-requires-clause-some
pass_line-requires-clause-some c = let r = heading_of_read (option_copied c.args.last) c.bytes-bytes.result.now c.in-Ok.rest.now _ c.in-Ok.ensures in used_some (heading_code (option_copied c.args.last) c.requires) c.bytes-bytes.result.now c.args.intake.now.window c.in-Ok.rest.now r.0 c.bytes-bytes.ensures r.1 (rows_grammar (option_copied c.args.last)).lines

pub pass_line-requires-clause-within : goal.pass_line-requires-clause-within
pass_line-requires-clause-within c = let r = heading_of_read (option_copied c.args.last) c.bytes-bytes.result.now c.in-Ok.rest.now _ c.in-Ok.ensures in used_within (heading_code (option_copied c.args.last) c.requires) c.bytes-bytes.result.now c.args.intake.now.window c.in-Ok.rest.now r.0 c.bytes-bytes.ensures r.1

pub returns : goal.returns
returns c =
    let r = heading_of_read (option_copied c.args.last) c.bytes-bytes.result.now c.in-Ok.rest.now _ c.in-Ok.ensures in let p = c.pass_line.ensures in
    (r.0, r.2, passed (heading_code (option_copied c.args.last) c.requires) c.bytes-bytes.result.now c.args.intake.now.window c.in-Ok.rest.now r.0 c.bytes-bytes.ensures r.1 c.pass_line.new.self.window p.window, p.lines, p.given, p.budget)

pub returns-in-Err : goal.returns-in-Err
returns-in-Err c =
    let last = option_copied c.args.last in
    (subst (λ (b : List ℕ). Stops (heading_at last b) c.in-Err.stop) c.bytes-bytes.ensures (under_stops capped_heading (heading_at last) c.bytes-bytes.result.now c.in-Err.stop c.in-Err.ensures), refl)
