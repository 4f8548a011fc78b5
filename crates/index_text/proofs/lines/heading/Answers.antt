use Rattle.std.proofs.Common.{◌≡◌, ℕ, List, Ok, subst, sym}
use Rattle.std.specs.Option.{option_copied}
use Rattle.exact_text.specs.Reading.{as_value}
use Rattle.index_text.specs.Lines.{word, capped_heading, capped_line, heading_at, key_line_at}
use Rattle.index_text.specs.Steps.{Stops}
use Rattle.index_text.proofs.LineReads.{heading_asks, heading_is_skipped, heading_is_word, heading_stops}
use Rattle.index_text.proofs.lines.heading.Goals as goal

pub returns-in-Ok-lay : goal.returns-in-Ok-lay
returns-in-Ok-lay c =
    let last = option_copied c.args.last in
    let bytes = c.args.bytes.now in
    subst (λ (w : List ℕ). as_value capped_heading (heading_at last) bytes ≡ Ok (word w c.in-Ok.many, c.in-Ok.rest.now)) (sym c.in-Ok-lay.ensures)
    (heading_is_word last bytes c.in-Ok.word.now c.in-Ok.rest.now c.in-Ok.many c.in-Ok.ensures)

pub returns-in-Ok-skipped_line : goal.returns-in-Ok-skipped_line
returns-in-Ok-skipped_line c =
    let dead = subst (Stops (as_value capped_line (key_line_at (option_copied c.args.last)) c.args.bytes.now)) c.in-Err-Dead.field-0-is c.in-Err-Dead.ensures in
    heading_is_skipped (option_copied c.args.last) c.args.bytes.now c.skipped_line.new.out.items c.in-Ok-skipped_line.rest.now dead c.in-Ok-skipped_line.ensures

pub returns-in-Err-skipped_line : goal.returns-in-Err-skipped_line
returns-in-Err-skipped_line c =
    let dead = subst (Stops (as_value capped_line (key_line_at (option_copied c.args.last)) c.args.bytes.now)) c.in-Err-Dead.field-0-is c.in-Err-Dead.ensures in
    heading_stops (option_copied c.args.last) c.args.bytes.now dead c.in-Err-skipped_line.stop c.in-Err-skipped_line.ensures

pub returns-in-Err-More : goal.returns-in-Err-More
returns-in-Err-More c =
    heading_asks (option_copied c.args.last) c.args.bytes.now
    (subst (Stops (as_value capped_line (key_line_at (option_copied c.args.last)) c.args.bytes.now)) c.in-Err-More.field-0-is c.in-Err-More.ensures)
